-- How the reading of all that an answer rests on ends, by what was read so far.
use Rattle.std.proofs.Common.{◌≡◌, ℕ, ◌+◌, ◌||◌, Bool, false, List, ◌++◌, refl, ◌∙◌, ap, subst, arith}
use Rattle.std.specs.List.{list_any}
use Rattle.std.proofs.lemmas.List.Folds.{list_any-append}
use Rattle.file_formats.specs.Windows.{Range}
use Rattle.file_picture.specs.Agrees.{AsksOf}
use Rattle.file_picture.specs.Picture.{PictureFacts}
use Rattle.row_types.specs.Faults.{Rose}
use Rattle.row_types.specs.Name.{NameFacts}
use Rattle.tree_trait.specs.Fills.{AreRunsRead, FillsRange, none_left, run_read, run_failed, no_room, not_kept}
use Rattle.tree_trait.specs.Found.{Versions}
use Rattle.tree_trait.specs.Heard.{Heard, call_failed}
use Rattle.tree_trait.specs.Needs.{FillsNeed, ReadsSoFar}
use Rattle.tree_trait.specs.Shown.{ShownTree}
use Rattle.tree_trait.specs.declared.filling.FillAnswer.{FillAnswer}
use Rattle.tree_trait.specs.declared.filling.FillAnswer.TheVariants.{Done, Failed, OutOfMemory}
use Rattle.tree_trait.proofs.FillLemmas.{reads_then}
use Rattle.tree_trait.proofs.NeedLemmas.{failed_last, own_more, ranges_more}
use Rattle.file_parts.specs.Wholes.{FillsWhole, IsThereWhole}

-- where memory was refused, no read had failed
runs_wanting : {name : NameFacts} {p : PictureFacts} {at to : ℕ} {end : FillAnswer} {reads : List Heard}
    → AreRunsRead name p at to end reads → end ≡ OutOfMemory → list_any call_failed reads ≡ false
runs_wanting (none_left at to covered) is = refl
runs_wanting (run_read at to place bytes end rest gap runs) is = runs_wanting runs is
runs_wanting (run_failed at to place count gap) is = absurd (cc)
runs_wanting (no_room at to) is = refl
runs_wanting (not_kept at to place bytes gap) is = refl

module _ {Of : List ℕ → Range → Type 0} {told : Bool} {version : Versions} {name : NameFacts} where
  -- a range that was filled, of the file of the name
  pub need_filled : {before after : ShownTree} {old new : PictureFacts} {end : FillAnswer} {own : NameFacts} (at len : ℕ)
      → AsksOf Of old at len → own ≡ name → FillsRange told version before after own old new at (at + len) end
      → FillsNeed Of told version name before after old new end
  need_filled {before} {after} {old} {new} {end} at len asks same fills = record {
    at = at;
    len = len;
    asks = asks;
    fills = subst (λ (n : NameFacts). FillsRange told version before after n old new at (at + len) end) same fills;
  }

  -- all is there
  pub whole_filled : {start after : ShownTree} {now : PictureFacts} → ReadsSoFar Of told version name start after now
      → IsThereWhole Of now → FillsWhole Of told version name start after now Done
  whole_filled s there = record {
    reads = s.reads;
    hears = s.hears;
    own = s.own;
    ranges = s.ranges;
    done = λ _. record { agrees = s.agrees; has = s.has; there = there };
    filled = λ _. s.filled;
    failed = λ is. absurd (cc);
    rose = λ is. absurd (cc);
    wanting = λ is. absurd (cc);
  }

  -- a read failed
  pub whole_failed : {start before after : ShownTree} {old new : PictureFacts} → ReadsSoFar Of told version name start before old
      → FillsNeed Of told version name before after old new Failed → Rose before.faults after.faults
      → FillsWhole Of told version name start after new Failed
  whole_failed s p rose =
      let later = s.hears.hand.cause.later in
      record {
        reads = s.reads ++ p.fills.reads;
        hears = reads_then s.hears p.fills.hears;
        own = own_more s p;
        ranges = ranges_more s p;
        done = λ is. absurd (cc);
        filled = λ is. absurd (cc);
        failed = λ _. failed_last s p;
        rose = λ _. omega (arith, later, rose);
        wanting = λ is. absurd (cc);
      }

  -- memory was refused
  pub whole_wanting : {start before after : ShownTree} {old new : PictureFacts} → ReadsSoFar Of told version name start before old
      → FillsNeed Of told version name before after old new OutOfMemory
      → FillsWhole Of told version name start after new OutOfMemory
  whole_wanting s p = record {
    reads = s.reads ++ p.fills.reads;
    hears = reads_then s.hears p.fills.hears;
    own = own_more s p;
    ranges = ranges_more s p;
    done = λ is. absurd (cc);
    filled = λ is. absurd (cc);
    failed = λ is. absurd (cc);
    rose = λ is. absurd (cc);
    wanting = λ _.
        list_any-append call_failed s.reads p.fills.reads
        ∙ ap (λ (b : Bool). b || list_any call_failed p.fills.reads) s.filled
        ∙ runs_wanting p.fills.runs refl;
  }
