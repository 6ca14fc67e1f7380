-- What was read of an open file, from nothing and range by range.
use Rattle.std.proofs.Common.{◌≡◌, ℕ, ◌+◌, ◌||◌, Bool, List, [], ◌∷◌, ◌++◌, Some, refl, sym, ◌∙◌, ap, subst, append_assoc, arith}
use Rattle.std.specs.List.{All, list_any}
use Rattle.std.specs.Prelude.{◌≢◌}
use Rattle.std.proofs.lemmas.List.{append-nil}
use Rattle.std.proofs.lemmas.List.Elements.{All-append, All-nil, All-weaker}
use Rattle.std.proofs.lemmas.List.Folds.{list_any-append}
use Rattle.file_formats.specs.Windows.{Range, range}
use Rattle.file_picture.specs.Picture.{PictureFacts, known_byte}
use Rattle.row_types.specs.Name.{NameFacts}
use Rattle.tree_trait.specs.Fills.{HasFailedLast, HasRead, HasReads, HearsReads, IsReadAmong, IsReadIn, IsReadOfFile}
use Rattle.tree_trait.specs.Found.{Versions}
use Rattle.tree_trait.specs.Heard.{Heard, call_failed}
use Rattle.tree_trait.specs.Needs.{AsksRanges, FillsNeed, ReadsSoFar}
use Rattle.tree_trait.specs.Opened.{unread_picture}
use Rattle.tree_trait.specs.Shown.{ShownTree}
use Rattle.tree_trait.specs.declared.filling.FillAnswer.{FillAnswer}
use Rattle.tree_trait.specs.declared.filling.FillAnswer.TheVariants.{Done, Failed, OutOfMemory}
use Rattle.tree_trait.proofs.FillLemmas.{reads_none, reads_own, reads_then, runs_fail, runs_filled, runs_within}
use Rattle.tree_trait.proofs.ListenLemmas.{heard_front, rest_all}

-- of nothing no byte is known
unread_known : (size place x : ℕ) → known_byte (unread_picture size) place ≡ Some x → ⊥
unread_known size place x e = absurd (cc)

-- a whole run was kept, also one behind which a read failed
done_kept : Done ≢ OutOfMemory
done_kept e = absurd (cc)

-- a read in a range is among those of such ranges
among_range : (name : NameFacts) (Of : Range → Type 0) (r : Range) → Of r → (asked : Heard) → IsReadIn name r asked
    → IsReadAmong name Of asked
among_range name Of r is asked within = record { range = r; among = is; within = within }

module _ {Of : List ℕ → Range → Type 0} {told : Bool} {version : Versions} {name : NameFacts} where
  -- nothing was read yet
  pub reads_so_far_none : {hand : ShownTree} → ReadsSoFar Of told version name hand hand (unread_picture name.stamp.size)
  reads_so_far_none = record {
    reads = [];
    hears = reads_none;
    own = All-nil (IsReadOfFile name);
    ranges = λ b h. All-nil (IsReadAmong name (Of b));
    agrees = λ b h. record {
      sized = h.sized;
      same = λ place x known. absurd (unread_known name.stamp.size place x known);
    };
    has = λ b f. record { sized = f.sized; each = All-nil (HasRead b) };
    filled = refl;
  }

  -- the reads of a range that was filled
  need_within : {before after : ShownTree} {old new : PictureFacts} {end : FillAnswer}
      (p : FillsNeed Of told version name before after old new end) → All (IsReadIn name (range p.at p.len)) p.fills.reads
  need_within p = runs_within {at = p.at} {to = p.at + p.len} p.at p.len (omega arith) (omega arith) (omega arith) p.fills.runs

  pub own_more : {start before after : ShownTree} {old new : PictureFacts} {end : FillAnswer}
      (s : ReadsSoFar Of told version name start before old) (p : FillsNeed Of told version name before after old new end)
      → All (IsReadOfFile name) (s.reads ++ p.fills.reads)
  own_more s p =
      All-append (IsReadOfFile name) s.reads p.fills.reads s.own
      (reads_own name (range p.at p.len) p.fills.reads (need_within p))

  had_before : {start before : ShownTree} {old : PictureFacts} (s : ReadsSoFar Of told version name start before old)
      (more : List Heard) (b : List ℕ) → HasReads name.stamp.size (s.reads ++ more) b → HasReads name.stamp.size s.reads b
  had_before s more b h = record { sized = h.sized; each = heard_front (HasRead b) s.reads more h.each }

  pub ranges_more : {start before after : ShownTree} {old new : PictureFacts} {end : FillAnswer}
      (s : ReadsSoFar Of told version name start before old) (p : FillsNeed Of told version name before after old new end)
      → AsksRanges Of name (s.reads ++ p.fills.reads)
  ranges_more s p = λ b h.
      let had : HasReads name.stamp.size s.reads b = had_before s p.fills.reads b h in
      let is : Of b (range p.at p.len) = p.asks.among b (s.agrees b had) in
      All-append (IsReadAmong name (Of b)) s.reads p.fills.reads (s.ranges b had)
      (All-weaker (IsReadIn name (range p.at p.len)) (IsReadAmong name (Of b))
      (among_range name (Of b) (range p.at p.len) is) p.fills.reads (need_within p))

  -- one range more
  pub reads_so_far_more : {start before after : ShownTree} {old new : PictureFacts}
      (s : ReadsSoFar Of told version name start before old)
      (p : FillsNeed Of told version name before after old new Done) → ReadsSoFar Of told version name start after new
  reads_so_far_more s p = record {
    reads = s.reads ++ p.fills.reads;
    hears = reads_then s.hears p.fills.hears;
    own = own_more s p;
    ranges = ranges_more s p;
    agrees = λ b h.
        p.fills.more b (s.agrees b (had_before s p.fills.reads b h)) (rest_all (HasRead b) s.reads p.fills.reads h.each);
    has = λ b f.
        let had : HasReads name.stamp.size s.reads b = s.has b (p.fills.less b f) in
        record {
          sized = had.sized;
          each = All-append (HasRead b) s.reads p.fills.reads had.each (p.fills.kept done_kept b f);
        };
    filled = list_any-append call_failed s.reads p.fills.reads
        ∙ ap (λ (b : Bool). b || list_any call_failed p.fills.reads) s.filled
        ∙ runs_filled p.fills.runs refl;
  }

  -- the last read failed
  pub failed_last : {start before after : ShownTree} {old new : PictureFacts}
      (s : ReadsSoFar Of told version name start before old)
      (p : FillsNeed Of told version name before after old new Failed) → HasFailedLast (s.reads ++ p.fills.reads)
  failed_last s p =
      let last : HasFailedLast p.fills.reads = runs_fail p.fills.runs refl in
      record {
        front = s.reads ++ last.front;
        last = last.last;
        all = ap (λ (more : List Heard). s.reads ++ more) last.all
            ∙ sym (append_assoc s.reads last.front (last.last ∷ []));
        failed = last.failed;
      }

  -- reads that found nothing new are none
  pub hears_so : {start before after : ShownTree} {now : PictureFacts} (s : ReadsSoFar Of told version name start before now)
      → HearsReads told version before after [] → HearsReads told version start after s.reads
  hears_so {start = start} {after = after} s none =
      subst (HearsReads told version start after) (append-nil s.reads) (reads_then s.hears none)
