-- How the reading of what decides the answer ends.
use Rattle.std.proofs.Common.{◌≡◌, inl, inr, ◌<◌, ◌≤◌, ℕ, Bool, List, [], Err, refl, sym, ◌∙◌, ap, subst, arith}
use Rattle.file_picture.specs.Picture.{PictureFacts, sum_of}
use Rattle.row_types.specs.Name.{NameFacts}
use Rattle.row_types.specs.Stamp.{StampFacts}
use Rattle.row_types.specs.declared.limits.TheConstants.{FILE_LIMIT, READ_LIMIT}
use Rattle.tree_trait.specs.Asks.{AsksTree}
use Rattle.tree_trait.specs.Fills.{HearsReads}
use Rattle.tree_trait.specs.Found.{Versions}
use Rattle.tree_trait.specs.Heard.{open_file}
use Rattle.tree_trait.specs.Needs.{FillsNeed, ReadsSoFar}
use Rattle.tree_trait.specs.Open.{was_opened}
use Rattle.tree_trait.specs.Opened.{HoldsPicture, OpenedFacts, opened_name}
use Rattle.tree_trait.specs.Shown.{ShownTree}
use Rattle.tree_trait.specs.declared.filling.FillAnswer.{FillAnswer}
use Rattle.tree_trait.specs.declared.filling.FillAnswer.TheVariants.{Done, Failed, OutOfMemory}
use Rattle.tree_trait.proofs.FillLemmas.{listens_reads}
use Rattle.tree_trait.proofs.ListenLemmas.{listens_one, listens_then, stays_on}
use Rattle.tree_trait.proofs.NeedLemmas.{hears_so}
use Rattle.file_parts.specs.AtPath.{SeesAtPath, SeesOpened, stamped_name}
use Rattle.file_parts.specs.Found.{Decides, FillsFound, FindsAtPath, FindsOpened, IsFound, IsSeenFound, StepsFound}
use Rattle.file_parts.specs.Wholes.{FillsWhole, needs_of}
use Rattle.file_parts.specs.declared.part.FilePart.{FilePart}
use Rattle.file_parts.specs.declared.seen.FileSeen.{FileSeen}
use Rattle.file_parts.specs.declared.seen.FileSeen.TheVariants as seen
use Rattle.file_parts.proofs.PathLemmas.{answer_failed}
use Rattle.file_parts.proofs.WholeLemmas.{whole_failed, whole_wanting}

-- a range more, of the file of the name
pub found_more : (which : FilePart) {told : Bool} {version : Versions} {own name : NameFacts} {before after : ShownTree} {old new : PictureFacts}
    → own ≡ name
    → FillsNeed (needs_of which) told version own before after old new Done × (sum_of old.pieces < sum_of new.pieces)
    → FillsNeed (needs_of which) told version name before after old new Done
found_more which {told} {version} {before = before} {after} {old} {new} same step =
    subst (λ (n : NameFacts). FillsNeed (needs_of which) told version n before after old new Done) same step.0

-- nothing more was read, and memory was refused
found_wanting : (which : FilePart) {told : Bool} {version : Versions} {name : NameFacts} {start before after : ShownTree} {old : PictureFacts} (new : PictureFacts)
    → ReadsSoFar (needs_of which) told version name start before old → HearsReads told version before after []
    → FillsWhole (needs_of which) told version name start after new OutOfMemory
found_wanting which new s none = record {
  reads = s.reads;
  hears = hears_so s none;
  own = s.own;
  ranges = s.ranges;
  done = λ is. absurd (cc);
  filled = λ is. absurd (cc);
  failed = λ is. absurd (cc);
  rose = λ is. absurd (cc);
  wanting = λ _. s.filled;
}

pub found_ends : (which : FilePart) {told : Bool} {version : Versions} {own name : NameFacts} {start before : ShownTree} {old : PictureFacts}
    (after : ShownTree) (new : PictureFacts) (end : FillAnswer) → ReadsSoFar (needs_of which) told version name start before old → own ≡ name → sum_of old.pieces ≤ READ_LIMIT
    → StepsFound which told version own before after old new (Err end) → FillsFound which told version name start after new end
found_ends which {told} {version} {own} {name} {start} {before} {old} after new Done s same small step =
    let now = step.1 in (
      subst (λ p. ReadsSoFar (needs_of which) told version name start after p) (sym now) (record {
        reads = s.reads;
        hears = hears_so s step.0;
        own = s.own;
        ranges = s.ranges;
        agrees = s.agrees;
        has = s.has;
        filled = s.filled;
      }),
      subst (λ (p : PictureFacts). sum_of p.pieces ≤ READ_LIMIT) (sym now) small,
      subst (Decides which) (sym now) step.2,
    )
found_ends which {told} {version} {before = before} {old} after new Failed s same small step =
    whole_failed s (subst (λ (n : NameFacts). FillsNeed (needs_of which) told version n before after old new Failed) same step.0) step.1
found_ends which {told} {version} {before = before} {old} after new OutOfMemory s same small (inl none) = found_wanting which new s none.0
found_ends which {told} {version} {before = before} {old} after new OutOfMemory s same small (inr need) =
    whole_wanting s (subst (λ (n : NameFacts). FillsNeed (needs_of which) told version n before after old new OutOfMemory) same need)

-- ---- the opening, and the reads behind it

module _ {W F : Type 0} {name_of : F → NameFacts} (which : FilePart) {told : Bool} {version : Versions} {path : List ℕ} where
  -- what was seen is found, where nothing was read whole
  pub opened_found : {stamp : StampFacts} {before after : ShownTree} {found : FileSeen W F}
      (s : SeesOpened name_of (needs_of which) told version path stamp before after found) → IsSeenFound which found s.reads
      → FindsOpened name_of which told version path stamp before after found
  opened_found s decided = record {
    reads = s.reads;
    hears = s.hears;
    own = s.own;
    ranges = s.ranges;
    gives = s.gives;
    decided = decided;
    rose = s.rose;
    named = s.named;
  }

  pub path_found : {before after : ShownTree} {found : FileSeen W F} (s : SeesAtPath name_of (needs_of which) told version path before after found)
      → IsSeenFound which found s.reads → FindsAtPath name_of which told version path before after found
  path_found s decided = record { reads = s.reads; asks = s.asks; decided = decided; named = s.named }

  -- the answer is decided
  pub finds_read : {stamp : StampFacts} {before after : ShownTree} {own : NameFacts} → own ≡ stamped_name path stamp → (opened : OpenedFacts F)
      → opened_name opened ≡ own → name_of opened.file ≡ opened_name opened → HoldsPicture version opened.path opened.stamp opened.picture
      → FillsFound which told version own before after opened.picture Done
      → FindsOpened {W = W} {F = F} name_of which told version path stamp before after (seen.Read opened)
  finds_read {stamp} {before} {after} same opened named file holds fills =
      let so : ReadsSoFar (needs_of which) told version (stamped_name path stamp) before after opened.picture =
      subst (λ (n : NameFacts). ReadsSoFar (needs_of which) told version n before after opened.picture) same fills.0 in
      let stamped : opened.stamp ≡ stamp = ap (λ (n : NameFacts). n.stamp) (named ∙ same) in
      record {
        reads = so.reads;
        hears = so.hears;
        own = so.own;
        ranges = so.ranges;
        gives = (
          stamped,
          refl,
          record {
            bytes = holds.seen.bytes;
            known = subst (λ (n : NameFacts). version n.path n.stamp holds.seen.bytes) (named ∙ same) holds.seen.known;
            has = so.has holds.seen.bytes holds.seen.agrees;
          },
          so.filled,
        );
        decided = subst (λ (t : StampFacts). IsFound which t.size so.reads opened.picture) (sym stamped)
            (record { agrees = so.agrees; has = so.has; small = fills.1; decides = fills.2 });
        rose = λ never. absurd (cc);
        named = (file, ap (λ (n : NameFacts). n.path) (named ∙ same));
      }

  -- the file was opened, and read
  pub opened_then : {stamp : StampFacts} {before mid after : ShownTree} (found : FileSeen W F)
      → AsksTree told version before mid (open_file path FILE_LIMIT (was_opened stamp))
      → FindsOpened name_of which told version path stamp mid after found → FindsAtPath name_of which told version path before after found
  opened_then {stamp} found asks sees = record {
    reads = sees.reads;
    asks = record {
      opening = was_opened stamp;
      reads = sees.reads;
      listens = listens_then (listens_one (open_file path FILE_LIMIT (was_opened stamp)) asks)
          (listens_reads (stamped_name path stamp) sees.hears sees.own);
      alone = tt;
      hands = record {
        cause = record {
          later = let a = asks.hands.cause.later in let b = sees.hears.hand.cause.later in omega (arith, a, b);
          rose = λ is.
              let later = asks.hands.cause.later in
              let rose = sees.rose (answer_failed found sees.reads is) in
              omega (arith, later, rose);
        };
        known = λ t asked. sees.hears.hand.keeps t (asks.hands.known t asked);
        keeps = λ t known. sees.hears.hand.keeps t (asks.hands.keeps t known);
        still = stays_on asks.hands.still sees.hears.hand.still;
      };
      ranges = (sees.own, sees.ranges);
      gives = sees.gives;
    };
    decided = sees.decided;
    named = sees.named;
  }
