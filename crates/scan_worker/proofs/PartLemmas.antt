-- How the reading of an open file ends, by what was read of it so far.
use Rattle.std.proofs.Common.{◌≡◌, ◌⊎◌, inl, inr, ◌+◌, ◌≤◌, ℕ, Bool, true, List, [], ◌++◌, refl, arith, Result, Ok, Err}
use Rattle.std.specs.Prelude.{IfOk}
use Rattle.file_formats.specs.Windows.{range}
use Rattle.file_formats.proofs.PartLaws.{part-inside}
use Rattle.file_picture.specs.Agrees.{AgreesWithPicture, AsksOf}
use Rattle.file_picture.specs.Counts.{is_known, is_known_or}
use Rattle.file_picture.specs.Passed.{HasPassed}
use Rattle.file_picture.specs.Picture.{PictureFacts, IsCovered, IsPicture}
use Rattle.file_picture.specs.ReadSoFar.{IsNextRead, IsReadSoFar}
use Rattle.file_picture.proofs.ReadSoFarLaws.{next-read-keeps}
use Rattle.row_types.specs.Faults.{Rose}
use Rattle.row_types.specs.Name.{NameFacts}
use Rattle.row_types.specs.Row.{RowFacts}
use Rattle.row_types.specs.Stamp.{StampFacts}
use Rattle.row_types.specs.declared.limits.TheConstants.{READ_LIMIT}
use Rattle.tree_trait.specs.Fills.{HearsReads}
use Rattle.tree_trait.specs.Found.{Versions}
use Rattle.tree_trait.specs.Needs.{ReadsSoFar}
use Rattle.tree_trait.specs.Opened.{HoldsPicture}
use Rattle.tree_trait.specs.Reader.{IsReadPart}
use Rattle.tree_trait.specs.Shown.{ShownTree}
use Rattle.tree_trait.specs.declared.filling.FillAnswer.TheVariants as filled
use Rattle.tree_trait.proofs.FillLemmas.{reads_then}
use Rattle.tree_trait.proofs.NeedLemmas.{failed_last, hears_so, own_more, ranges_more}
use Rattle.scan_worker.specs.Parts.{LeavesPart, MakesRow, ReadsOpenFile, StopsReading}
use Rattle.scan_worker.specs.declared.read.NameRead.{NameRead}
use Rattle.scan_worker.specs.declared.read.NameRead.TheVariants.{Row, Altered, Failed, OutOfMemory}

-- a part lies in the file
pub part_fits : {version : Versions} {path : List ℕ} {stamp of : StampFacts} {p : PictureFacts} {at len : ℕ}
    → HoldsPicture version path stamp p → AsksOf (IsReadPart of) p at len → at + len ≤ stamp.size
part_fits {at = at} {len} h asks =
    let inside = part-inside h.seen.bytes (range at len) (asks.among h.seen.bytes h.seen.agrees).part in
    let long = h.seen.agrees.sized in
    let sized = h.sized in
    omega (arith, inside, long, sized)

-- what was passed before a part was read is passed behind it
pub passes_on : {A E : Type 0} (old new : PictureFacts) (given : Result A E) (i : ℕ)
    → IfOk given (λ _. (k : ℕ) → HasPassed old k → HasPassed new k) → HasPassed old i → IfOk given (λ _. HasPassed new i)
passes_on old new (Ok a) i each passed = each i passed
passes_on old new (Err e) i each passed = tt

-- a part that may be read and was filled keeps what was read so far
pub filled_so_far : {at len : ℕ} {stamp : StampFacts} {old new : PictureFacts} → IsPicture new → new.size ≡ old.size
    → IsReadSoFar READ_LIMIT old → AsksOf (IsReadPart stamp) old at len → IsNextRead READ_LIMIT old at len
    → ((place : ℕ) → is_known new place ≡ true → is_known_or old at len place ≡ true)
    → ((from n : ℕ) → IsCovered old from n → IsCovered new from n) → ((b : List ℕ) → AgreesWithPicture b new → AgreesWithPicture b old)
    → IsReadSoFar READ_LIMIT new
filled_so_far {at} {len} {stamp} {old} {new} is size read asks next only keeps less =
    next-read-keeps READ_LIMIT old at len new read (record { gone = asks.gone; among = λ b f. (asks.among b f).part }) next
    (record { is = is; size = size; only = only; keeps = keeps; less = less })

module _ {told : Bool} {version : Versions} {name : NameFacts} where
  -- the parts are there, and the row is made
  stops_row : {W : Type 0} {start before after : ShownTree} {now : PictureFacts} {row : RowFacts}
      (s : ReadsSoFar (IsReadPart name.stamp) told version name start before now) → MakesRow told version name before after now row
      → ReadsOpenFile {W = W} told version name name.stamp start after (Row row)
  stops_row s m = record {
    reads = s.reads;
    hears = hears_so s m.hears;
    own = s.own;
    parts = s.ranges;
    leads = (
      (
        refl,
        record {
          bytes = m.seen.bytes;
          has = s.has m.seen.bytes m.seen.agrees;
          is = λ b h. m.is.is b (s.agrees b h);
        },
      ),
      record { bytes = m.seen.bytes; known = m.seen.known; has = s.has m.seen.bytes m.seen.agrees },
    );
    rose = λ is. absurd (cc);
  }

  -- a read failed
  stops_failed : {W : Type 0} {start before after : ShownTree} {now : PictureFacts}
      (s : ReadsSoFar (IsReadPart name.stamp) told version name start before now) → LeavesPart told version name before after now filled.Failed
      → Rose before.faults after.faults → ReadsOpenFile {W = W} told version name name.stamp start after Failed
  stops_failed s left rose =
      let later = s.hears.hand.cause.later in
      record {
        reads = s.reads ++ left.part.fills.reads;
        hears = reads_then s.hears left.part.fills.hears;
        own = own_more s left.part;
        parts = ranges_more s left.part;
        leads = (refl, failed_last s left.part);
        rose = λ _. omega (arith, later, rose);
      }

  -- memory was refused, for the row or for a part
  stops_wanting : {W : Type 0} {start before after : ShownTree} {now : PictureFacts}
      (s : ReadsSoFar (IsReadPart name.stamp) told version name start before now)
      → HearsReads told version before after [] ⊎ LeavesPart told version name before after now filled.OutOfMemory
      → ReadsOpenFile {W = W} told version name name.stamp start after OutOfMemory
  stops_wanting s (inl none) = record {
    reads = s.reads;
    hears = hears_so s none;
    own = s.own;
    parts = s.ranges;
    leads = refl;
    rose = λ is. absurd (cc);
  }
  stops_wanting s (inr left) = record {
    reads = s.reads ++ left.part.fills.reads;
    hears = reads_then s.hears left.part.fills.hears;
    own = own_more s left.part;
    parts = ranges_more s left.part;
    leads = refl;
    rose = λ is. absurd (cc);
  }

  -- the reading stops
  pub stops_so : {W : Type 0} {start before after : ShownTree} {now : PictureFacts} (given : NameRead W)
      → ReadsSoFar (IsReadPart name.stamp) told version name start before now → StopsReading told version name before after now given
      → ReadsOpenFile told version name name.stamp start after given
  stops_so (Row row) s stop = stops_row s stop
  stops_so (Altered met) s stop = absurd stop
  stops_so Failed s stop = stops_failed s stop.0 stop.1
  stops_so OutOfMemory s stop = stops_wanting s stop
