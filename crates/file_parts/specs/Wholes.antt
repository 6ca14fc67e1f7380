-- What an answer on a file rests on, read as a whole (this project's rule).
use Rattle.std.specs.Prelude.{◌≡◌, ℕ, Bool, false, List, All, Option}
use Rattle.std.specs.List.{list_any}
use Rattle.file_formats.specs.Parts.{IsSomePart, IsSomeSection}
use Rattle.file_formats.specs.Table.{IsSectionAnswer}
use Rattle.file_formats.specs.Windows.{IsSomeWindow, Range}
use Rattle.file_picture.specs.Agrees.{AgreesWithPicture, AsksOf, IsOfEach}
use Rattle.file_picture.specs.Passed.{HasPassed}
use Rattle.file_picture.specs.Picture.{IsCovered, PictureFacts}
use Rattle.row_types.specs.Faults.{Rose}
use Rattle.row_types.specs.Name.{NameFacts}
use Rattle.tree_trait.specs.Fills.{HasFailedLast, HasReads, HearsReads, IsReadOfFile}
use Rattle.tree_trait.specs.Found.{Versions}
use Rattle.tree_trait.specs.Heard.{Heard, call_failed}
use Rattle.tree_trait.specs.Needs.{AsksRanges}
use Rattle.tree_trait.specs.Shown.{ShownTree}
use Rattle.tree_trait.specs.declared.filling.FillAnswer.{FillAnswer}
use Rattle.tree_trait.specs.declared.filling.FillAnswer.TheVariants.{Done, Failed, OutOfMemory}
use Rattle.file_parts.specs.declared.part.FilePart.{FilePart}
use Rattle.file_parts.specs.declared.part.FilePart.TheVariants as part
use Rattle.file_parts.specs.declared.part.PartNeed.{PartNeed}

-- the ranges of a file that it rests on
abbrev pub needs_of : FilePart → List ℕ → Range → Type 0
needs_of part.Identity = IsSomeWindow
needs_of part.Debug = IsSomePart
needs_of (part.Section name) = IsSomeSection name.now

-- all such ranges of each file that agrees with the picture are there
abbrev pub IsThereWhole : (List ℕ → Range → Type 0) → PictureFacts → Type 0
IsThereWhole Of p = (b : List ℕ) → AgreesWithPicture b p → (r : Range) → Of b r → IsCovered p r.at r.len

-- such a range isn't there, and no section before one need be looked at for a build-id
pub record NeedsRange (Of : List ℕ → Range → Type 0) (p : PictureFacts) (need : PartNeed) : Type 0 where
  pub asks : AsksOf Of p need.at need.len
  pub passed : HasPassed p need.next

-- this is the section of a name of each file that agrees with the picture, where its windows and that section are there
abbrev pub IsSectionOfEach : List ℕ → PictureFacts → Option (List ℕ) → Type 0
IsSectionOfEach name p found = IsOfEach (IsSomeSection name) (λ b. IsSectionAnswer b name found) p

-- the files of so many bytes that have what was read are those that agree with the picture, and all such ranges of them are
-- there
pub record IsReadWhole (Of : List ℕ → Range → Type 0) (size : ℕ) (reads : List Heard) (p : PictureFacts) : Type 0 where
  pub agrees : (b : List ℕ) → HasReads size reads b → AgreesWithPicture b p
  pub has : (b : List ℕ) → AgreesWithPicture b p → HasReads size reads b
  pub there : IsThereWhole Of p

-- such ranges of an open file alone were read, all of them or up to a read that failed or met want of memory
pub record FillsWhole (Of : List ℕ → Range → Type 0) (told : Bool) (version : Versions) (name : NameFacts)
    (before after : ShownTree) (now : PictureFacts) (end : FillAnswer) : Type 0 where
  pub reads : List Heard
  pub hears : HearsReads told version before after reads
  pub own : All (IsReadOfFile name) reads
  pub ranges : AsksRanges Of name reads
  pub done : end ≡ Done → IsReadWhole Of name.stamp.size reads now
  pub filled : end ≡ Done → list_any call_failed reads ≡ false
  pub failed : end ≡ Failed → HasFailedLast reads
  pub rose : end ≡ Failed → Rose before.faults after.faults
  pub wanting : end ≡ OutOfMemory → list_any call_failed reads ≡ false
