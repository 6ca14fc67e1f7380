-- The section of a name, and the debug sections, of a file of which parts are there (this project's rule).
use Rattle.std.specs.Prelude.{◌≡◌, ◌⊎◌, ℕ, List, Option}
use Rattle.std.specs.Option.{option_copied}
use Rattle.file_formats.specs.declared.header.SectionTable.{SectionTable}
use Rattle.file_formats.specs.Numbers.{bytes_at}
use Rattle.file_formats.specs.Parts.{IsSectionRange, IsSomeSection}
use Rattle.file_formats.specs.Table.{section_at, IsSectionOf, IsSectionAnswer}
use Rattle.file_formats.specs.Windows.{Range, range, extent}
use Rattle.file_picture.specs.Agrees.{AsksOf, IsOfEach, filled_with_zeros}
use Rattle.file_picture.specs.Passed.{HasPassed}
use Rattle.file_picture.specs.Picture.{PictureFacts, IsCovered}
use Rattle.file_picture.specs.declared.view.Need.{Need}
use Rattle.elf_file.specs.Opened.{Opened}
use Rattle.elf_file.specs.Steps.{AllHere, Needs}
use Rattle.elf_classify.specs.declared.named.SectionStep.{SectionStep}
use Rattle.elf_classify.specs.declared.named.SectionStep.TheVariants as step
use Rattle.elf_classify.specs.declared.named.SectionView.{SectionView}
use Rattle.elf_classify.specs.declared.named.SectionView.TheVariants as view

-- the bytes of the section of the name stand in this range
pub record IsSectionPlaced (b : List ℕ) (t : SectionTable) (name : List ℕ) (at : Need) : Type 0 where
  pub found : IsSectionOf b t name (bytes_at b at.at at.len)
  pub is : range at.at at.len ≡ extent (section_at b t found.index)

-- the ranges of the section of the name are there
abbrev pub HasSectionThere : PictureFacts → List ℕ → Type 0
HasSectionThere v name = (r : Range) → IsSectionRange (filled_with_zeros v) name r → IsCovered v r.at r.len

-- what is answered for the section of the name, whose bytes are there
pub record SeesSection (f : Opened) (name : List ℕ) (found : Option (List ℕ)) : Type 0 where
  pub is : IsSectionAnswer (filled_with_zeros f.file) name found
  pub there : HasSectionThere f.file name

-- its bytes are asked for, and aren't there
pub record NeedsSection (v : PictureFacts) (name : List ℕ) (need : Need) : Type 0 where
  pub is : IsSectionRange (filled_with_zeros v) name (range need.at need.len)
  pub gone : IsCovered v need.at need.len → ⊥

-- the section of the name in the filled picture, whose bytes and windows are there
pub record IsSectionSeen (v : PictureFacts) (name : List ℕ) (found : Option (List ℕ)) : Type 0 where
  pub is : IsSectionAnswer (filled_with_zeros v) name found
  pub there : HasSectionThere v name
  pub all : (n : ℕ) → AllHere v n

-- the section's bytes are asked for, where all windows are there
pub record NeedsNamed (v : PictureFacts) (name : List ℕ) (need : Need) : Type 0 where
  pub section : NeedsSection v name need
  pub all : (n : ℕ) → AllHere v n

-- what a reading of a view finds for the section of a name; where a range is needed, the sections before one needn't be looked
-- at again
abbrev pub SeesNamed : PictureFacts → List ℕ → SectionStep → Type 0
SeesNamed v name (step.Need at len next) =
    (Needs v (record { at = at; len = len }) ⊎ NeedsNamed v name (record { at = at; len = len })) × HasPassed v next
SeesNamed v name (step.Section found) = IsSectionSeen v name (option_copied found)

-- what is answered for the section of a name of a picture
abbrev pub SaysSectionSeen : PictureFacts → List ℕ → SectionView → Type 0
SaysSectionSeen p name (view.Need at len) = AsksOf (IsSomeSection name) p at len
SaysSectionSeen p name (view.Section found) =
    IsOfEach (IsSomeSection name) (λ b. IsSectionAnswer b name (option_copied found)) p

-- the same, with the section from which to look on for a build-id, where a range is needed
abbrev pub SaysSectionStep : PictureFacts → List ℕ → SectionStep → Type 0
SaysSectionStep p name (step.Need at len next) = AsksOf (IsSomeSection name) p at len × HasPassed p next
SaysSectionStep p name (step.Section found) =
    IsOfEach (IsSomeSection name) (λ b. IsSectionAnswer b name (option_copied found)) p
