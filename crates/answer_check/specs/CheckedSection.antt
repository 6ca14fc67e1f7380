-- A section of a certified picture (this project's rule).
use Rattle.std.specs.Prelude.{ℕ, List, Some}
use Rattle.file_formats.specs.Parts.{IsSomeSection}
use Rattle.file_formats.specs.Table.{IsSectionAnswer}
use Rattle.file_picture.specs.Agrees.{IsOfEach}
use Rattle.file_picture.specs.Picture.{PictureFacts}
use Rattle.answer_check.specs.Checked.{CheckedFacts}

-- a certified picture, and the name of a section of its file
pub record CheckedSectionFacts : Type 0 where
  pub file : CheckedFacts
  pub name : List ℕ

-- the section of this name
abbrev pub checked_section : CheckedFacts → List ℕ → CheckedSectionFacts
checked_section file name = record { file = file; name = name }

-- this part is the section of the name in each file that agrees with the picture, where its windows and that section are there
abbrev pub SeesPartOfEach : PictureFacts → List ℕ → List ℕ → Type 0
SeesPartOfEach p name part = IsOfEach (IsSomeSection name) (λ b. IsSectionAnswer b name (Some part)) p

-- the picture has the section
abbrev pub HasSectionSeen : CheckedSectionFacts → Type 0
HasSectionSeen section = (part : List ℕ) × SeesPartOfEach section.file.picture section.name part
