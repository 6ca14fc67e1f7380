-- A section of a certified file (this project's rule).
use Rattle.std.specs.Prelude.{ℕ, List, Some}
use Rattle.file_formats.specs.Table.{IsSectionAnswer}
use Rattle.answer_check.specs.Certified.{CertifiedFacts}

-- a certified file, and the name of one of its sections
pub record FileSectionFacts : Type 0 where
  pub file : CertifiedFacts
  pub name : List ℕ

-- the section of this name
abbrev pub named : CertifiedFacts → List ℕ → FileSectionFacts
named file name = record { file = file; name = name }

-- these bytes of a file have the section of a name
abbrev pub HasSectionOf : List ℕ → List ℕ → Type 0
HasSectionOf bytes name = (part : List ℕ) × IsSectionAnswer bytes name (Some part)

-- the file has the section
abbrev pub HasNamed : FileSectionFacts → Type 0
HasNamed section = HasSectionOf section.file.bytes section.name
