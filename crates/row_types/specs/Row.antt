-- Rows (this project's rule): what a file was found to be.
use Rattle.std.specs.Prelude.{ℕ}
use Rattle.row_types.specs.Name.{NameFacts}
use Rattle.row_types.specs.declared.limits.TheConstants.{EDITION}
use Rattle.row_types.specs.declared.reading.Reading.{Reading}
use Rattle.row_types.specs.declared.reading.Reading.TheVariants.{Plain}
use Rattle.file_formats.specs.declared.fault.Why.TheVariants.{TooLarge}

-- a file's name, the edition of the rules that it was read by, and what it was found to be
pub record RowFacts : Type 0 where
  pub name : NameFacts
  pub edition : ℕ
  pub reading : Reading

-- the row of a file that is larger than a file that is read
abbrev pub too_large_row : NameFacts → RowFacts
too_large_row name = record { name = name; edition = EDITION; reading = Plain TooLarge }
