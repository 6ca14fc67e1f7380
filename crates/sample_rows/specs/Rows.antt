-- Rows of sample files (this project's example).
use Rattle.std.specs.Borrow.{Bor}
use Rattle.std.specs.List.{flat_map}
use Rattle.std.specs.Prelude.{ℕ, Bool, List, length}
use Rattle.file_formats.specs.declared.fault.Why.TheVariants.{NotElf}
use Rattle.row_types.specs.Ascends.{Ascends}
use Rattle.row_types.specs.BuildId.{IsIdLength}
use Rattle.row_types.specs.Row.{RowFacts}
use Rattle.row_types.specs.declared.limits.TheConstants.{EDITION}
use Rattle.row_types.specs.declared.reading.Reading.{Reading}
use Rattle.row_types.specs.declared.reading.Reading.TheVariants.{Elf, Plain}
use Rattle.sample_rows.specs.Names.{HasNoPath, sample_name, name_text}
use Rattle.sample_rows.specs.declared.fault.SampleFault.{SampleFault}
use Rattle.sample_rows.specs.declared.fault.SampleFault.TheVariants.{NotAPath, NotAnId, NotByPath, OutOfMemory}

-- what a file with an id is found to be
abbrev pub elf_of : List ℕ → Bool → Bool → List (List ℕ) → Reading
elf_of id exec debug sources = Elf (record { id = id; exec = exec; debug = debug }) sources

-- why it was not made, in the order of the tests: the bytes are no id; a source is no canonical path; the sources
-- don't stand by path. Memory may be wanted at any
unfoldable pub RefusesElf : List ℕ → List (List ℕ) → SampleFault → Type 0
RefusesElf id sources NotAnId = ¬ IsIdLength (length id)
RefusesElf id sources NotAPath = IsIdLength (length id) × HasNoPath sources
RefusesElf id sources NotByPath = IsIdLength (length id) × (¬ Ascends sources)
RefusesElf id sources OutOfMemory = Unit {0}

-- the row of a file of this path and size, which is found to be this
abbrev pub row_of : List ℕ → ℕ → Reading → RowFacts
row_of path size reading = record { name = sample_name path size; edition = EDITION; reading = reading }

-- the row of a file of this path and size, which is no ELF file
abbrev pub plain_of : List ℕ → ℕ → RowFacts
plain_of path size = row_of path size (Plain NotElf)

-- the texts of the rows' names, one behind the other
unfoldable pub names_text : List (Bor RowFacts) → List ℕ
names_text rows = flat_map (λ row. name_text row.now.name) rows
