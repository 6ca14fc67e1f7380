-- Which rows have row bytes (this project's rule): the parts are those of a row's types, and the sources are
-- so few that four bytes count them.
use Rattle.std.specs.Prelude.{ℕ, ◌≤◌, ◌<◌, ◌^◌, List, length, All, FitsSigned}
use Rattle.std.specs.Int.{w64}
use Rattle.std.specs.Str.{IsUtf8}
use Rattle.row_types.specs.Ascends.{Ascends}
use Rattle.row_types.specs.BuildId.{IsIdLength}
use Rattle.row_types.specs.Canon.{IsCanonPath}
use Rattle.row_types.specs.Row.{RowFacts}
use Rattle.row_types.specs.Stamp.{StampFacts}
use Rattle.row_types.specs.declared.reading.Reading.{Reading}
use Rattle.row_types.specs.declared.reading.Reading.TheVariants.{Plain, Elf}
use Rattle.row_types.specs.declared.stamp.TheConstants.{NANOS_PER_SECOND}

-- the bytes are the text of a path that is kept
pub record IsPathText (text : List ℕ) : Type 0 where
  pub valid : IsUtf8 text
  pub canonical : IsCanonPath text

-- the numbers are those of a stamp
pub record IsStamp (stamp : StampFacts) : Type 0 where
  pub size : stamp.size < 2 ^ 64
  pub secs : FitsSigned w64 stamp.secs
  pub nanos : stamp.nanos < NANOS_PER_SECOND

-- the paths are sources of a file, fewer than 2^32
pub record AreSources (sources : List (List ℕ)) : Type 0 where
  pub few : length sources < 2 ^ 32
  pub paths : All IsPathText sources
  pub ascend : Ascends sources

-- the reading has row bytes
abbrev pub IsSpelledReading : Reading → Type 0
IsSpelledReading (Plain why) = Unit {0}
IsSpelledReading (Elf ident sources) = IsIdLength (length ident.id) × AreSources sources

-- the row has row bytes
pub record IsSpelled (row : RowFacts) : Type 0 where
  pub least : 1 ≤ row.edition
  pub most : row.edition < 2 ^ 8
  pub path : IsPathText row.name.path
  pub stamp : IsStamp row.name.stamp
  pub reading : IsSpelledReading row.reading
