-- Rows of files that were read, whole or in parts (this project's rule).
use Rattle.std.specs.Prelude.{◌≡◌, ℕ, ◌≤◌, List}
use Rattle.file_formats.specs.Parts.{IsSomePart}
use Rattle.file_formats.specs.Windows.{Range}
use Rattle.file_picture.specs.Agrees.{AsksOf, IsOfEach}
use Rattle.file_picture.specs.Passed.{HasPassed}
use Rattle.file_picture.specs.Picture.{PictureFacts}
use Rattle.file_picture.specs.ReadSoFar.{IsNextRead}
use Rattle.row_types.specs.Name.{NameFacts}
use Rattle.row_types.specs.Reading.{IsReading, RestsOn}
use Rattle.row_types.specs.Row.{RowFacts}
use Rattle.row_types.specs.Stamp.{StampFacts}
use Rattle.row_types.specs.declared.limits.TheConstants.{EDITION, FILE_LIMIT, READ_LIMIT}
use Rattle.tree_trait.specs.declared.reader.ViewAnswer.{ViewAnswer}
use Rattle.tree_trait.specs.declared.reader.ViewAnswer.TheVariants as view

-- the row says under this name what a file of these bytes is
pub record IsRowOf (name : NameFacts) (bytes : List ℕ) (row : RowFacts) : Type 0 where
  pub named : row.name ≡ name
  pub edition : row.edition ≡ EDITION
  pub reading : IsReading name.stamp bytes row.reading

-- a range of which the reading of a file with the stamp may ask: one of the file's parts, unless it is larger than a file that is
-- read, whose reading is by its size
pub record IsReadPart (stamp : StampFacts) (b : List ℕ) (r : Range) : Type 0 where
  pub small : stamp.size ≤ FILE_LIMIT
  pub part : IsSomePart b r

-- a range on which that reading rests, unless the file is larger than a file that is read
pub record IsRestPart (stamp : StampFacts) (b : List ℕ) (r : Range) : Type 0 where
  pub small : stamp.size ≤ FILE_LIMIT
  pub rests : RestsOn READ_LIMIT b r

-- what is answered for the row under a name by a picture: a part that isn't there and may be read, with the section from which to
-- look on for a build-id, or the row of each file that agrees, where all ranges are there on which it rests; where there is no row,
-- the name is given back
abbrev pub SaysRow : {W : Type 0} → NameFacts → PictureFacts → ViewAnswer W → Type 0
SaysRow name p (view.Need given at len next) =
    (given ≡ name) × AsksOf (IsReadPart name.stamp) p at len × IsNextRead READ_LIMIT p at len × HasPassed p next
SaysRow name p (view.Row row) = IsOfEach (IsRestPart name.stamp) (λ b. IsRowOf name b row) p
SaysRow name p (view.OutOfMemory given) = given ≡ name
