-- What contracts see of a file whose section table can be read, by its bytes (this project's rule).
use Rattle.std.specs.Prelude.{ℕ, ◌+◌, ◌≤◌, List, length}
use Rattle.file_formats.specs.declared.header.SectionTable.{SectionTable}
use Rattle.file_picture.specs.Agrees.{filled_with_zeros}
use Rattle.file_picture.specs.Picture.{PictureFacts, IsCovered}

-- the file's bytes, and its section table
pub record Parsed : Type 0 where
  pub bytes : List ℕ
  pub table : SectionTable

-- each range of the file is there
abbrev pub IsPictureWhole : PictureFacts → Type 0
IsPictureWhole v = (at len : ℕ) → at + len ≤ length (filled_with_zeros v) → IsCovered v at len
