-- What contracts see of a file whose section table can be read, and of which parts are there (this project's rule).
use Rattle.std.specs.Prelude.{◌≡◌, ℕ, List, Option, Ok}
use Rattle.file_formats.specs.Table.{section_table}
use Rattle.file_formats.specs.declared.header.SectionTable.{SectionTable}
use Rattle.file_picture.specs.Agrees.{filled_with_zeros}
use Rattle.file_picture.specs.Picture.{PictureFacts}
use Rattle.elf_file.specs.Steps.{AllHere, HasTable, HasNames}

-- what is known of the file, and its section table
pub record Opened : Type 0 where
  pub file : PictureFacts
  pub table : SectionTable

-- the table is the file's, and its entries and names are there
pub record IsTableOpened (v : PictureFacts) (t : SectionTable) (entries : List ℕ) (names : Option (List ℕ)) : Type 0 where
  pub has_table : HasTable v t entries
  pub has_names : HasNames v t names

-- the file of this view is read
pub record OpensAs (v : PictureFacts) (file : Opened) : Type 0 where
  pub same : file.file ≡ v
  pub is_table : section_table (filled_with_zeros v) ≡ Ok file.table
  pub all : AllHere v 4

-- what is known of it
pub record Knows (file : Opened) : Type 0 where
  pub is_table : section_table (filled_with_zeros file.file) ≡ Ok file.table
  pub all : AllHere file.file 4
