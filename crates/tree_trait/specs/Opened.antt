-- Open files with what was read of them (this project's rule).
use Rattle.std.specs.Prelude.{◌≡◌, ℕ, List, []}
use Rattle.file_picture.specs.Agrees.{AgreesWithPicture}
use Rattle.file_picture.specs.Picture.{PictureFacts}
use Rattle.row_types.specs.Name.{NameFacts}
use Rattle.row_types.specs.Stamp.{StampFacts}
use Rattle.tree_trait.specs.Found.{Versions}

-- the picture is one of a version of the name, of some version in a told world too: a true row wants a version's bytes, and which
-- of the files that agree they are doesn't matter, since all have one reading
pub record IsPictureOf (version : Versions) (name : NameFacts) (p : PictureFacts) : Type 0 where
  pub bytes : List ℕ
  pub known : version name.path name.stamp bytes
  pub agrees : AgreesWithPicture bytes p

-- a path, a stamp, an open file, and a picture of it
pub record OpenedFacts (F : Type 0) : Type 0 where
  pub path : List ℕ
  pub stamp : StampFacts
  pub file : F
  pub picture : PictureFacts

-- the open file of these four
abbrev pub opened_facts : {F : Type 0} → List ℕ → StampFacts → F → PictureFacts → OpenedFacts F
opened_facts path stamp file picture = record { path = path; stamp = stamp; file = file; picture = picture }

-- its name
abbrev pub opened_name : {F : Type 0} → OpenedFacts F → NameFacts
opened_name opened = record { path = opened.path; stamp = opened.stamp }

-- the picture of a file of which nothing was read
abbrev pub unread_picture : ℕ → PictureFacts
unread_picture size = record { size = size; pieces = [] }

-- the picture has the stamp's size, and is one of a version of the name
pub record HoldsPicture (version : Versions) (path : List ℕ) (stamp : StampFacts) (picture : PictureFacts) : Type 0 where
  pub sized : picture.size ≡ stamp.size
  pub seen : IsPictureOf version (record { path = path; stamp = stamp }) picture
