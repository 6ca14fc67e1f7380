-- Reading of an open file what is needed of it, range by range (this project's rule).
use Rattle.std.specs.Prelude.{◌≡◌, ℕ, ◌+◌, Bool, false, List, All}
use Rattle.std.specs.List.{list_any}
use Rattle.file_formats.specs.Windows.{Range}
use Rattle.file_picture.specs.Agrees.{AgreesWithPicture, AsksOf}
use Rattle.file_picture.specs.Picture.{PictureFacts}
use Rattle.row_types.specs.Name.{NameFacts}
use Rattle.tree_trait.specs.Fills.{FillsRange, HasReads, HearsReads, IsReadAmong, IsReadOfFile}
use Rattle.tree_trait.specs.Found.{Versions}
use Rattle.tree_trait.specs.Heard.{Heard, call_failed}
use Rattle.tree_trait.specs.Shown.{ShownTree}
use Rattle.tree_trait.specs.declared.filling.FillAnswer.{FillAnswer}

-- each read is of one of these ranges of each file that has as many bytes as the name says, and all that were read
abbrev pub AsksRanges : (List ℕ → Range → Type 0) → NameFacts → List Heard → Type 0
AsksRanges Of name reads = (b : List ℕ) → HasReads name.stamp.size reads b → All (IsReadAmong name (Of b)) reads

-- there is a file of so many bytes that has what was read, and each that has is so
pub record IsOfReads (size : ℕ) (reads : List Heard) (Is : List ℕ → Type 0) : Type 0 where
  pub bytes : List ℕ
  pub has : HasReads size reads bytes
  pub is : (b : List ℕ) → HasReads size reads b → Is b

-- a version of the name has what was read
pub record HasVersion (version : Versions) (name : NameFacts) (reads : List Heard) : Type 0 where
  pub bytes : List ℕ
  pub known : version name.path name.stamp bytes
  pub has : HasReads name.stamp.size reads bytes

-- a range that each file needs which agrees with a picture was filled, so far
pub record FillsNeed (Of : List ℕ → Range → Type 0) (told : Bool) (version : Versions) (name : NameFacts)
    (before after : ShownTree) (old new : PictureFacts) (end : FillAnswer) : Type 0 where
  pub at : ℕ
  pub len : ℕ
  pub asks : AsksOf Of old at len
  pub fills : FillsRange told version before after name old new at (at + len) end

-- what was read of an open file so far: the files that agree with its picture are those that have all of it, and each read is of
-- one of these ranges of each of them; none failed
pub record ReadsSoFar (Of : List ℕ → Range → Type 0) (told : Bool) (version : Versions) (name : NameFacts)
    (before after : ShownTree) (now : PictureFacts) : Type 0 where
  pub reads : List Heard
  pub hears : HearsReads told version before after reads
  pub own : All (IsReadOfFile name) reads
  pub ranges : AsksRanges Of name reads
  pub agrees : (b : List ℕ) → HasReads name.stamp.size reads b → AgreesWithPicture b now
  pub has : (b : List ℕ) → AgreesWithPicture b now → HasReads name.stamp.size reads b
  pub filled : list_any call_failed reads ≡ false
