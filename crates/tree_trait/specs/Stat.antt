-- What is answered of a path (this project's rule).
use Rattle.std.specs.Prelude.{◌≡◌, ℕ, true, false, List, Some, None}
use Rattle.row_types.specs.Name.{NameFacts, stamp_at}
use Rattle.tree_trait.specs.Present.{is_folder}
use Rattle.tree_trait.specs.declared.stat.StatAnswer.{StatAnswer}
use Rattle.tree_trait.specs.declared.stat.StatAnswer.TheVariants.{Folder, File, Other, Gone}

-- a folder stands at the path, and no file
pub record IsFolderAt (present : List NameFacts) (path : List ℕ) : Type 0 where
  pub no_file : stamp_at present path ≡ None
  pub folder : is_folder present path ≡ true

-- nothing stands at the path
pub record IsNothingAt (present : List NameFacts) (path : List ℕ) : Type 0 where
  pub no_file : stamp_at present path ≡ None
  pub no_folder : is_folder present path ≡ false

-- what is answered of this path, by the files that are there
abbrev pub TellsStat : List NameFacts → List ℕ → StatAnswer → Type 0
TellsStat present path Folder = IsFolderAt present path
TellsStat present path (File stamp) = stamp_at present path ≡ Some stamp
TellsStat present path Other = ⊥
TellsStat present path Gone = IsNothingAt present path
TellsStat present path _ = Unit {0}
