-- What the load of a file answers (this project's rule).
use Rattle.std.specs.Prelude.{◌≡◌, ℕ, ◌≤◌, ◌<◌, List, length, Some, None}
use Rattle.row_types.specs.Name.{NameFacts, stamp_at}
use Rattle.row_types.specs.Stamp.{StampFacts}
use Rattle.tree_trait.specs.Found.{FoundFacts, Versions}
use Rattle.tree_trait.specs.declared.answer.LoadAnswer.{LoadAnswer}
use Rattle.tree_trait.specs.declared.answer.LoadAnswer.TheVariants.{Found, TooLarge, Gone, Failed, OutOfMemory}

-- an answer as plain data, without its world
pub data LoadFacts : Type 0 where
  loaded : FoundFacts → LoadFacts
  too_large : StampFacts → LoadFacts
  gone : LoadFacts
  failed : LoadFacts
  no_memory : LoadFacts

-- what an answer says
abbrev pub load_facts : {W : Type 0} → LoadAnswer W → LoadFacts
load_facts (Found found) = loaded found
load_facts (TooLarge stamp) = too_large stamp
load_facts Gone = gone
load_facts Failed = failed
load_facts OutOfMemory = no_memory

-- the file is the one that was asked, a version of the world, whole, and within the limit
pub record IsAskedFile (version : Versions) (path : List ℕ) (limit : ℕ) (found : FoundFacts) : Type 0 where
  pub asked : found.path ≡ path
  pub known : version path found.stamp found.bytes
  pub sized : found.stamp.size ≡ length found.bytes
  pub fits : found.stamp.size ≤ limit

-- what the load of this path under this limit may answer, in any tree
abbrev pub FitsLoad : Versions → List ℕ → ℕ → LoadFacts → Type 0
FitsLoad version path limit (loaded found) = IsAskedFile version path limit found
FitsLoad version path limit (too_large stamp) = limit < stamp.size
FitsLoad version path limit _ = Unit {0}

-- what the load of this path answers, by the files that are there
abbrev pub TellsLoad : List NameFacts → List ℕ → LoadFacts → Type 0
TellsLoad present path (loaded found) = stamp_at present path ≡ Some found.stamp
TellsLoad present path (too_large stamp) = stamp_at present path ≡ Some stamp
TellsLoad present path gone = stamp_at present path ≡ None
TellsLoad present path _ = Unit {0}
