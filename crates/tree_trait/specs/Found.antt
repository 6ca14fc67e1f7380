-- Files that were read (this project's rule).
use Rattle.std.specs.Prelude.{◌≡◌, ℕ, List, length}
use Rattle.row_types.specs.Stamp.{StampFacts}
use Rattle.row_types.specs.Name.{NameFacts}

-- which bytes the file of a path and a stamp may have
abbrev pub Versions : Type 1
Versions = List ℕ → StampFacts → List ℕ → Type 0

-- a file's path, stamp and bytes
pub record FoundFacts : Type 0 where
  pub path : List ℕ
  pub stamp : StampFacts
  pub bytes : List ℕ

-- the file of this path and stamp with these bytes
abbrev pub found_facts : List ℕ → StampFacts → List ℕ → FoundFacts
found_facts path stamp bytes = record { path = path; stamp = stamp; bytes = bytes }

-- the bytes are a version of the path and the stamp, and as many as the stamp says
pub record IsFound (version : Versions) (found : FoundFacts) : Type 0 where
  pub known : version found.path found.stamp found.bytes
  pub sized : found.stamp.size ≡ length found.bytes

-- the name of a file
abbrev pub found_name : FoundFacts → NameFacts
found_name found = record { path = found.path; stamp = found.stamp }
