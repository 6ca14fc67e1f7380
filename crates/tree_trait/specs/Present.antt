-- The files that a tree has (this project's rule): a list of names, each path once.
use Rattle.std.specs.Borrow.{Bor}
use Rattle.std.specs.Prelude.{◌≡◌, ℕ, ◌<◌, ◌&&◌, ◌⊎◌, Bool, true, not, List, [], ◌∷◌, map}
use Rattle.std.specs.Prelude.{Option, Some, None, MatchOption}
use Rattle.std.specs.List.{list_any, list_all}
use Rattle.std.specs.Str.{bytes_eq}
use Rattle.row_types.specs.Name.{NameFacts, stamp_at}
use Rattle.row_types.specs.Under.{lies_under}
use Rattle.row_types.specs.declared.limits.TheConstants.{FILE_LIMIT}
use Rattle.tree_trait.specs.Found.{FoundFacts, Versions, found_name}

-- the file is the one at this path
pub record IsAt (names : List NameFacts) (path : List ℕ) (file : NameFacts) : Type 0 where
  pub there : stamp_at names path ≡ Some file.stamp
  pub asked : file.path ≡ path

-- the file that is found at the path, if there is one
abbrev pub IsFileAt : List FoundFacts → List ℕ → Option (Bor FoundFacts) → Type 0
IsFileAt files path result =
    let names = map found_name files in
    MatchOption result (stamp_at names path ≡ None) (λ file. IsAt names path (found_name file.now))

-- whether no path stands twice
abbrev pub are_distinct : List (List ℕ) → Bool
are_distinct [] = true
are_distinct (path ∷ rest) =
    not (list_any (λ other. bytes_eq other path) rest) && are_distinct rest

-- whether some file lies under a path, which makes it a folder
abbrev pub is_folder : List NameFacts → List ℕ → Bool
is_folder names path = list_any (λ name. lies_under path name.path) names

-- whether no path lies under another
abbrev pub are_apart : List (List ℕ) → Bool
are_apart paths = list_all (λ folder. not (list_any (lies_under folder) paths)) paths

-- some content is a version of the name, or the file is larger than a file that is read
abbrev pub IsKnownName : Versions → NameFacts → Type 0
IsKnownName version name =
    ((bytes : List ℕ) × version name.path name.stamp bytes) ⊎ (FILE_LIMIT < name.stamp.size)
