-- What lies under a folder (this project's rule), by the bytes of canonical paths.
use Rattle.std.specs.Prelude.{ℕ, ◌&&◌, ◌||◌, Bool, not, if◌then◌else◌, List, [], ◌∷◌, ◌++◌, nat_eq}
use Rattle.std.specs.List.{starts_with}
use Rattle.std.specs.Str.{bytes_eq}
use Rattle.row_types.specs.declared.limits.TheConstants.{SEPARATOR}

-- what each path under a folder begins with
abbrev pub front_under : List ℕ → List ℕ
front_under folder = if bytes_eq folder (SEPARATOR ∷ []) then folder else folder ++ SEPARATOR ∷ []

-- whether a path lies under a folder, which leaves the folder itself out
abbrev pub lies_under : List ℕ → List ℕ → Bool
lies_under folder path = starts_with nat_eq path (front_under folder) && not (bytes_eq path folder)

-- whether a path is the root's own, or lies under it
abbrev pub is_within : List ℕ → List ℕ → Bool
is_within root path = bytes_eq path root || lies_under root path
