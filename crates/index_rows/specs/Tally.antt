-- The paths of one id (this project's rule): each has a number, how often it counts. A path whose number is 0 is as good
-- as none: room was made for it.
use Rattle.std.specs.Prelude.{◌≡◌, ℕ, if◌then◌else◌, List, slice_index_or, set, IsSome, [], ◌∷◌, ◌++◌, filter, map}
use Rattle.std.specs.Option.{option_map_or}
use Rattle.std.specs.Str.{bytes_eq}
use Rattle.row_types.specs.Ascends.{is_before}
use Rattle.index_rows.specs.ByPath.{find_at}
use Rattle.index_rows.specs.declared.tally.Tallied.{Tallied}

-- by what paths are ordered
abbrev pub tallied_path : Tallied → List ℕ
tallied_path entry = entry.path

-- how often the path counts
abbrev pub count_at : List ℕ → List Tallied → ℕ
count_at path entries = option_map_or (λ (entry : Tallied). entry.count) (find_at tallied_path path entries) 0

-- the path has a number
abbrev pub HasPlace : List ℕ → List Tallied → Type 0
HasPlace path entries = IsSome (find_at tallied_path path entries)

-- each path that had a number has one
abbrev pub KeepsPlaces : List Tallied → List Tallied → Type 0
KeepsPlaces old new = (path : List ℕ) → HasPlace path old → HasPlace path new

-- the path at the place has the number, and all else is as it was
abbrev pub SetsCount : ℕ → ℕ → List Tallied → List Tallied → Type 0
SetsCount place count old new = (other : Tallied) → new ≡ set old place (record (slice_index_or old place other) { count = count })

-- 1 for the path itself
abbrev pub one : List ℕ → List ℕ → ℕ
one path other = if bytes_eq path other then 1 else 0

-- a path that counts for nothing yet
abbrev pub fresh : List ℕ → Tallied
fresh path = record { path = path; count = 0; number = 0 }

-- the entries with the paths: about an entry stand those before its own, which aren't counted yet, and those behind it
abbrev pub merged : List Tallied → List (List ℕ) → List Tallied
merged [] paths = map fresh paths
merged (entry ∷ entries) paths = map fresh (filter (λ path. is_before path entry.path) paths) ++ entry ∷ merged entries (filter (is_before entry.path) paths)
