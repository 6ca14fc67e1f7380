-- The paths of ids (this project's rule): each path of an id has a number, how often it counts under the id.
use Rattle.std.specs.Prelude.{◌≡◌, ℕ, ◌+◌, ◌<◌, ◌^◌, if◌then◌else◌, List, [], ◌∷◌, IsSome, unwrap_or}
use Rattle.std.specs.BTreeMap.{is_at}
use Rattle.std.specs.Cmp.Lexicographic.{slice_cmp}
use Rattle.std.specs.Map.{lookup}
use Rattle.std.specs.Ordering.{nat_cmp}
use Rattle.std.specs.Str.{bytes_eq}
use Rattle.index_rows.specs.Tally.{HasPlace, count_at, one}
use Rattle.index_rows.specs.declared.tally.Tallied.{Tallied}

-- ids, each with its paths
abbrev pub Ids : Type 0
Ids = List (List ℕ × List Tallied)

-- the paths of an id
abbrev pub tallies_of : List ℕ → Ids → List Tallied
tallies_of id ids = unwrap_or (lookup (is_at (slice_cmp nat_cmp id)) ids) []

-- the id has paths, or room for one
abbrev pub HasId : List ℕ → Ids → Type 0
HasId id ids = IsSome (lookup (is_at (slice_cmp nat_cmp id)) ids)

-- how often the path counts under the id
abbrev pub tally_of : List ℕ → List ℕ → Ids → ℕ
tally_of id path ids = count_at path (tallies_of id ids)

-- the path has a number under the id
abbrev pub HasKey : List ℕ → List ℕ → Ids → Type 0
HasKey id path ids = HasPlace path (tallies_of id ids)

-- each path that had a number under an id has one
abbrev pub KeepsKeys : Ids → Ids → Type 0
KeepsKeys old new = (id path : List ℕ) → HasKey id path old → HasKey id path new

-- each path counts as often as it did
abbrev pub CountsSame : Ids → Ids → Type 0
CountsSame old new = (id path : List ℕ) → tally_of id path new ≡ tally_of id path old

-- 1 for the path itself under the id itself
abbrev pub one_of : (id path other_id other : List ℕ) → ℕ
one_of id path other_id other = if bytes_eq id other_id then one path other else 0

-- how often a list has the path
abbrev pub times : List (List ℕ) → List ℕ → ℕ
times [] other = 0
times (path ∷ paths) other = one path other + times paths other

-- how often a list has the path, under the id itself
abbrev pub times_of : (id : List ℕ) (paths : List (List ℕ)) (other_id other : List ℕ) → ℕ
times_of id paths other_id other = if bytes_eq id other_id then times paths other else 0

-- no number is a `u32`'s last
abbrev pub AreBelowLast : Ids → Type 0
AreBelowLast ids = (id path : List ℕ) → tally_of id path ids + 1 < 2 ^ 32
