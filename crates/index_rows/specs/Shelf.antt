-- Slots under numbers (this project's rule): a path with a slot has a number, and what is in the slot is kept under it.
use Rattle.std.specs.Prelude.{◌≡◌, ℕ, List, map, Option, Some, IsSome}
use Rattle.std.specs.BTreeMap.{is_at}
use Rattle.std.specs.Cmp.Lexicographic.{slice_cmp}
use Rattle.std.specs.List.Sorted.{IsStrictlySortedBy}
use Rattle.std.specs.Map.{keys_of, lookup}
use Rattle.std.specs.Option.{option_flatten}
use Rattle.std.specs.Ordering.{nat_cmp}
use Rattle.slab.specs.Slab.{Slab, get}
use Rattle.row_types.specs.Row.{RowFacts}
use Rattle.index_rows.specs.Slots.{Slot, present, path_slot}

-- paths, each with its number
abbrev pub Numbers : Type 0
Numbers = List (List ℕ × ℕ)

-- what is kept under numbers: rows, or nothing yet
abbrev pub Held : Type 0
Held = Slab (Option RowFacts)

-- the row that is kept under a number, if there is one
abbrev pub held_in : Held → ℕ → Option RowFacts
held_in held number = option_flatten (get held number)

-- the rows under the numbers
abbrev pub rows_under : Held → List ℕ → List RowFacts
rows_under held numbers = present (map (held_in held) numbers)

-- the path's number, if it has one
abbrev pub path_number : List ℕ → Numbers → Option ℕ
path_number path numbers = lookup (is_at (slice_cmp nat_cmp path)) numbers

-- the paths' slots
abbrev pub shelved : Held → Numbers → List Slot
shelved held numbers = map (λ e. (e.0, held_in held e.1)) numbers

-- paths in order, each with a number of its own, under which something is kept, and nothing else is
pub record ArePathsNumbered (held : Held) (numbers : Numbers) : Type 0 where
  pub ascend : IsStrictlySortedBy (slice_cmp nat_cmp) (keys_of numbers)
  pub there : (path : List ℕ) (number : ℕ) → path_number path numbers ≡ Some number → IsSome (get held number)
  pub apart : (path other : List ℕ) (number : ℕ) → path_number path numbers ≡ Some number → path_number other numbers ≡ Some number → path ≡ other
  pub listed : (number : ℕ) → IsSome (get held number) → (path : List ℕ) × (path_number path numbers ≡ Some number)

-- some path's slot has this in it
abbrev pub IsInSlot : Option RowFacts → List Slot → Type 0
IsInSlot x slots = (path : List ℕ) × (path_slot path slots ≡ Some x)
