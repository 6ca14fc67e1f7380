-- Slots (this project's rule): how rows are kept. A slot has a path, and the path's row or nothing yet.
use Rattle.std.specs.Prelude.{◌≡◌, ℕ, List, Option, IsSome, IfSome}
use Rattle.std.specs.BTreeMap.{is_at}
use Rattle.std.specs.Cmp.Lexicographic.{slice_cmp}
use Rattle.std.specs.List.{All, flat_map}
use Rattle.std.specs.List.Sorted.{IsStrictlySortedBy}
use Rattle.std.specs.Map.{keys_of, values_of, lookup}
use Rattle.std.specs.Option.{option_to_list}
use Rattle.std.specs.Ordering.{nat_cmp}
use Rattle.row_types.specs.Row.{RowFacts}

-- a path, and its row or nothing yet
abbrev pub Slot : Type 0
Slot = List ℕ × Option RowFacts

-- the rows among what may be rows
abbrev pub present : List (Option RowFacts) → List RowFacts
present xs = flat_map option_to_list xs

-- the rows in the slots
abbrev pub rows_in_slots : List Slot → List RowFacts
rows_in_slots slots = present (values_of slots)

-- what is in the slot has its path
abbrev pub IsOwn : Slot → Type 0
IsOwn slot = IfSome slot.1 (λ row. row.name.path ≡ slot.0)

-- the slots stand strictly by path, and what is in one has its path
pub record AreRowSlots (slots : List Slot) : Type 0 where
  pub ascend : IsStrictlySortedBy (slice_cmp nat_cmp) (keys_of slots)
  pub own : All IsOwn slots

-- what is in the path's slot, if it has one
abbrev pub path_slot : List ℕ → List Slot → Option (Option RowFacts)
path_slot path slots = lookup (is_at (slice_cmp nat_cmp path)) slots

-- the path has a slot
abbrev pub HasSlot : List ℕ → List Slot → Type 0
HasSlot path slots = IsSome (path_slot path slots)

-- each path that had a slot has one
abbrev pub KeepsSlots : List Slot → List Slot → Type 0
KeepsSlots old new = (path : List ℕ) → HasSlot path old → HasSlot path new

-- each other path that had a slot has one
abbrev pub KeepsOthers : List ℕ → List Slot → List Slot → Type 0
KeepsOthers path old new = (other : List ℕ) → (other ≡ path → ⊥) → HasSlot other old → HasSlot other new
