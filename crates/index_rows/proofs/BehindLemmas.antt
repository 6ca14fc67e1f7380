-- The rows behind a path.
use Rattle.std.proofs.Common.{◌≡◌, ℕ, ◌&&◌, Bool, true, false, cond, List, [], ◌∷◌, None, Some, refl, sym, ◌∙◌, ap}
use Rattle.std.specs.List.{All, filter}
use Rattle.std.specs.Map.{values_of}
use Rattle.std.proofs.lemmas.List.Elements.{All-head, All-tail}
use Rattle.row_types.specs.Ascends.{is_before}
use Rattle.row_types.specs.Row.{RowFacts}
use Rattle.index_rows.specs.Shelf.{Held, Numbers, held_in, rows_under, shelved}
use Rattle.index_rows.specs.Slots.{IsOwn, Slot, rows_in_slots}
use Rattle.index_rows.proofs.Lists.{filter_same, map_filter}
use Rattle.index_rows.proofs.ShelfLemmas.{rows_are}

and_true : (b : Bool) → (b && true) ≡ b
and_true true = refl
and_true false = refl

-- the rows under the numbers of the paths behind one
pub rows_behind : (held : Held) (numbers : Numbers) (path : List ℕ) → rows_under held (values_of (filter (λ e. is_before path e.0 && true) numbers)) ≡ rows_in_slots (filter (λ slot. is_before path slot.0) (shelved held numbers))
rows_behind held numbers path =
    rows_are held (filter (λ e. is_before path e.0 && true) numbers)
    ∙ ap (λ (ns : Numbers). rows_in_slots (shelved held ns)) (filter_same (λ e. is_before path e.0 && true) (λ e. is_before path e.0) numbers (λ k d within. and_true _))
    ∙ ap rows_in_slots (map_filter (λ (e : List ℕ × ℕ). (e.0, held_in held e.1)) (λ (slot : Slot). is_before path slot.0) numbers)

-- the rows in the slots behind a path are the rows behind it
pub slots_behind : (path : List ℕ) (slots : List Slot) → All IsOwn slots → rows_in_slots (filter (λ slot. is_before path slot.0) slots) ≡ filter (λ row. is_before path row.name.path) (rows_in_slots slots)
slots_behind path [] own = refl
slots_behind path ((p, None) ∷ slots) own =
    elim (is_before path p) as (λ b. rows_in_slots (cond b ((p, None) ∷ filter (λ slot. is_before path slot.0) slots) (filter (λ slot. is_before path slot.0) slots)) ≡ filter (λ row. is_before path row.name.path) (rows_in_slots slots))
    [ true ↦ slots_behind path slots (All-tail IsOwn (p, None) slots own) | false ↦ slots_behind path slots (All-tail IsOwn (p, None) slots own) ]
slots_behind path ((p, Some row) ∷ slots) own =
    ap (λ q. rows_in_slots (cond (is_before path q) ((p, Some row) ∷ filter (λ slot. is_before path slot.0) slots) (filter (λ slot. is_before path slot.0) slots))) (sym (All-head IsOwn (p, Some row) slots own))
    ∙ (elim (is_before path row.name.path) as (λ b. rows_in_slots (cond b ((p, Some row) ∷ filter (λ slot. is_before path slot.0) slots) (filter (λ slot. is_before path slot.0) slots)) ≡ cond b (row ∷ filter (λ r. is_before path r.name.path) (rows_in_slots slots)) (filter (λ r. is_before path r.name.path) (rows_in_slots slots)))
    [ true ↦ ap (λ (rs : List RowFacts). row ∷ rs) (slots_behind path slots (All-tail IsOwn (p, Some row) slots own)) | false ↦ slots_behind path slots (All-tail IsOwn (p, Some row) slots own) ])
