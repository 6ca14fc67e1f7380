-- The row is put into the slot of its path; there is one more where nothing was in it.
use Rattle.std.proofs.Common.{◌+◌, List, not, refl, ◌∙◌, ap, arith, length}
use Rattle.index_rows.specs.Rows.{with_row}
use Rattle.index_rows.specs.Slots.{Slot, rows_in_slots}
use Rattle.index_rows.specs.Table.{total}
use Rattle.index_rows.proofs.SlotRows.{counts_none, counts_one, put_done}
use Rattle.index_rows.proofs.row_map.RowMap.put.Goals as goal

pub overflow_add-self : goal.overflow_add-self
overflow_add-self c = omega (arith, c.self.invariant.1, ap (λ (s : List Slot). length (rows_in_slots s)) c.self.view_is, c.requires.fits)

pub invariant_of-self : goal.invariant_of-self
invariant_of-self c =
    let done = put_done c.args.row.name.path c.args.row c.self.invariant.0 refl c.put-old.ensures.old c.put-old.ensures.new refl in
    (record { ascend = c.put-old.ensures.ascend; own = done.1 }, omega (arith, done.2, counts_none c.put-old.result (c.is_none.ensures ∙ ap not c.if-is_none.true), c.self.invariant.1))

pub invariant_of-self-else-is_none : goal.invariant_of-self-else-is_none
invariant_of-self-else-is_none c =
    let done = put_done c.args.row.name.path c.args.row c.self.invariant.0 refl c.put-old.ensures.old c.put-old.ensures.new refl in
    (record { ascend = c.put-old.ensures.ascend; own = done.1 }, omega (arith, done.2, counts_one c.put-old.result (c.is_none.ensures ∙ ap not c.if-is_none.false), c.self.invariant.1))

pub returns-then-is_none-clause-rows : goal.returns-then-is_none-clause-rows
returns-then-is_none-clause-rows c =
    (put_done c.args.row.name.path c.args.row c.self.invariant.0 refl c.put-old.ensures.old c.put-old.ensures.new refl).0
    ∙ ap (λ (s : List Slot). with_row c.args.row (rows_in_slots s)) c.self.view_is

pub returns-else-is_none-clause-rows : goal.returns-else-is_none-clause-rows
returns-else-is_none-clause-rows c =
    (put_done c.args.row.name.path c.args.row c.self.invariant.0 refl c.put-old.ensures.old c.put-old.ensures.new refl).0
    ∙ ap (λ (s : List Slot). with_row c.args.row (rows_in_slots s)) c.self.view_is

pub returns-then-is_none-clause-total : goal.returns-then-is_none-clause-total
returns-then-is_none-clause-total c = λ f.
    (put_done c.args.row.name.path c.args.row c.self.invariant.0 refl c.put-old.ensures.old c.put-old.ensures.new refl).3 f
    ∙ ap (λ (s : List Slot). total f (rows_in_slots s) + f c.args.row) c.self.view_is

pub returns-else-is_none-clause-total : goal.returns-else-is_none-clause-total
returns-else-is_none-clause-total c = λ f.
    (put_done c.args.row.name.path c.args.row c.self.invariant.0 refl c.put-old.ensures.old c.put-old.ensures.new refl).3 f
    ∙ ap (λ (s : List Slot). total f (rows_in_slots s) + f c.args.row) c.self.view_is
