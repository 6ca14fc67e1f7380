-- The path's slot is taken with its row.
use Rattle.std.proofs.Common.{◌≡◌, List, Some, sym, ◌∙◌, ap, subst, arith}
use Rattle.std.specs.Prelude.{IsSome}
use Rattle.index_rows.specs.Rows.{row_at, without_row}
use Rattle.index_rows.specs.Slots.{Slot, rows_in_slots, path_slot}
use Rattle.index_rows.specs.Table.{total}
use Rattle.index_rows.proofs.SlotRows.{removal_done, row_slot}
use Rattle.index_rows.proofs.row_map.RowMap.remove.Goals as goal
use Rattle.index_rows.proofs.row_map.RowMap.remove.Goals.{in-Some+in-None-1, in-None-1}

pub invariant_of-self : goal.invariant_of-self
invariant_of-self c =
    let its : path_slot c.args.path.now c.self.inside.slots ≡ Some (Some c.in-Some-Some.row) = sym c.in-Some-Some.ensures.old ∙ ap Some c.in-Some-Some.field-0-is in
    let done = removal_done c.args.path.now c.self.invariant.0 its c.take.ensures.new in
    (record { ascend = c.take.ensures.ascend; own = done.1 }, omega (arith, done.2, c.self.invariant.1))

pub unreachable-requires : goal.unreachable-requires
unreachable-requires c =
    let own = row_slot c.args.path.now c.self.inside.slots c.self.invariant.0
    (subst (λ (s : List Slot). IsSome (row_at c.args.path.now (rows_in_slots s))) (sym c.self.view_is) c.requires) in
    let found : c.take.result ≡ Some (Some own.0) = c.take.ensures.old ∙ own.1 in
    elim c.in-Some-None-1.branch [ in-Some+in-None-1 w ↦ absurd (let f = found in cc) | in-None-1 w ↦ absurd (let f = found in cc) ]

pub returns-clause-rows : goal.returns-clause-rows
returns-clause-rows c =
    let its : path_slot c.args.path.now c.self.inside.slots ≡ Some (Some c.in-Some-Some.row) = sym c.in-Some-Some.ensures.old ∙ ap Some c.in-Some-Some.field-0-is in
    (removal_done c.args.path.now c.self.invariant.0 its c.take.ensures.new).0
    ∙ ap (λ (s : List Slot). without_row c.args.path.now (rows_in_slots s)) c.self.view_is

pub returns-clause-total : goal.returns-clause-total
returns-clause-total c = λ f.
    let its : path_slot c.args.path.now c.self.inside.slots ≡ Some (Some c.in-Some-Some.row) = sym c.in-Some-Some.ensures.old ∙ ap Some c.in-Some-Some.field-0-is in
    (removal_done c.args.path.now c.self.invariant.0 its c.take.ensures.new).3 f
    ∙ ap (λ (s : List Slot). total f (rows_in_slots s)) c.self.view_is
