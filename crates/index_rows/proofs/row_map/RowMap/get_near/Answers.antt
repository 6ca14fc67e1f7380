-- A row that has the path is the path's, whatever number led to it.
use Rattle.std.proofs.Common.{List, Option, sym, ◌∙◌, ap, subst}
use Rattle.std.specs.Str.{bytes_eq}
use Rattle.row_types.specs.Row.{RowFacts}
use Rattle.index_rows.specs.Rows.{row_at}
use Rattle.index_rows.specs.Shelf.{IsInSlot}
use Rattle.index_rows.specs.Slots.{Slot, rows_in_slots}
use Rattle.index_rows.proofs.SlotRows.{near_row}
use Rattle.index_rows.proofs.row_map.RowMap.get_near.Goals as goal

pub returns : goal.returns
returns c =
    near_row c.args.path.now c.in-Some-Some.row c.self.inside.slots c.self.invariant.0
    (subst (λ (o : Option RowFacts). IsInSlot o c.self.inside.slots) c.in-Some-Some.field-0-is c.in-Some-Some.ensures)
    (ap (λ (r : RowFacts). bytes_eq r.name.path c.args.path.now) (sym c.row.view_is) ∙ sym c.eq.ensures ∙ c.if-eq.true)
    ∙ ap (λ (s : List Slot). row_at c.args.path.now (rows_in_slots s)) c.self.view_is
