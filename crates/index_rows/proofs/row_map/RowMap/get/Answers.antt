-- What is found is the path's row, as it is what is in the path's slot.
use Rattle.std.proofs.Common.{List, sym, ◌∙◌, ap}
use Rattle.std.specs.Option.{option_flatten}
use Rattle.index_rows.specs.Rows.{row_at}
use Rattle.index_rows.specs.Slots.{Slot, rows_in_slots}
use Rattle.index_rows.proofs.SlotRows.{found_path, row_found}
use Rattle.index_rows.proofs.row_map.RowMap.get.Goals as goal

pub returns-in-Some-clause-value : goal.returns-in-Some-clause-value
returns-in-Some-clause-value c =
    c.as_ref.ensures.value
    ∙ ap option_flatten c.in-Some.ensures
    ∙ sym (row_found c.args.path.now c.self.inside.slots c.self.invariant.0)
    ∙ ap (λ (s : List Slot). row_at c.args.path.now (rows_in_slots s)) c.self.view_is

pub returns-in-Some-clause-path : goal.returns-in-Some-clause-path
returns-in-Some-clause-path c = found_path c.args.path.now c.in-Some.slot.now c.as_ref.result c.self.invariant.0 c.in-Some.ensures c.as_ref.ensures.value

pub returns-in-None-clause-value : goal.returns-in-None-clause-value
returns-in-None-clause-value c =
    ap option_flatten c.in-None.ensures
    ∙ sym (row_found c.args.path.now c.self.inside.slots c.self.invariant.0)
    ∙ ap (λ (s : List Slot). row_at c.args.path.now (rows_in_slots s)) c.self.view_is
