-- What is in a slot has its path.
use Rattle.std.proofs.Common.{List, ◌∙◌, ap, filter}
use Rattle.row_types.specs.Ascends.{is_before}
use Rattle.row_types.specs.Row.{RowFacts}
use Rattle.index_rows.specs.Slots.{Slot, rows_in_slots}
use Rattle.index_rows.proofs.BehindLemmas.{slots_behind}
use Rattle.index_rows.proofs.row_map.RowMap.rows_after.Goals as goal

pub returns : goal.returns
returns c =
    c.rows_after.ensures
    ∙ slots_behind c.args.path.now c.self.inside.slots c.self.invariant.0.own
    ∙ ap (λ (s : List Slot). filter (λ (row : RowFacts). is_before c.args.path.now row.name.path) (rows_in_slots s)) c.self.view_is
