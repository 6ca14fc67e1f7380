-- The rows under the numbers of the paths behind it are those in their slots.
use Rattle.std.proofs.Common.{List, ◌∙◌, ap, filter}
use Rattle.std.specs.Map.{values_of}
use Rattle.row_types.specs.Ascends.{is_before}
use Rattle.index_rows.specs.Shelf.{Numbers, rows_under}
use Rattle.index_rows.specs.Slots.{Slot, rows_in_slots}
use Rattle.index_rows.proofs.BehindLemmas.{rows_behind}
use Rattle.index_rows.proofs.shelf.Shelf.rows_after.Goals as goal

pub returns : goal.returns
returns c =
    c.after.ensures
    ∙ ap (λ (ns : Numbers). rows_under c.self.inside.held (values_of ns)) (c.range.ensures.between tt)
    ∙ rows_behind c.self.inside.held c.self.inside.numbers.entries c.args.path.now
    ∙ ap (λ (s : List Slot). rows_in_slots (filter (λ (slot : Slot). is_before c.args.path.now slot.0) s)) c.self.view_is
