-- The rows under the paths' numbers are those in the slots.
use Rattle.std.proofs.Common.{◌∙◌, ap}
use Rattle.index_rows.specs.Shelf.{rows_under}
use Rattle.index_rows.specs.Slots.{rows_in_slots}
use Rattle.index_rows.proofs.ShelfLemmas.{rows_are}
use Rattle.index_rows.proofs.shelf.Shelf.rows.Goals as goal

pub returns : goal.returns
returns c =
    c.all.ensures
    ∙ ap (rows_under c.self.inside.held) c.values.ensures.rest
    ∙ rows_are c.self.inside.held c.self.inside.numbers.entries
    ∙ ap rows_in_slots c.self.view_is
