-- Where no kind is wanted, all are.
use Rattle.std.proofs.Common.{◌∙◌, ap, filter}
use Rattle.row_types.specs.Row.{RowFacts}
use Rattle.index_rows.specs.Classes.{has_id}
use Rattle.index_rows.specs.Rows.{RowsFacts}
use Rattle.index_rows.specs.Slots.{rows_in_slots}
use Rattle.index_rows.proofs.Lists.{filter_true}
use Rattle.index_rows.proofs.rows.Rows.rows_of.Goals as goal

pub returns : goal.returns
returns g c =
    c.found.ensures
    ∙ filter_true (filter (λ (row : RowFacts). has_id c.args.id.now row.reading) (rows_in_slots c.self.inside.rows.slots))
    ∙ ap (λ (f : RowsFacts). filter (λ (row : RowFacts). has_id c.args.id.now row.reading) f.rows) c.self.view_is
