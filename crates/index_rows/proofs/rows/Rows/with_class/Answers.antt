-- A file is of the class that has the id and is of the kind.
use Rattle.std.proofs.Common.{◌∙◌, ap, filter}
use Rattle.row_types.specs.Row.{RowFacts}
use Rattle.index_rows.specs.Classes.{has_class}
use Rattle.index_rows.specs.Rows.{RowsFacts}
use Rattle.index_rows.specs.Slots.{rows_in_slots}
use Rattle.index_rows.proofs.WalkLemmas.{class_is}
use Rattle.index_rows.proofs.rows.Rows.with_class.Goals as goal

pub returns : goal.returns
returns g c =
    c.found.ensures
    ∙ class_is c.args.id.now c.args.kind (rows_in_slots c.self.inside.rows.slots)
    ∙ ap (λ (f : RowsFacts). filter (λ (row : RowFacts). has_class c.args.id.now c.args.kind row.reading) f.rows) c.self.view_is
