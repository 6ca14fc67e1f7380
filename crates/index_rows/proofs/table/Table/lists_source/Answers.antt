-- A source is listed exactly where rows count for it.
use Rattle.std.proofs.Common.{sym, ◌∙◌, ap}
use Rattle.std.specs.List.{list_any}
use Rattle.std.specs.Prelude.{nat_lt}
use Rattle.row_types.specs.Row.{RowFacts}
use Rattle.index_rows.specs.Classes.{lists_source}
use Rattle.index_rows.specs.Slots.{rows_in_slots}
use Rattle.index_rows.specs.Table.{TableFacts}
use Rattle.index_rows.proofs.TotalLemmas.{any_lists}
use Rattle.index_rows.proofs.table.Table.lists_source.Goals as goal

pub returns : goal.returns
returns c =
    ap (nat_lt 0) (c.count.ensures ∙ c.self.invariant.by_source c.args.id.now c.args.path.now)
    ∙ sym (any_lists c.args.id.now c.args.path.now (rows_in_slots c.self.inside.rows))
    ∙ ap (λ (t : TableFacts). list_any (λ (row : RowFacts). lists_source c.args.id.now c.args.path.now row.reading) (rows_in_slots t.slots)) c.self.view_is
