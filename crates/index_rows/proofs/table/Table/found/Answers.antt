-- What is found at the paths that count are the rows with the id.
use Rattle.std.proofs.Common.{List, sym, ◌∙◌, ap, subst, filter}
use Rattle.row_types.specs.Ascends.{AscendsBy}
use Rattle.row_types.specs.Row.{RowFacts}
use Rattle.index_rows.specs.Classes.{has_id}
use Rattle.index_rows.specs.Left.{is_wanted}
use Rattle.index_rows.specs.Rows.{row_path}
use Rattle.index_rows.specs.Slots.{rows_in_slots}
use Rattle.index_rows.specs.Table.{TableFacts}
use Rattle.index_rows.specs.Tally.{count_at}
use Rattle.index_rows.proofs.WalkLemmas.{walk_is}
use Rattle.index_rows.proofs.table.Table.found.Goals as goal

pub returns : goal.returns
returns c =
    c.found.ensures
    ∙ ap (λ (rows : List RowFacts). filter (λ (row : RowFacts). is_wanted c.args.kind row.reading) rows)
    (walk_is c.args.id.now c.entries.result.now (rows_in_slots c.self.inside.rows)
    (λ path. ap (count_at path) c.entries.ensures.value ∙ c.self.invariant.by_id c.args.id.now path)
    (subst (λ (t : TableFacts). AscendsBy row_path (rows_in_slots t.slots)) (sym c.self.view_is) c.requires)
    c.entries.ensures.ascends)
    ∙ ap (λ (t : TableFacts). filter (λ (row : RowFacts). is_wanted c.args.kind row.reading) (filter (λ (row : RowFacts). has_id c.args.id.now row.reading) (rows_in_slots t.slots))) c.self.view_is
