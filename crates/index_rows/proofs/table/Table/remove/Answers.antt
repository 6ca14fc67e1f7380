-- What the old row counted for goes.
use Rattle.std.proofs.Common.{List, sym, subst, arith}
use Rattle.std.specs.List.{All}
use Rattle.std.proofs.lemmas.List.Elements.{All-filter}
use Rattle.row_types.specs.Row.{RowFacts}
use Rattle.index_rows.specs.Slots.{rows_in_slots}
use Rattle.index_rows.specs.Table.{ListsOnce, id_counts, source_counts}
use Rattle.index_rows.proofs.table.Table.remove.Goals as goal

pub invariant_of-self : goal.invariant_of-self
invariant_of-self c = record {
  by_id = λ id path. omega (
    arith,
    c.count_out.ensures.ids id path,
    c.self.invariant.by_id id path,
    c.remove-old.ensures.total (λ (row : RowFacts). id_counts row.reading row.name.path id path),
  );
  by_source = λ id path. omega (
    arith,
    c.count_out.ensures.sources id path,
    c.self.invariant.by_source id path,
    c.remove-old.ensures.total (λ (row : RowFacts). source_counts row.reading id path),
  );
  once = subst (λ (rows : List RowFacts). All ListsOnce rows) (sym c.remove-old.ensures.rows) (All-filter _ ListsOnce (rows_in_slots c.self.inside.rows) c.self.invariant.once);
}
