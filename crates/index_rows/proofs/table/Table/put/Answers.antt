-- What the new row counts for comes, and what the old one counted for goes.
use Rattle.std.proofs.Common.{List, length, sym, ap, subst, arith}
use Rattle.std.specs.List.{All}
use Rattle.row_types.specs.Row.{RowFacts}
use Rattle.index_rows.specs.Rows.{row_path}
use Rattle.index_rows.specs.Slots.{rows_in_slots}
use Rattle.index_rows.specs.Table.{ListsOnce, TableFacts, id_counts, source_counts}
use Rattle.index_rows.proofs.PathLemmas.{put_holds}
use Rattle.index_rows.proofs.TotalLemmas.{id_once, total_few}
use Rattle.index_rows.proofs.table.Table.put.Goals as goal

pub count_in-requires-clause-ids_fit : goal.count_in-requires-clause-ids_fit
count_in-requires-clause-ids_fit c = λ id path.
    let rows = rows_in_slots c.self.inside.rows in
    omega (
      arith,
      c.self.invariant.by_id id path,
      total_few (λ (row : RowFacts). id_counts row.reading row.name.path id path) rows (λ k d within. id_once _ _ id path),
      ap (λ (t : TableFacts). length (rows_in_slots t.slots)) c.self.view_is,
      c.requires.fits,
    )

pub count_in-requires-clause-sources_fit : goal.count_in-requires-clause-sources_fit
count_in-requires-clause-sources_fit c = λ id path.
    let rows = rows_in_slots c.self.inside.rows in
    omega (
      arith,
      c.self.invariant.by_source id path,
      total_few (λ (row : RowFacts). source_counts row.reading id path) rows (λ k d within. c.self.invariant.once k d within id path),
      ap (λ (t : TableFacts). length (rows_in_slots t.slots)) c.self.view_is,
      c.requires.fits,
    )

pub invariant_of-self : goal.invariant_of-self
invariant_of-self c = record {
  by_id = λ id path. omega (
    arith,
    c.count_out.ensures.ids id path,
    c.count_in.ensures.ids id path,
    c.self.invariant.by_id id path,
    c.in-Some.ensures.total (λ (row : RowFacts). id_counts row.reading row.name.path id path),
  );
  by_source = λ id path. omega (
    arith,
    c.count_out.ensures.sources id path,
    c.count_in.ensures.sources id path,
    c.self.invariant.by_source id path,
    c.in-Some.ensures.total (λ (row : RowFacts). source_counts row.reading id path),
  );
  once = subst (λ (rows : List RowFacts). All ListsOnce rows) (sym c.put.ensures.rows)
      (put_holds ListsOnce row_path c.args.row (rows_in_slots c.self.inside.rows) c.self.invariant.once c.count_in.ensures.once);
}

pub invariant_of-self-in-Some-2 : goal.invariant_of-self-in-Some-2
invariant_of-self-in-Some-2 c = record {
  by_id = λ id path. omega (
    arith,
    c.count_out.ensures.ids id path,
    c.count_in.ensures.ids id path,
    c.self.invariant.by_id id path,
    c.in-Some.ensures.total (λ (row : RowFacts). id_counts row.reading row.name.path id path),
  );
  by_source = λ id path. omega (
    arith,
    c.count_out.ensures.sources id path,
    c.count_in.ensures.sources id path,
    c.self.invariant.by_source id path,
    c.in-Some.ensures.total (λ (row : RowFacts). source_counts row.reading id path),
  );
  once = subst (λ (rows : List RowFacts). All ListsOnce rows) (sym c.put.ensures.rows)
      (put_holds ListsOnce row_path c.args.row (rows_in_slots c.self.inside.rows) c.self.invariant.once c.count_in.ensures.once);
}

pub invariant_of-self-in-None : goal.invariant_of-self-in-None
invariant_of-self-in-None c = record {
  by_id = λ id path. omega (
    arith,
    c.count_in.ensures.ids id path,
    c.self.invariant.by_id id path,
    c.in-None.ensures.total (λ (row : RowFacts). id_counts row.reading row.name.path id path),
  );
  by_source = λ id path. omega (
    arith,
    c.count_in.ensures.sources id path,
    c.self.invariant.by_source id path,
    c.in-None.ensures.total (λ (row : RowFacts). source_counts row.reading id path),
  );
  once = subst (λ (rows : List RowFacts). All ListsOnce rows) (sym c.put.ensures.rows)
      (put_holds ListsOnce row_path c.args.row (rows_in_slots c.self.inside.rows) c.self.invariant.once c.count_in.ensures.once);
}
