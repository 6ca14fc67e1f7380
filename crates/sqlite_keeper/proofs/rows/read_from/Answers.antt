use Rattle.std.proofs.Common.{◌∷◌, [], ◌++◌, refl, sym, ◌∙◌, subst, arith}
use Rattle.sqlite.specs.Held.{state}
use Rattle.sqlite.proofs.Callers.{unchanged_then}
use Rattle.index_keeper.specs.Tables.{AscendsByPath}
use Rattle.sqlite_keeper.specs.Reading.{GivesRow}
use Rattle.sqlite_keeper.proofs.ReadingLemmas.{gave_all, given_rests, left_after, left_unchanged, one_more}
use Rattle.sqlite_keeper.proofs.SurvivesLemmas.{survives_both, survives_same}
use Rattle.sqlite_keeper.proofs.rows.read_from.Goals as goal

pub rows-init : goal.rows-init
rows-init g c =
    let first = c.args.rows.now.conn.now in (
      subst AscendsByPath (sym c.requires) (λ i j d less within. absurd (omega arith)),
      refl,
      survives_same (state g.F.Store first),
      λ out. out,
      λ clean none. (given_rests g.F.Store first none, ([], none, c.requires)),
    )

pub rows-preserved : goal.rows-preserved
rows-preserved g c =
    let first = state g.F.Store c.args.rows.now.conn.now in
    let now = state g.F.Store c.rows.rows.conn.now in
    let next = state g.F.Store c.next_of.new.rows.conn.now in (
      c.in_ok-add-in-Some.ensures.ascends,
      c.next_of.ensures.same_reference ∙ c.rows.invariant.1,
      survives_both first now next c.rows.invariant.2 c.next_of.ensures.survives,
      λ out. c.next_of.ensures.outside (c.rows.invariant.3 out),
      λ clean none.
          let was = c.rows.invariant.4 (omega (arith, c.next_of.ensures.survives.clean, clean)) none in
          let more = subst (GivesRow g.F.Store c.rows.rows.conn.now c.next_of.new.rows.conn.now) c.in-Some.is (c.in_ok-row.ensures.gives clean) was.1.0 was.1.1 in (
            unchanged_then first now next was.0 (c.in_ok-row.ensures.same clean),
            (was.1.0 ++ more.0 ∷ [], more.1, one_more was.1.0 more.0 c.rows.kept.items c.add.new.rows.items c.in-Some.row was.1.2 more.2 c.in_ok-add-in-Some.ensures.added),
          ),
    )

-- no row is left
pub returns-in-None-clause-gives : goal.returns-in-None-clause-gives
returns-in-None-clause-gives g c clean none =
    let first = c.args.rows.now.conn.now in
    let now = c.rows.rows.conn.now in
    let last = c.next_of.new.rows.conn.now in
    let was = c.rows.invariant.4 (omega (arith, c.next_of.ensures.survives.clean, clean)) none in
    let ends = subst (GivesRow g.F.Store now last) c.in-None.is (c.in_ok-row.ensures.gives clean) in
    gave_all g.F.Store first now last was.1.0 c.rows.kept.items was.0 was.1.1 ends (c.in_ok-row.ensures.same clean) was.1.2

-- wherever the reading ends, the database was as it was before the last step
pub returns-in-None-clause-leaves : goal.returns-in-None-clause-leaves
returns-in-None-clause-leaves g c clean none =
    let first = state g.F.Store c.args.rows.now.conn.now in
    let now = state g.F.Store c.rows.rows.conn.now in
    let last = state g.F.Store c.next_of.new.rows.conn.now in
    let was = c.rows.invariant.4 (omega (arith, c.next_of.ensures.survives.clean, clean)) none in
    left_after first now last was.0 (c.next_of.ensures.leaves clean)

pub returns-in_err-row-clause-leaves : goal.returns-in_err-row-clause-leaves
returns-in_err-row-clause-leaves g c clean none =
    let first = state g.F.Store c.args.rows.now.conn.now in
    let now = state g.F.Store c.rows.rows.conn.now in
    let last = state g.F.Store c.next_of.new.rows.conn.now in
    let was = c.rows.invariant.4 (omega (arith, c.next_of.ensures.survives.clean, clean)) none in
    left_after first now last was.0 (c.next_of.ensures.leaves clean)

pub returns-in_err-add-in-Some-clause-leaves : goal.returns-in_err-add-in-Some-clause-leaves
returns-in_err-add-in-Some-clause-leaves g c clean none =
    let first = state g.F.Store c.args.rows.now.conn.now in
    let now = state g.F.Store c.rows.rows.conn.now in
    let last = state g.F.Store c.next_of.new.rows.conn.now in
    let was = c.rows.invariant.4 (omega (arith, c.next_of.ensures.survives.clean, clean)) none in
    left_after first now last was.0 (c.next_of.ensures.leaves clean)

pub returns-clause-leaves : goal.returns-clause-leaves
returns-clause-leaves g c clean none = left_unchanged (state g.F.Store c.args.rows.now.conn.now) (state g.F.Store c.rows.rows.conn.now) (c.rows.invariant.4 clean none).0

-- and a crash leaves what it could before
pub returns-in-None-clause-survives : goal.returns-in-None-clause-survives
returns-in-None-clause-survives g c =
    survives_both (state g.F.Store c.args.rows.now.conn.now) (state g.F.Store c.rows.rows.conn.now) (state g.F.Store c.next_of.new.rows.conn.now) c.rows.invariant.2 c.next_of.ensures.survives

pub returns-in_err-row-clause-survives : goal.returns-in_err-row-clause-survives
returns-in_err-row-clause-survives g c =
    survives_both (state g.F.Store c.args.rows.now.conn.now) (state g.F.Store c.rows.rows.conn.now) (state g.F.Store c.next_of.new.rows.conn.now) c.rows.invariant.2 c.next_of.ensures.survives

pub returns-in_err-add-in-Some-clause-survives : goal.returns-in_err-add-in-Some-clause-survives
returns-in_err-add-in-Some-clause-survives g c =
    survives_both (state g.F.Store c.args.rows.now.conn.now) (state g.F.Store c.rows.rows.conn.now) (state g.F.Store c.next_of.new.rows.conn.now) c.rows.invariant.2 c.next_of.ensures.survives
