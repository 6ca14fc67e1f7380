use Rattle.std.proofs.Common.{◌≡◌, [], rules, subst, arith}
use Rattle.std.specs.Prelude.{OnOk}
use Rattle.sqlite.specs.Held.{state}
use Rattle.sqlite.specs.State.{CommitsShowing, HasCleanDisk, Survives}
use Rattle.sqlite_keeper.specs.Reading.{GivesAll, LeavesAlone}
use Rattle.sqlite_keeper.specs.Statements.{rows_query}
use Rattle.sqlite_keeper.proofs.ReadingLemmas.{begun, gave_since, left_after, left_by_query, on_ok}
use Rattle.sqlite_keeper.proofs.SurvivesLemmas.{survives_both, survives_reading}
use Rattle.sqlite_keeper.proofs.TextLemmas.{rows_show_none}
use Rattle.sqlite_keeper.proofs.rows.read_all.Goals as goal

-- the rows are those of a query that began
pub returns-clause-gives : goal.returns-clause-gives
returns-clause-gives g c clean =
    let first = c.args.connection.now in
    let now = c.in_ok-rows.rows.conn.now in
    let last = c.read_from.new.rows.conn.now in
    let items = c.read_from.new.kept.items in
    let same : last ≡ c.connection-2-1.given.0 = search rules in
    subst (λ h. HasCleanDisk (state g.F.Store h) → OnOk c.read_from.result (GivesAll g.F.Store first h items)) same (λ late.
    let it = begun g.F.Store first now (c.in_ok-rows.ensures.begun (omega (arith, c.read_from.ensures.survives.clean, late))) in
    on_ok c.read_from.result (GivesAll g.F.Store now last items) (GivesAll g.F.Store first last items) (gave_since g.F.Store first now last items it.1) (c.read_from.ensures.gives late it.0)) clean

pub returns-clause-leaves : goal.returns-clause-leaves
returns-clause-leaves g c clean =
    let first = c.args.connection.now in
    let now = c.in_ok-rows.rows.conn.now in
    let last = c.read_from.new.rows.conn.now in
    let same : last ≡ c.connection-2-1.given.0 = search rules in
    subst (λ h. HasCleanDisk (state g.F.Store h) → LeavesAlone (state g.F.Store first) (state g.F.Store h)) same (λ late.
    let it = begun g.F.Store first now (c.in_ok-rows.ensures.begun (omega (arith, c.read_from.ensures.survives.clean, late))) in
    left_after (state g.F.Store first) (state g.F.Store now) (state g.F.Store last) it.1 (c.read_from.ensures.leaves late it.0)) clean

pub returns-clause-survives : goal.returns-clause-survives
returns-clause-survives g c =
    let first = c.args.connection.now in
    let now = c.in_ok-rows.rows.conn.now in
    let last = c.read_from.new.rows.conn.now in
    let same : last ≡ c.connection-2-1.given.0 = search rules in
    subst (λ h. Survives (state g.F.Store first) (state g.F.Store h) (λ _. ⊥)) same
    (survives_both (state g.F.Store first) (state g.F.Store now) (state g.F.Store last)
    (survives_reading rows_query [] (state g.F.Store first) (state g.F.Store now) (rows_show_none first.schema) c.in_ok-rows.ensures.survives) c.read_from.ensures.survives)

-- no query has begun, and none has RETURNING
pub returns-in_err-rows-clause-survives : goal.returns-in_err-rows-clause-survives
returns-in_err-rows-clause-survives g c =
    let first = c.args.connection.now in
    let last = c.query.follows.lender-at-none in
    let held = c.query.follows.holds-at-none in
    let kept : Survives (state g.F.Store first) (state g.F.Store last) (CommitsShowing rows_query [] (state g.F.Store first)) = search rules in
    survives_reading rows_query [] (state g.F.Store first) (state g.F.Store last) (rows_show_none first.schema) kept

-- a query that doesn't begin leaves all alone
pub returns-in_err-rows-clause-leaves : goal.returns-in_err-rows-clause-leaves
returns-in_err-rows-clause-leaves g c clean =
    let first = state g.F.Store c.args.connection.now in
    let last = state g.F.Store c.query.follows.lender-at-none in
    let held = rw c.in_err-rows.was at c.query.follows.holds-at-none in
    left_by_query first last _ (held.err clean)
