use Rattle.sqlite.specs.Held.{state}
use Rattle.sqlite_keeper.proofs.ReadingLemmas.{given_more, given_none, left_by_step, left_unchanged}
use Rattle.sqlite_keeper.proofs.rows.next_of.Goals as goal

pub returns-in_ok-kept_of-in-Some-clause-gives : goal.returns-in_ok-kept_of-in-Some-clause-gives
returns-in_ok-kept_of-in-Some-clause-gives g c clean =
    given_more g.F.Store c.args.rows.now.conn.now c.advance.new.self.conn.now _ c.in-Some.row.now _ c.in-Some.ensures (c.in_ok-advance.ensures.ok clean) c.in_ok-kept_of-in-Some.ensures

pub returns-in_ok-kept_of-in-Some-clause-same : goal.returns-in_ok-kept_of-in-Some-clause-same
returns-in_ok-kept_of-in-Some-clause-same g c clean = c.in_ok-advance.ensures.same clean

pub returns-in-None-clause-gives : goal.returns-in-None-clause-gives
returns-in-None-clause-gives g c clean =
    given_none g.F.Store c.args.rows.now.conn.now c.advance.new.self.conn.now _ c.in-None.ensures (c.in_ok-advance.ensures.ok clean)

pub returns-in-None-clause-same : goal.returns-in-None-clause-same
returns-in-None-clause-same g c clean = c.in_ok-advance.ensures.same clean

pub returns-in_ok-kept_of-in-Some-clause-leaves : goal.returns-in_ok-kept_of-in-Some-clause-leaves
returns-in_ok-kept_of-in-Some-clause-leaves g c clean = left_unchanged (state g.F.Store c.args.rows.now.conn.now) (state g.F.Store c.advance.new.self.conn.now) (c.in_ok-advance.ensures.same clean)

pub returns-in_err-kept_of-in-Some-clause-leaves : goal.returns-in_err-kept_of-in-Some-clause-leaves
returns-in_err-kept_of-in-Some-clause-leaves g c clean = left_unchanged (state g.F.Store c.args.rows.now.conn.now) (state g.F.Store c.advance.new.self.conn.now) (c.in_ok-advance.ensures.same clean)

pub returns-in-None-clause-leaves : goal.returns-in-None-clause-leaves
returns-in-None-clause-leaves g c clean = left_unchanged (state g.F.Store c.args.rows.now.conn.now) (state g.F.Store c.advance.new.self.conn.now) (c.in_ok-advance.ensures.same clean)

pub returns-in_err-advance-clause-leaves : goal.returns-in_err-advance-clause-leaves
returns-in_err-advance-clause-leaves g c clean = left_by_step (state g.F.Store c.args.rows.now.conn.now) (state g.F.Store c.advance.new.self.conn.now) _ _ (c.in_err-advance.ensures.kept clean)
