-- A worker loads what it may, and counts no more.
use Rattle.pass_runner.proofs.HelperLemmas.{works_helped}
use Rattle.pass_runner.proofs.helper.read_on.Goals as goal

pub returns-clause-helped : goal.returns-clause-helped
returns-clause-helped g c =
    works_helped g.T.Tree.told g.W.Truth.version c.args.seat (g.T.Tree.shows c.args.hand) c.work-seat.result.0
    (g.T.Tree.shows c.work-seat.result.1) c.work-seat.result.2 c.work-seat.ensures
