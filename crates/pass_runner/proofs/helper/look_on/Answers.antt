-- A groomer loads nothing.
use Rattle.pass_runner.proofs.HelperLemmas.{grooms_helped}
use Rattle.pass_runner.proofs.helper.look_on.Goals as goal

pub returns-clause-helped : goal.returns-clause-helped
returns-clause-helped g c =
    grooms_helped g.T.Tree.told g.W.Truth.version c.args.seat (g.T.Tree.shows c.args.hand) c.groom-seat.result.0
    (g.T.Tree.shows c.groom-seat.result.1) c.groom-seat.result.2 c.groom-seat.ensures
