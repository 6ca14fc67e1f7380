-- So far some files were looked for, the index isn't broken, no name is to be read, and the row of each one that appeared
-- stands.
use Rattle.std.proofs.Common.{◌≡◌, [], length}
use Rattle.index_state.specs.State.{pass_or_none}
use Rattle.pass_runner.specs.Settled.{AppearedStand}
use Rattle.pass_runner.specs.Turns.{GoesFromStart}
use Rattle.pass_runner.proofs.look_for.look_for_all.Given as goal

abbrev pub invariant-loop-task : goal.invariant-loop-task
invariant-loop-task g l =
    GoesFromStart g.T.Tree.told g.W.Truth.version g.K.Keeper.shows (g.T.Tree.shows l.fn.hand) (g.T.Tree.shows l.hand)
    l.fn.state l.state × ((pass_or_none l.state.pass).todo ≡ []) × (AppearedStand l.fn.state → AppearedStand l.state)

abbrev pub decreases-loop-task : goal.decreases-loop-task
decreases-loop-task g l = length (pass_or_none l.state.pass).groom
