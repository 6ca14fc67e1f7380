-- So far some files were read, the index isn't broken, and where no name had appeared, none has.
use Rattle.std.proofs.Common.{length}
use Rattle.index_state.specs.State.{pass_or_none}
use Rattle.pass_runner.specs.Settled.{NoneAppeared}
use Rattle.pass_runner.specs.Turns.{GoesFromStart}
use Rattle.pass_runner.proofs.read_new.read_new.Given as goal

abbrev pub invariant-loop-name : goal.invariant-loop-name
invariant-loop-name g l =
    GoesFromStart g.T.Tree.told g.W.Truth.version g.K.Keeper.shows (g.T.Tree.shows l.fn.hand) (g.T.Tree.shows l.hand)
    l.fn.state l.state × (NoneAppeared l.fn.state → NoneAppeared l.state)

abbrev pub decreases-loop-name : goal.decreases-loop-name
decreases-loop-name g l = length (pass_or_none l.state.pass).todo
