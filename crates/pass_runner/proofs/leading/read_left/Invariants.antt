-- The reading so far.
use Rattle.path_scope.specs.Scope.{Scope}
use Rattle.index_lock.specs.Tokens.{IsLater}
use Rattle.pass_runner.specs.Leading.{LeadsInSettling}
use Rattle.pass_runner.proofs.leading.read_left.Given as goal

abbrev pub invariant-loop : goal.invariant-loop
invariant-loop g l =
    IsLater l.fn.desk.seat l.seat
    × ((scope : Scope)
    → LeadsInSettling g.T.Tree.told g.W.Truth.version scope l.fn.desk.seat (g.T.Tree.shows l.fn.hand) l.seat (g.T.Tree.shows l.hand)
    l.fn.met.items l.met.items)
