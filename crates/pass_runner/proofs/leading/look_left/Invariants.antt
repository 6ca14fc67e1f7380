-- The looking so far, and the selection is the same.
use Rattle.std.proofs.Common.{◌≡◌}
use Rattle.path_scope.specs.Scope.{scope_of}
use Rattle.pass_runner.specs.Leading.{LeadsInSettling}
use Rattle.pass_runner.proofs.leading.look_left.Given as goal

abbrev pub invariant-loop : goal.invariant-loop
invariant-loop g l =
    (g.P.Selection.takes l.select ≡ g.P.Selection.takes l.fn.select)
    × LeadsInSettling g.T.Tree.told g.W.Truth.version (scope_of l.roots (g.P.Selection.takes l.fn.select)) l.fn.desk.seat (g.T.Tree.shows l.fn.hand) l.seat (g.T.Tree.shows l.hand)
    l.fn.met.items l.met.items
