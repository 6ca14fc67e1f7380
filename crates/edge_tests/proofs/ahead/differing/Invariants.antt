-- The file stays the one that was opened.
use Rattle.std.proofs.Common.{◌≡◌}
use Rattle.edge_tests.proofs.ahead.differing.Given as goal

abbrev pub invariant-loop-at : goal.invariant-loop-at
invariant-loop-at g l = g.T.Tree.opened l.file ≡ g.T.Tree.opened l.fn.file
