-- No connection came.
use Rattle.std.proofs.Common.{◌≤◌}
use Rattle.dbgd_edges.proofs.hall.Hall.sweep.Given as goal

abbrev pub invariant-loop-place : goal.invariant-loop-place
invariant-loop-place l = l.self.conns ≤ l.fn.self.conns
