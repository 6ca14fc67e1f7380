-- No connection came.
use Rattle.std.proofs.Common.{◌≤◌}
use Rattle.dbgd_edges.proofs.hall.Hall.make_byte_room.Given as goal

abbrev pub invariant-loop : goal.invariant-loop
invariant-loop l = l.self.conns ≤ l.fn.self.conns
