-- There are no more doors than were asked for.
use Rattle.std.proofs.Common.{◌-◌, ◌≤◌, vec_len}
use Rattle.dbgd_edges.proofs.doors.lobby_doors.Given as goal

abbrev pub invariant-loop-alloc : goal.invariant-loop-alloc
invariant-loop-alloc g l = vec_len l.doors ≤ l.fn.count

abbrev pub decreases-loop-alloc : goal.decreases-loop-alloc
decreases-loop-alloc g l = l.fn.count - vec_len l.doors
