use Rattle.std.proofs.Common.{◌≡◌}
use Rattle.index_tests.proofs.locks.put_all.Given as goal

abbrev pub invariant-loop-number : goal.invariant-loop-number
invariant-loop-number g l = l.seat.lock ≡ l.fn.seat.lock
