use Rattle.std.proofs.Common.{◌≡◌}
use Rattle.index_lock.proofs.lock.TurnLock.acquire.Given as goal

abbrev pub invariant-loop : goal.invariant-loop
invariant-loop g l = (l.token.table_id ≡ l.fn.token.table_id) × (l.token.me ≡ l.fn.token.me)
