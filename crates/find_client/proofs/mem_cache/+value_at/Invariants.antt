-- Fewer values are left.
use Rattle.std.proofs.Common.{length}
use Rattle.find_client.proofs.mem_cache.+value_at.Given as goal

abbrev pub decreases-value_at : goal.decreases-value_at
decreases-value_at l = length l.held.now
