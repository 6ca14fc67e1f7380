-- Fewer links are left.
use Rattle.std.proofs.Common.{length}
use Rattle.federation.proofs.link_row.+ask_row.Given as goal

abbrev pub decreases-ask_row : goal.decreases-ask_row
decreases-ask_row g l = length l.links.now
