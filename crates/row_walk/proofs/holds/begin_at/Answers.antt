-- It is one of this log, whatever is kept.
use Rattle.row_walk.proofs.holds.begin_at.Goals as goal

pub returns : goal.returns
returns g c = record { any = c.new.ensures }
