-- The walk is one of the log that the token has seen.
use Rattle.row_walk.proofs.holds.walk_all.Goals as goal

pub loop-init : goal.loop-init
loop-init g c = (c.begin-seat.ensures.later, c.begin-seat.ensures.walk (g.T.Wants.wants c.args.wanted.now))
