-- The walk is one of the log that the token has seen.
use Rattle.index_lock.specs.Tokens.{IsLater}
use Rattle.row_walk.specs.Walk.{IsWalk}
use Rattle.row_walk.proofs.holds.walk_all.Given as goal

abbrev pub invariant-loop : goal.invariant-loop
invariant-loop g l = IsLater l.fn.seat l.seat × IsWalk g.W.Truth.true_row (g.T.Wants.wants l.wanted) l.seat.seen l.walk
