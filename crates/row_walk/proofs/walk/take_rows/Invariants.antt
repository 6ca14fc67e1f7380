-- What was taken in so far.
use Rattle.std.proofs.Common.{◌≡◌}
use Rattle.std.specs.List.{fold}
use Rattle.row_walk.specs.Walk.{after_row}
use Rattle.row_walk.proofs.walk.take_rows.Given as goal

abbrev pub invariant-loop-found : goal.invariant-loop-found
invariant-loop-found g l = l.kept ≡ fold (after_row (g.T.Wants.wants l.wanted)) l.fn.kept l.yielded
