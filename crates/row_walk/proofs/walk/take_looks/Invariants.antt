-- What was taken in so far.
use Rattle.std.proofs.Common.{◌≡◌}
use Rattle.std.specs.List.{fold}
use Rattle.row_walk.specs.Walk.{after_look}
use Rattle.row_walk.proofs.walk.take_looks.Given as goal

abbrev pub invariant-loop-look : goal.invariant-loop-look
invariant-loop-look g l = l.kept ≡ fold (after_look (g.T.Wants.wants l.wanted)) l.fn.kept l.yielded
