use Rattle.std.proofs.Common.{◌≤◌, drop, length}
use Rattle.glob_match.specs.Last.{HasNoStar}
use Rattle.glob_match.proofs.last.split_last.Given as goal

abbrev pub invariant-loop-at : goal.invariant-loop-at
invariant-loop-at l = (l.at ≤ length l.pattern) × HasNoStar (drop l.at l.pattern)

abbrev pub decreases-loop-at : goal.decreases-loop-at
decreases-loop-at l = l.at
