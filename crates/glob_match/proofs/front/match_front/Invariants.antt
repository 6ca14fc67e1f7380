use Rattle.std.proofs.Common.{length}
use Rattle.glob_match.specs.Front.{FitsUpTo}
use Rattle.glob_match.proofs.front.match_front.Given as goal

abbrev pub invariant-loop-wanted : goal.invariant-loop-wanted
invariant-loop-wanted l = FitsUpTo l.fn.pattern l.fn.text l.pattern l.text

abbrev pub decreases-loop-wanted : goal.decreases-loop-wanted
decreases-loop-wanted l = length l.pattern
