-- What is still to be added, behind what is there, is all.
use Rattle.std.proofs.Common.{◌≡◌, ◌≤◌, ◌++◌, codes}
use Rattle.std.specs.Prelude.{replicate}
use Rattle.std.specs.List.{concat}
use Rattle.upstream_wire.proofs.question.push_more.Given as goal

abbrev pub invariant-loop-left : goal.invariant-loop-left
invariant-loop-left l =
    (l.left ≤ l.hops)
    × (l.bytes.items ++ concat (replicate l.left (codes ", unknown"))
    ≡ l.fn.bytes.items ++ concat (replicate l.hops (codes ", unknown")))

abbrev pub decreases-loop-left : goal.decreases-loop-left
decreases-loop-left l = l.left
