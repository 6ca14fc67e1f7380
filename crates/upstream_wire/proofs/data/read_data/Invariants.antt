use Rattle.std.proofs.Common.{◌-◌, ◌≤◌}
use Rattle.upstream_wire.specs.Bodies.{ReadsData}
use Rattle.upstream_wire.proofs.data.read_data.Given as goal

abbrev pub invariant-loop-left : goal.invariant-loop-left
invariant-loop-left g l =
    (l.left ≤ l.fn.size)
    × ReadsData l.fn.room (g.S.Stream.shows l.fn.source) (l.fn.size - l.left) l.fn.body.items l.room (g.S.Stream.shows l.source) l.body.items

abbrev pub decreases-loop-left : goal.decreases-loop-left
decreases-loop-left g l = l.left
