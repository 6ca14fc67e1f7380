use Rattle.std.proofs.Common.{◌+◌, ◌-◌, length}
use Rattle.upstream_wire.specs.Takes.{Takes}
use Rattle.upstream_wire.proofs.to_end.read_to_end.Given as goal

abbrev pub invariant-loop-room : goal.invariant-loop-room
invariant-loop-room g l = Takes l.fn.room (g.S.Stream.shows l.fn.source) l.body.items l.room (g.S.Stream.shows l.source)

abbrev pub decreases-loop-room : goal.decreases-loop-room
decreases-loop-room g l = 1073741824 + 16385 - (length l.body.items + length l.room)
