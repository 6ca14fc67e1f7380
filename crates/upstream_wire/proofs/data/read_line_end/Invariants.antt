use Rattle.std.proofs.Common.{◌-◌, [], length}
use Rattle.upstream_wire.specs.Takes.{Takes}
use Rattle.http_wire.specs.declared.limits.TheConstants.{HEAD_LIMIT}
use Rattle.upstream_wire.proofs.data.read_line_end.Given as goal

abbrev pub invariant-loop-room : goal.invariant-loop-room
invariant-loop-room g l =
    Takes l.fn.room (g.S.Stream.shows l.fn.source) [] l.room (g.S.Stream.shows l.source)

abbrev pub decreases-loop-room : goal.decreases-loop-room
decreases-loop-room g l = HEAD_LIMIT - length l.room
