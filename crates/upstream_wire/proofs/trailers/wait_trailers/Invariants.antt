-- So far bytes came.
use Rattle.std.proofs.Common.{◌-◌, [], length}
use Rattle.http_wire.specs.declared.limits.TheConstants.{HEAD_LIMIT}
use Rattle.upstream_wire.specs.Takes.{Takes}
use Rattle.upstream_wire.proofs.trailers.wait_trailers.Given as goal

abbrev pub invariant-loop-len : goal.invariant-loop-len
invariant-loop-len g l = Takes l.fn.room (g.S.Stream.shows l.fn.source) [] l.room (g.S.Stream.shows l.source)

abbrev pub decreases-loop-len : goal.decreases-loop-len
decreases-loop-len g l = HEAD_LIMIT - length l.room
