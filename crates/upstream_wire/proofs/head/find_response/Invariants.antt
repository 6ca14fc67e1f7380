-- So far bytes came.
use Rattle.std.proofs.Common.{◌-◌, [], length}
use Rattle.http_wire.specs.declared.limits.TheConstants.{HEAD_LIMIT}
use Rattle.upstream_wire.specs.Takes.{Takes}
use Rattle.upstream_wire.proofs.head.find_response.Given as goal

abbrev pub invariant-loop-found : goal.invariant-loop-found
invariant-loop-found g l = Takes l.fn.room (g.S.Stream.shows l.fn.source) [] l.room (g.S.Stream.shows l.source)

abbrev pub decreases-loop-found : goal.decreases-loop-found
decreases-loop-found g l = HEAD_LIMIT - length l.room
