-- So far bytes without a line feed came.
use Rattle.std.proofs.Common.{◌-◌, length}
use Rattle.http_wire.specs.declared.limits.TheConstants.{HEAD_LIMIT}
use Rattle.upstream_wire.proofs.WaitLemmas.{IsWaiting}
use Rattle.upstream_wire.proofs.waiting.read_on.Given as goal

abbrev pub invariant-loop-n : goal.invariant-loop-n
invariant-loop-n g l = IsWaiting l.fn.room (g.S.Stream.shows l.fn.source) l.room (g.S.Stream.shows l.source)

abbrev pub decreases-loop-n : goal.decreases-loop-n
decreases-loop-n g l = HEAD_LIMIT - length l.room
