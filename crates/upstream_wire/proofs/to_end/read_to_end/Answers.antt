use Rattle.std.proofs.Common.{◌<◌, length}
use Rattle.upstream_wire.proofs.EndLemmas.{took_all, took_failed}
use Rattle.upstream_wire.proofs.FailLemmas.{fails_by_memory}
use Rattle.upstream_wire.proofs.to_end.read_to_end.Goals as goal

pub loop-room-preserved : goal.loop-room-preserved
loop-room-preserved g c = took_all c.loop-room.invariant c.in-Ok.ensures.0 c.in-Ok.ensures.1 c.in-Bytes.ensures

pub returns-in-Err : goal.returns-in-Err
returns-in-Err g c = fails_by_memory (λ all. 1073741824 < length all) c.loop-room.invariant

pub returns-in-Failed : goal.returns-in-Failed
returns-in-Failed g c =
    took_failed (λ all. 1073741824 < length all) c.loop-room.invariant c.in-Ok.ensures.0 c.in-Ok.ensures.1 c.in-Failed.ensures
