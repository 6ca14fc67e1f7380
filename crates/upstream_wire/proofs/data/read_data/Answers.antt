use Rattle.std.proofs.Common.{◌<◌, length, arith}
use Rattle.upstream_wire.proofs.DataLemmas.{data_none, data_stops, data_waits, moves_more}
use Rattle.upstream_wire.proofs.FailLemmas.{fails_by_memory}
use Rattle.upstream_wire.proofs.data.read_data.Goals as goal

pub loop-left-init : goal.loop-left-init
loop-left-init g c =
    (omega arith, data_none c.args.room.now (g.S.Stream.shows c.args.source.now) c.args.size c.args.body.now.items)

pub loop-left-preserved : goal.loop-left-preserved
loop-left-preserved g c =
    let fits = c.loop-left.invariant.0 in
    let moves = c.in-Ok-move_some.ensures in
    let few = moves.few in
    (omega arith, moves_more (data_waits c.loop-left.invariant.1 c.in-Ok.ensures.0) moves (omega arith))

pub returns-in-Err : goal.returns-in-Err
returns-in-Err g c =
    let fits = c.loop-left.invariant.0 in
    data_stops c.args.size c.in-Err.fault c.loop-left.invariant.1 c.in-Err.ensures (omega arith)

pub returns-in-Err-move_some : goal.returns-in-Err-move_some
returns-in-Err-move_some g c =
    fails_by_memory (λ all. length all < c.args.size) (data_waits c.loop-left.invariant.1 c.in-Ok.ensures.0).takes
