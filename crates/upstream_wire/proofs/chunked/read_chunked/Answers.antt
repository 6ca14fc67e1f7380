use Rattle.std.proofs.Common.{sym, subst, arith}
use Rattle.upstream_wire.specs.Bodies.{ReadsChunked, StepsChunk}
use Rattle.upstream_wire.proofs.ChunkedLemmas.{reads_chunked, so_far_more}
use Rattle.upstream_wire.proofs.StepLemmas.{fails_by_trailers, fails_so_far}
use Rattle.upstream_wire.proofs.chunked.read_chunked.Goals as goal

pub loop-size-preserved : goal.loop-size-preserved
loop-size-preserved g c =
    let step = subst (λ s. StepsChunk c.loop-size.room (g.S.Stream.shows c.loop-size.source) c.loop-size.left s
    c.loop-size.body.items c.read_chunk.new.room (g.S.Stream.shows c.read_chunk.new.source) c.read_chunk.new.body.items)
    c.in-Ok-Chunk.field-0-is c.in-Ok-Chunk.ensures in
    so_far_more c.loop-size.invariant step.2 (omega (arith, step.1))

pub returns-in-Err : goal.returns-in-Err
returns-in-Err g c = fails_so_far c.in-Err.fault c.loop-size.invariant c.in-Err.ensures

pub returns-in-Ok : goal.returns-in-Ok
returns-in-Ok g c =
    let step = subst (λ s. StepsChunk c.loop-size.room (g.S.Stream.shows c.loop-size.source) c.loop-size.left s
    c.loop-size.body.items c.read_chunk.new.room (g.S.Stream.shows c.read_chunk.new.source) c.read_chunk.new.body.items)
    c.in-Ok-Last.field-0-is c.in-Ok-Last.ensures in
    subst (λ b. ReadsChunked c.args.room.now (g.S.Stream.shows c.args.source.now) c.read_trailers.new.room
    (g.S.Stream.shows c.read_trailers.new.source) b) (sym step.1)
    (reads_chunked c.loop-size.invariant step.0 c.in-Ok.ensures)

pub returns-in-Err-read_trailers : goal.returns-in-Err-read_trailers
returns-in-Err-read_trailers g c =
    let step = subst (λ s. StepsChunk c.loop-size.room (g.S.Stream.shows c.loop-size.source) c.loop-size.left s
    c.loop-size.body.items c.read_chunk.new.room (g.S.Stream.shows c.read_chunk.new.source) c.read_chunk.new.body.items)
    c.in-Ok-Last.field-0-is c.in-Ok-Last.ensures in
    fails_by_trailers c.in-Err-read_trailers.fault c.loop-size.invariant step.0 c.in-Err-read_trailers.ensures
