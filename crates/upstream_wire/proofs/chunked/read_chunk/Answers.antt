use Rattle.std.proofs.Common.{◌<◌, arith}
use Rattle.upstream_wire.proofs.ChunkedLemmas.{takes_chunk}
use Rattle.upstream_wire.proofs.StepLemmas.{fails_by_data, fails_by_end, fails_by_line, fails_by_size}
use Rattle.upstream_wire.proofs.chunked.read_chunk.Goals as goal

pub returns-in-Err : goal.returns-in-Err
returns-in-Err g c = fails_by_line c.args.most c.in-Err.fault c.in-Err.ensures

pub returns-then-size-most : goal.returns-then-size-most
returns-then-size-most g c = fails_by_size c.args.most c.in-Ok.size c.in-Ok.ensures c.if-size-most.true

pub returns-in-Err-read_data : goal.returns-in-Err-read_data
returns-in-Err-read_data g c =
    let some : 0 < c.in-Ok.size = omega (arith, c.if-size-eq0.false) in
    fails_by_data c.args.most c.in-Ok.size c.in-Err-read_data.fault c.in-Ok.ensures some c.in-Err-read_data.ensures

pub returns-in-Ok-read_line_end : goal.returns-in-Ok-read_line_end
returns-in-Ok-read_line_end g c =
    let some : 0 < c.in-Ok.size = omega (arith, c.if-size-eq0.false) in (
      some,
      omega (arith, c.if-size-most.false),
      takes_chunk c.in-Ok.size c.in-Ok.ensures some c.in-Ok-read_data.ensures c.in-Ok-read_line_end.ensures,
    )

pub returns-in-Err-read_line_end : goal.returns-in-Err-read_line_end
returns-in-Err-read_line_end g c =
    let some : 0 < c.in-Ok.size = omega (arith, c.if-size-eq0.false) in
    fails_by_end c.args.most c.in-Ok.size c.in-Err-read_line_end.fault c.in-Ok.ensures some c.in-Ok-read_data.ensures
    c.in-Err-read_line_end.ensures
