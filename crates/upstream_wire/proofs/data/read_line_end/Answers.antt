use Rattle.httparse.specs.Grammar.{crlf, print_end}
use Rattle.upstream_wire.specs.Chunked.{LacksFront}
use Rattle.upstream_wire.proofs.FailLemmas.{fails_by_read}
use Rattle.upstream_wire.proofs.RoomLemmas.{takes_fill}
use Rattle.upstream_wire.proofs.data.read_line_end.Goals as goal

pub returns-in-Failed : goal.returns-in-Failed
returns-in-Failed g c = fails_by_read (LacksFront (print_end crlf)) c.loop-room.invariant c.in-Failed.ensures

pub loop-room-preserved : goal.loop-room-preserved
loop-room-preserved g c = takes_fill c.loop-room.invariant c.in-Bytes.ensures
