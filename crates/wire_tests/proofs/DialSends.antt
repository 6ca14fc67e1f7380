-- A dial in memory may go to another thread: all that it has may.
use denote.Param.Send.{IsSend, sendable}
use Rattle.std.proofs.Crossing as std
use Rattle.std.proofs.MapsCrossing as texts
use Rattle.http_wire.proofs.mem_conn.MemConn.TheSendSync as conn
use Rattle.upstream_wire.proofs.dial_conn.DialConn.TheSendSync as dial_conn
use Rattle.upstream_wire.specs.contracts.mem_dial.AskedHost as asked
use Rattle.upstream_wire.specs.contracts.mem_dial.MemDial as dial

asked_sends : IsSend asked.the_row
asked_sends = search (std.crosses, texts.crosses, sendable) depth 20

pub dial_sends : IsSend dial.the_row
dial_sends = search (conn.the_send, dial_conn.the_send, asked_sends, std.crosses, texts.crosses, sendable) depth 40
