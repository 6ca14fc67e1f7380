-- A door in memory may go to another thread: all that it has may.
use denote.Param.Send.{IsSend, sendable}
use Rattle.std.proofs.Crossing as std
use Rattle.http_wire.proofs.mem_conn.MemConn.TheSendSync as conn
use Rattle.http_wire.specs.contracts.mem_door.MemDoor as door
use Rattle.http_wire.specs.contracts.mem_door.MemDoorCall as call

call_sends : IsSend call.the_row
call_sends = search (std.crosses, sendable) depth 20

pub door_sends : IsSend door.the_row
door_sends = search (conn.the_send, call_sends, std.crosses, sendable) depth 40
