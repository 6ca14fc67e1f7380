use denote.Param.Send.{sendable}
use Rattle.run_tests.proofs.DoorSends.{door_sends}
use Rattle.run_tests.proofs.runs.serves_asked.ask_by.Goals as goal

-- a door in memory may go to another thread
pub around-server-requires-send-D : goal.around-server-requires-send-D
around-server-requires-send-D c κs = search (door_sends, sendable) depth 40

pub serve-requires-send-D : goal.serve-requires-send-D
serve-requires-send-D c κs = search (door_sends, sendable) depth 40
