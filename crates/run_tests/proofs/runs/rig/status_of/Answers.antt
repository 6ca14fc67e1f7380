use denote.Param.Send.{sendable}
use Rattle.run_tests.proofs.DoorSends.{door_sends}
use Rattle.run_tests.proofs.runs.rig.status_of.Goals as goal

-- a door in memory may go to another thread
pub run-requires-send-D : goal.run-requires-send-D
run-requires-send-D c κs = search (door_sends, sendable) depth 40
