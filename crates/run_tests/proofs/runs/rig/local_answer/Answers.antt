use denote.Param.Send.{sendable}
use Rattle.run_tests.proofs.DoorSends.{door_sends}
use Rattle.run_tests.proofs.runs.rig.local_answer.Goals as goal

-- a door in memory may go to another thread
pub run_local-requires-send-D : goal.run_local-requires-send-D
run_local-requires-send-D c κs = search (door_sends, sendable) depth 40
