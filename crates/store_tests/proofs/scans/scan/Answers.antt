use denote.Param.Send.{sendable}
use Rattle.store_tests.proofs.DoorSends.{door_sends}
use Rattle.store_tests.proofs.scans.scan.Goals as goal

-- a door in memory may go to another thread
pub run-requires-send-D : goal.run-requires-send-D
run-requires-send-D c κs = search (door_sends, sendable) depth 40
