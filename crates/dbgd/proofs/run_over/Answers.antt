use denote.Param.Send.{sendable}
use Rattle.sqlite_keeper.proofs.FileKeeperSends.{file_keeper_sends}
use Rattle.dbgd.proofs.run_over.Goals as goal

-- the keeper of a file may go to another thread
pub run-requires-send-S-K : goal.run-requires-send-S-K
run-requires-send-S-K c κs = search (file_keeper_sends, sendable)
