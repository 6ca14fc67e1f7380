use denote.Param.Send.{sendable}
use Rattle.sqlite_keeper.proofs.FileKeeperSends.{file_keeper_sends}
use Rattle.store_tests.proofs.stores.file.a_file_keeps_its_rows.Goals as goal

-- the keeper of a file may go to another thread
pub write_and_read-requires-send-S-K : goal.write_and_read-requires-send-S-K
write_and_read-requires-send-S-K c κs = search (file_keeper_sends, sendable)
