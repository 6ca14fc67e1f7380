-- The keeper of a file may go to another thread: all that it has may.
use denote.Param.Send.{IsSend, owning_send, sendable}
use Rattle.std.proofs.fs.File.TheSendSync as file
use Rattle.sqlite_std_file.specs.contracts.record.Record as calls
use Rattle.sqlite_std_file.specs.contracts.host.Host as host
use Rattle.sqlite_disk.proofs.modelled.Modelled.TheSendSync as modelled
use Rattle.sqlite_store.proofs.store.FileStore.TheSendSync as store
use Rattle.sqlite.proofs.connection.Connection.TheSendSync as connection
use Rattle.sqlite_keeper.proofs.keeper.SqliteKeeper.TheSendSync as keeper
use Rattle.sqlite_keeper.specs.contracts.file_keeper.FileKeeper as file_keeper

-- a list of calls owns nothing
calls_send : IsSend calls.the_row
calls_send = owning_send calls.the_type (search sendable, tt) (λ d. tt) (λ k x w. tt)

host_sends : IsSend host.the_row
host_sends = search (calls_send, file.the_send, sendable) depth 20

pub file_keeper_sends : IsSend file_keeper.the_row
file_keeper_sends = search (host_sends, modelled.the_send, store.the_send, connection.the_send, keeper.the_send, sendable) depth 40
