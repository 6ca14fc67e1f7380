use Rattle.sqlite_keeper.proofs.file_keeper.FileKeeper.open.Goals as goal

-- the keeper stands on a connection that had run nothing
pub returns-in-Ok : goal.returns-in-Ok
returns-in-Ok c = record { opened = c.in_ok-connection.connection; fresh = c.in_ok-connection.ensures.fresh; begun = c.in-Ok.ensures }
