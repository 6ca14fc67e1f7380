use Rattle.sqlite_keeper.proofs.disk_keeper.begin.Goals as goal

-- the keeper stands on the connection, made ready
pub returns-in-Ok : goal.returns-in-Ok
returns-in-Ok g c = record { number = c.in-Ok.ensures.ok.number; rises = c.in-Ok.ensures.ok.rises; faultless = c.new.ensures }
