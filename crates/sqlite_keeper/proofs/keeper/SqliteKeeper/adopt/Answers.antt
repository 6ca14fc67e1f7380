use Rattle.std.proofs.Common.{refl}
use Rattle.sqlite_keeper.proofs.keeper.SqliteKeeper.adopt.Goals as goal

-- the keeper stands on the connection, made ready
pub returns-in-Ok : goal.returns-in-Ok
returns-in-Ok g c = rw c.new.ensures (record { number = c.in-Ok.ensures.ok.number; rises = c.in-Ok.ensures.ok.rises; faultless = refl })

-- and comes back otherwise
pub returns-in-Err-Failed : goal.returns-in-Err-Failed
returns-in-Err-Failed g c = c.in-Err-Failed.ensures.err.back
