-- The first byte that isn't the one that was checked is told.
use Rattle.std.proofs.Common.{refl}
use Rattle.conn_server.proofs.PiecesLemmas.{first_change}
use Rattle.conn_server.proofs.pieces.send_read.Goals as goal

pub returns-in-Some : goal.returns-in-Some
returns-in-Some g c = (first_change c.in-Some.ensures.some, refl)
