-- So many bytes of the file were sent, and it is open under its name still; there is room for each piece of it.
use Rattle.std.proofs.Common.{◌≡◌, ◌≤◌, ◌-◌, length, min}
use Rattle.conn_server.specs.Pieces.{SendsFront}
use Rattle.conn_server.specs.declared.pieces.TheConstants.{PIECE}
use Rattle.conn_server.proofs.pieces.send_pieces.Given as goal

abbrev pub invariant-loop-at : goal.invariant-loop-at
invariant-loop-at g l =
    (l.at ≤ l.size) × (l.size ≡ l.checked.size) × (g.T.Tree.opened l.file ≡ g.T.Tree.opened l.fn.file)
    × (min PIECE l.size ≤ length l.room)
    × SendsFront (record { told = g.T.Tree.told; version = g.W.Truth.version; start = g.T.Tree.shows l.fn.hand })
    (g.T.Tree.opened l.fn.file) l.checked l.at (g.N.Stream.shows l.fn.conn) (g.T.Tree.shows l.hand) (g.N.Stream.shows l.conn)

abbrev pub decreases-loop-at : goal.decreases-loop-at
decreases-loop-at g l = l.size - l.at
