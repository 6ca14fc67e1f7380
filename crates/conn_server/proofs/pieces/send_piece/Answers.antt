-- What was read is written where it is as it was checked.
use Rattle.std.proofs.Common.{◌≡◌, ◌+◌, ◌<◌, ◌≤◌, ◌∙◌, List, ℕ, true, sym, ap, refl, arith, length}
use Rattle.file_formats.specs.Numbers.{bytes_at}
use Rattle.conn_server.proofs.PiecesLemmas.{content_read, no_other_content, piece_came, piece_failed}
use Rattle.conn_server.proofs.pieces.send_piece.Goals as goal

pub send_read-requires : goal.send_read-requires
send_read-requires g c = omega (arith, c.in-Filled.ensures.len, c.requires.inside, c.requires.sized)

pub returns-in-Filled-clause-sends : goal.returns-in-Filled-clause-sends
returns-in-Filled-clause-sends g c =
    let name = g.T.Tree.opened c.args.file.now in
    let long = c.in-Filled.ensures.len in
    let fits : c.args.at + length c.read_at.new.room ≤ c.args.checked.now.size =
    omega (arith, long, c.requires.inside, c.requires.sized) in
    let some : 0 < length c.read_at.new.room = omega (arith, long, c.requires.some) in
    let reads : g.W.Truth.told ≡ true → (b : List ℕ) → g.W.Truth.version name.path name.stamp b
    → c.read_at.new.room ≡ bytes_at b c.args.at (length c.read_at.new.room) =
    λ told b known. c.in-Filled.ensures.bytes refl told b known ∙ ap (λ (n : ℕ). bytes_at b c.args.at n) (sym long) in
    piece_came name c.args.at c.args.checked.now c.read_at.new.room (length c.args.piece.now) (g.N.Stream.shows c.args.conn.now)
    (g.N.Stream.shows c.send_read.new.conn) c.send_read.result long c.in-Filled.ensures.asks
    (λ d change one. no_other_content g.W.Truth.told g.W.Truth.any_content name c.args.checked.now c.args.at c.read_at.new.room d
    c.requires.holds fits reads change one)
    (content_read g.W.Truth.told g.W.Truth.any_content name c.args.checked.now c.args.at c.read_at.new.room c.requires.holds
    fits some reads)
    c.send_read.ensures

pub returns-in-Failed-clause-sends : goal.returns-in-Failed-clause-sends
returns-in-Failed-clause-sends g c =
    piece_failed (g.T.Tree.opened c.args.file.now) c.args.at c.args.checked.now (length c.read_at.new.room)
    (length c.args.piece.now) (g.N.Stream.shows c.args.conn.now) c.in-Failed.ensures.len c.in-Failed.ensures.asks
