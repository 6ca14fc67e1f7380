-- One piece more, and the end.
use Rattle.std.proofs.Common.{◌≡◌, ◌<◌, ◌≤◌, ◌+◌, ◌-◌, ◌∙◌, List, ℕ, ap, sym, subst, refl, arith, length, min, take, drop}
use Rattle.std.proofs.lemmas.List.{length-append, length-drop, length-take-le}
use Rattle.row_types.specs.Name.{NameFacts}
use Rattle.tree_trait.specs.Opened.{HoldsPicture}
use Rattle.conn_server.specs.Pieces.{SendsFront, SendsPiece, StopsPiece}
use Rattle.conn_server.specs.declared.pieces.TheConstants.{PIECE}
use Rattle.conn_server.proofs.PiecesLemmas.{hand_of, sent_more, sent_none, front_whole, piece_size, stops_there}
use Rattle.conn_server.proofs.pieces.send_pieces.Goals as goal

-- the piece has the length that was asked
sized : (room : List ℕ) (n size at : ℕ) → n ≡ min PIECE (size - at) → min PIECE size ≤ length room → length (take n room) ≡ n
sized room n size at is fits = length-take-le n room (omega (arith, is, fits))

pub loop-at-init : goal.loop-at-init
loop-at-init g c = (
  omega arith,
  c.requires.size,
  refl,
  c.requires.room,
  sent_none (record { told = g.T.Tree.told; version = g.W.Truth.version; start = g.T.Tree.shows c.args.hand.now })
      (g.T.Tree.opened c.args.file.now) c.args.checked.now (g.N.Stream.shows c.args.conn.now),
)

pub send_piece-requires-clause-some : goal.send_piece-requires-clause-some
send_piece-requires-clause-some g c = λ κs within.
    let len = sized c.loop-at.room c.min-len.result c.args.size c.loop-at.at c.min-len.ensures c.loop-at.invariant.3 in
    omega (arith, len, piece_size, c.min-len.ensures, c.loop-at-test.true)

pub send_piece-requires-clause-inside : goal.send_piece-requires-clause-inside
send_piece-requires-clause-inside g c = λ κs within.
    let len = sized c.loop-at.room c.min-len.result c.args.size c.loop-at.at c.min-len.ensures c.loop-at.invariant.3 in
    let same = ap (λ (name : NameFacts). name.stamp.size) c.loop-at.invariant.2 in
    let stamp = c.requires.holds.sized in
    omega (arith, len, same, stamp, piece_size, c.requires.size, c.min-len.ensures, c.loop-at-test.true)

pub send_piece-requires-clause-sized : goal.send_piece-requires-clause-sized
send_piece-requires-clause-sized g c = λ κs within.
    c.requires.holds.sized ∙ ap (λ (name : NameFacts). name.stamp.size) (sym c.loop-at.invariant.2)

pub send_piece-requires-clause-holds : goal.send_piece-requires-clause-holds
send_piece-requires-clause-holds g c = λ κs within.
    subst (λ (name : NameFacts). HoldsPicture g.W.Truth.version name.path name.stamp c.args.checked.now)
    (sym c.loop-at.invariant.2) c.requires.holds

pub returns-in-Err : goal.returns-in-Err
returns-in-Err g c =
    let len = sized c.loop-at.room c.min-len.result c.args.size c.loop-at.at c.min-len.ensures c.loop-at.invariant.3 in
    let hand = hand_of g.T.Tree.told g.W.Truth.version (g.T.Tree.shows c.loop-at.hand) in
    let below : c.loop-at.at < c.args.checked.now.size = omega (arith, c.requires.size, c.loop-at-test.true) in
    let long : length (take c.min-len.result c.loop-at.room) ≡ min PIECE (c.args.checked.now.size - c.loop-at.at) =
    omega (arith, len, piece_size, c.requires.size, c.min-len.ensures) in
    stops_there c.loop-at.invariant.4 below c.requires.holds.seen.bytes (length (take c.min-len.result c.loop-at.room))
    c.in-Err.fault c.requires.holds.seen.known c.requires.holds.seen.agrees long
    (subst (λ (name : NameFacts). StopsPiece hand name c.args.checked.now c.loop-at.at
    (length (take c.min-len.result c.loop-at.room)) (g.N.Stream.shows c.loop-at.conn) (g.T.Tree.shows c.send_piece.new.hand)
    (g.N.Stream.shows c.send_piece.new.conn) c.in-Err.fault) c.loop-at.invariant.2 c.in-Err.ensures.sends)

pub loop-at-preserved : goal.loop-at-preserved
loop-at-preserved g c =
    let len = sized c.loop-at.room c.min-len.result c.args.size c.loop-at.at c.min-len.ensures c.loop-at.invariant.3 in
    let hand = hand_of g.T.Tree.told g.W.Truth.version (g.T.Tree.shows c.loop-at.hand) in
    let below : c.loop-at.at < c.args.checked.now.size = omega (arith, c.requires.size, c.loop-at-test.true) in
    let piece : length c.send_piece.new.piece ≡ c.min-len.result = c.in-Ok.ensures.length ∙ len in
    let long : length c.send_piece.new.piece ≡ min PIECE (c.args.checked.now.size - c.loop-at.at) =
    omega (arith, piece, piece_size, c.requires.size, c.min-len.ensures) in
    let sends = subst (λ (name : NameFacts). SendsPiece hand name c.args.checked.now c.loop-at.at c.send_piece.new.piece
    (g.N.Stream.shows c.loop-at.conn) (g.T.Tree.shows c.send_piece.new.hand) (g.N.Stream.shows c.send_piece.new.conn))
    c.loop-at.invariant.2 c.in-Ok.ensures.sends in
    let rest = length-drop c.min-len.result c.loop-at.room in
    let all = length-append c.send_piece.new.piece (drop c.min-len.result c.loop-at.room) in (
      omega (arith, piece_size, c.min-len.ensures, c.loop-at-test.true),
      c.requires.size,
      c.in-Ok.ensures.name ∙ c.loop-at.invariant.2,
      omega (arith, all, rest, piece, piece_size, c.loop-at.invariant.3, c.min-len.ensures),
      subst (λ (n : ℕ). SendsFront (record { told = g.T.Tree.told; version = g.W.Truth.version; start = g.T.Tree.shows c.args.hand.now })
          (g.T.Tree.opened c.args.file.now) c.args.checked.now (c.loop-at.at + n) (g.N.Stream.shows c.args.conn.now)
          (g.T.Tree.shows c.send_piece.new.hand) (g.N.Stream.shows c.send_piece.new.conn)) piece
          (sent_more c.loop-at.invariant.4 below c.send_piece.new.piece long sends),
    )

pub returns : goal.returns
returns g c =
    let end : c.loop-at.at ≡ c.args.checked.now.size =
    omega (arith, c.loop-at.invariant.0, c.requires.size, c.loop-at-test.false) in
    front_whole c.requires.holds.seen.bytes c.requires.holds.seen.known c.requires.holds.seen.agrees end c.loop-at.invariant.4
