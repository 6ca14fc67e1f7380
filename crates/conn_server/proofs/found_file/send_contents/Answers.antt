-- What was checked of the file is its picture.
use Rattle.std.proofs.Common.{◌∙◌, ap, sym, subst, arith}
use Rattle.tree_trait.specs.Opened.{HoldsPicture}
use Rattle.conn_server.specs.Pieces.{SendsFile, StopsFile}
use Rattle.conn_server.proofs.found_file.send_contents.Goals as goal

pub send_pieces-requires-clause-room : goal.send_pieces-requires-clause-room
send_pieces-requires-clause-room g c = λ κs within.
    let sized = c.size-len.ensures.value ∙ ap (λ p. p.size) c.picture-checked.ensures.value in
    let there = c.requires.room in
    omega (arith, there, sized)

pub send_pieces-requires-clause-holds : goal.send_pieces-requires-clause-holds
send_pieces-requires-clause-holds g c = λ κs within.
    let name = g.T.Tree.opened c.args.found.file in
    subst (λ p. HoldsPicture g.W.Truth.version name.path name.stamp p) (sym c.picture-checked.ensures.value) c.requires.holds

pub returns-in-Ok : goal.returns-in-Ok
returns-in-Ok g c = (
  subst (λ p. SendsFile (record { told = g.T.Tree.told; version = g.W.Truth.version; start = g.T.Tree.shows c.args.hand.now })
      (g.T.Tree.opened c.args.found.file) p (g.N.Stream.shows c.args.conn.now) (g.T.Tree.shows c.send_pieces.new.hand)
      (g.N.Stream.shows c.send_pieces.new.conn)) c.picture-checked.ensures.value c.in-Ok.ensures,
  c.size-len.ensures.value ∙ ap (λ p. p.size) c.picture-checked.ensures.value,
)

pub returns : goal.returns
returns g c =
    subst (λ p. StopsFile (record { told = g.T.Tree.told; version = g.W.Truth.version; start = g.T.Tree.shows c.args.hand.now })
    (g.T.Tree.opened c.args.found.file) p (g.N.Stream.shows c.args.conn.now) (g.T.Tree.shows c.send_pieces.new.hand)
    (g.N.Stream.shows c.send_pieces.new.conn) c.in-Err.fault) c.picture-checked.ensures.value c.in-Err.ensures
