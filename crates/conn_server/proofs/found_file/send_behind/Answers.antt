-- The file is sent where the body is written.
use Rattle.std.proofs.Common.{Bool, Ok, refl, sym, subst}
use Rattle.answer_core.proofs.HearLemmas.{hears_none}
use Rattle.conn_server.specs.Sent.{SendsBehind}
use Rattle.conn_server.proofs.found_file.send_behind.Goals as goal

pub send_contents-requires-clause-room : goal.send_contents-requires-clause-room
send_contents-requires-clause-room g c = λ κs within. c.requires.room c.if-with_body.true

pub returns-then-with_body : goal.returns-then-with_body
returns-then-with_body g c =
    subst (λ (with_body : Bool). SendsBehind
    (record { told = g.T.Tree.told; version = g.W.Truth.version; start = g.T.Tree.shows c.args.hand.now })
    (g.T.Tree.opened c.args.found.file) c.args.found.from.picture with_body (g.N.Stream.shows c.args.conn.now)
    (g.T.Tree.shows c.send_contents.new.hand) (g.N.Stream.shows c.send_contents.new.conn) c.send_contents.result)
    (sym c.if-with_body.true) c.send_contents.ensures

pub returns-else-with_body : goal.returns-else-with_body
returns-else-with_body g c =
    subst (λ (with_body : Bool). SendsBehind
    (record { told = g.T.Tree.told; version = g.W.Truth.version; start = g.T.Tree.shows c.args.hand.now })
    (g.T.Tree.opened c.args.found.file) c.args.found.from.picture with_body (g.N.Stream.shows c.args.conn.now)
    (g.T.Tree.shows c.args.hand.now) (g.N.Stream.shows c.args.conn.now) (Ok 0))
    (sym c.if-with_body.false) (record { none = refl; hears = hears_none _; same = refl })
