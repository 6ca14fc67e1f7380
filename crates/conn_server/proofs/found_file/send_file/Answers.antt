-- The head was written, and what came of the file behind it; or not.
use Rattle.std.proofs.Common.{◌∙◌, ℕ, Some, ap, subst, arith}
use Rattle.http_wire.specs.Reply.{head_bytes}
use Rattle.http_wire.specs.ReplyFault.{FailsReply}
use Rattle.http_wire.specs.Sink.{GetsAll}
use Rattle.conn_server.specs.Replies.{reply_head}
use Rattle.conn_server.proofs.PiecesLemmas.{hand_of}
use Rattle.conn_server.proofs.SentLemmas.{file_sent, file_unsent}
use Rattle.conn_server.proofs.found_file.send_file.Goals as goal

pub send_behind-requires-clause-room : goal.send_behind-requires-clause-room
send_behind-requires-clause-room g c = λ κs within. λ sends.
    let sized = c.size-len.ensures.value ∙ ap (λ p. p.size) c.picture.ensures.value in
    let long = c.as_mut_slice.ensures.len in
    let there = c.in-Ok.ensures.room sends in
    omega (arith, there, long, sized)

pub returns-in-Ok : goal.returns-in-Ok
returns-in-Ok g c = λ n.
    let hand = hand_of g.T.Tree.told g.W.Truth.version (g.T.Tree.shows c.args.hand.now) in
    let sized = c.size-len.ensures.value ∙ ap (λ p. p.size) c.picture.ensures.value in
    let before = g.N.Stream.shows c.args.conn.now in
    let mid = g.N.Stream.shows c.write_front.new.conn in
    let head = subst (λ (len : ℕ). GetsAll (head_bytes (reply_head c.args.why len (Some c.args.found.path) c.args.form.close)) before mid)
    sized c.in-Ok.ensures.head in
    file_sent hand c.args.why c.args.found.from (g.T.Tree.opened c.args.found.file) c.args.found.path n c.args.form.close before mid
    (g.N.Stream.shows c.send_behind.new.conn) (g.T.Tree.shows c.send_behind.new.hand) head c.args.form.with_body
    c.requires.holds.seen.bytes c.send_behind.result c.requires.holds.seen.known c.requires.holds.seen.agrees c.send_behind.ensures

pub returns-in-Err : goal.returns-in-Err
returns-in-Err g c = λ n.
    let hand = hand_of g.T.Tree.told g.W.Truth.version (g.T.Tree.shows c.args.hand.now) in
    let sized = c.size-len.ensures.value ∙ ap (λ p. p.size) c.picture.ensures.value in
    let before = g.N.Stream.shows c.args.conn.now in
    let after = g.N.Stream.shows c.write_front.new.conn in
    let fails = subst (λ (len : ℕ). FailsReply c.in-Err.fault
    (head_bytes (reply_head c.args.why len (Some c.args.found.path) c.args.form.close)) before after) sized c.in-Err.ensures.head in
    file_unsent hand c.args.why c.args.found.from (g.T.Tree.opened c.args.found.file) c.args.found.path n c.args.form.close
    c.args.form.with_body c.requires.holds.seen.bytes before after c.in-Err.fault c.requires.holds.seen.known c.requires.holds.seen.agrees fails
