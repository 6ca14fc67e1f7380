-- What is held is written, and a file is read in the meantime.
use Rattle.std.proofs.Common.{None, Some, refl, sym, subst}
use Rattle.answer_core.specs.Local.{section_found, source_found}
use Rattle.conn_server.specs.Bodies.{body_facts, page_text, found_here, found_upstream, own_line}
use Rattle.conn_server.specs.Sent.{CanCarry, Sends}
use Rattle.conn_server.proofs.PiecesLemmas.{hand_of}
use Rattle.conn_server.proofs.SentLemmas.{sends_held}
use Rattle.conn_server.proofs.send.send_body.Goals as goal

pub returns-in-Line : goal.returns-in-Line
returns-in-Line g c = λ n.
    let hand = hand_of g.T.Tree.told g.W.Truth.version (g.T.Tree.shows c.args.hand.now) in
    let before = g.N.Stream.shows c.args.conn.now in
    let after = g.N.Stream.shows c.send_bytes.new.conn in
    subst (λ body. Sends hand c.args.why (body_facts g.T.Tree.opened n body) c.args.form.close c.args.form.with_body before
    (g.T.Tree.shows c.args.hand.now) after c.send_bytes.result) (sym c.in-Line.is)
    (sends_held hand c.args.why own_line c.row.result.line.now None c.args.form.close c.args.form.with_body before after
    (c.row.ensures.line, refl) tt refl c.send_bytes.result c.send_bytes.ensures)

pub send_file-requires-clause-holds : goal.send_file-requires-clause-holds
send_file-requires-clause-holds g c = λ κs within.
    subst (λ body. CanCarry g.W.Truth.version (body_facts g.T.Tree.opened 0 body)) c.in-File.is (c.requires.carry 0)

pub returns-in-File : goal.returns-in-File
returns-in-File g c = λ n.
    subst (λ body. Sends (record { told = g.T.Tree.told; version = g.W.Truth.version; start = g.T.Tree.shows c.args.hand.now })
    c.args.why (body_facts g.T.Tree.opened n body) c.args.form.close c.args.form.with_body (g.N.Stream.shows c.args.conn.now)
    (g.T.Tree.shows c.send_file.new.hand) (g.N.Stream.shows c.send_file.new.conn) c.send_file.result) (sym c.in-File.is)
    (c.send_file.ensures n)

pub returns-in-Section : goal.returns-in-Section
returns-in-Section g c = λ n.
    let hand = hand_of g.T.Tree.told g.W.Truth.version (g.T.Tree.shows c.args.hand.now) in
    let before = g.N.Stream.shows c.args.conn.now in
    let after = g.N.Stream.shows c.send_bytes-in-Section.new.conn in
    subst (λ body. Sends hand c.args.why (body_facts g.T.Tree.opened n body) c.args.form.close c.args.form.with_body before
    (g.T.Tree.shows c.args.hand.now) after c.send_bytes-in-Section.result) (sym c.in-Section.is)
    (sends_held hand c.args.why (found_here (section_found c.in-Section.from c.in-Section.path n)) c.bytes-part.result.now
    (Some c.in-Section.path) c.args.form.close c.args.form.with_body before after (c.bytes-part.ensures.section, refl) tt refl
    c.send_bytes-in-Section.result c.send_bytes-in-Section.ensures)

pub returns-in-Source : goal.returns-in-Source
returns-in-Source g c = λ n.
    let hand = hand_of g.T.Tree.told g.W.Truth.version (g.T.Tree.shows c.args.hand.now) in
    let before = g.N.Stream.shows c.args.conn.now in
    let after = g.N.Stream.shows c.send_bytes-in-Source.new.conn in
    subst (λ body. Sends hand c.args.why (body_facts g.T.Tree.opened n body) c.args.form.close c.args.form.with_body before
    (g.T.Tree.shows c.args.hand.now) after c.send_bytes-in-Source.result) (sym c.in-Source.is)
    (sends_held hand c.args.why (found_here (source_found c.in-Source.bytes.items c.in-Source.path n)) c.as_slice.result.now
    (Some c.in-Source.path) c.args.form.close c.args.form.with_body before after (c.as_slice.ensures.value, refl) tt refl
    c.send_bytes-in-Source.result c.send_bytes-in-Source.ensures)

pub returns-in-Upstream : goal.returns-in-Upstream
returns-in-Upstream g c = λ n.
    let hand = hand_of g.T.Tree.told g.W.Truth.version (g.T.Tree.shows c.args.hand.now) in
    let before = g.N.Stream.shows c.args.conn.now in
    let after = g.N.Stream.shows c.send_bytes-in-Upstream.new.conn in
    subst (λ body. Sends hand c.args.why (body_facts g.T.Tree.opened n body) c.args.form.close c.args.form.with_body before
    (g.T.Tree.shows c.args.hand.now) after c.send_bytes-in-Upstream.result) (sym c.in-Upstream.is)
    (sends_held hand c.args.why (found_upstream c.in-Upstream.passed) c.given.result.now None c.args.form.close
    c.args.form.with_body before after (c.given.ensures, refl) tt refl c.send_bytes-in-Upstream.result
    c.send_bytes-in-Upstream.ensures)

pub returns-in-Page : goal.returns-in-Page
returns-in-Page g c = λ n.
    let hand = hand_of g.T.Tree.told g.W.Truth.version (g.T.Tree.shows c.args.hand.now) in
    let before = g.N.Stream.shows c.args.conn.now in
    let after = g.N.Stream.shows c.send_bytes-in-Page.new.conn in
    subst (λ body. Sends hand c.args.why (body_facts g.T.Tree.opened n body) c.args.form.close c.args.form.with_body before
    (g.T.Tree.shows c.args.hand.now) after c.send_bytes-in-Page.result) (sym c.in-Page.is)
    (sends_held hand c.args.why (page_text c.in-Page.text) c.as_bytes.result.now None c.args.form.close
    c.args.form.with_body before after (c.as_bytes.ensures.value, refl) tt refl c.send_bytes-in-Page.result
    c.send_bytes-in-Page.ensures)
