-- What is decided without the index, by a page, or by the route.
use Rattle.std.proofs.Common.{refl, sym, ◌∙◌}
use Rattle.conn_server.specs.Asked.{told_facts}
use Rattle.conn_server.specs.Bodies.{decided_facts}
use Rattle.conn_server.specs.Cases.{has_body, method, page}
use Rattle.conn_server.specs.Pages.{IsPageReply, page_sight}
use Rattle.conn_server.proofs.CountLemmas.{notes_none}
use Rattle.conn_server.proofs.DecideLemmas.{decides_alone}
use Rattle.conn_server.proofs.PageLemmas.{page_is_plain}
use Rattle.conn_server.proofs.decide.decide.Goals as goal

pub returns-then-not-is_served-clause-decided : goal.returns-then-not-is_served-clause-decided
returns-then-not-is_served-clause-decided g c =
    decides_alone _ (c.plain.ensures g.T.Tree.opened) refl refl (notes_none _) (λ f. f)
    (method (told_facts c.args.head.now) refl (sym c.is_served.ensures ∙ c.if-not-is_served.true))

pub returns-then-head-clause-decided : goal.returns-then-head-clause-decided
returns-then-head-clause-decided g c =
    decides_alone _ (c.plain-then-head.ensures g.T.Tree.opened) refl refl (notes_none _) (λ f. f)
    (has_body (told_facts c.args.head.now) refl (sym c.is_served.ensures ∙ c.if-not-is_served.false) c.if-head.true)

pub returns-in-Some-clause-decided : goal.returns-in-Some-clause-decided
returns-in-Some-clause-decided g c =
    let found = rw c.in-Some.is at c.decide_page-desk.ensures.page in
    let sight = page_sight g.W.Truth.true_row c.args.desk.seat.origin.epoch c.decide_page-desk.result.0.seat.seen in
    let said = decided_facts g.T.Tree.opened c.in-Some.decided in
    let reply : IsPageReply sight c.args.head.now.target.now said = found g.T.Tree.opened in
    decides_alone said refl refl refl (notes_none _) (page_is_plain sight c.args.head.now.target.now said reply).no_load
    (page (told_facts c.args.head.now) said refl
    (record { method = sym c.is_served.ensures ∙ c.if-not-is_served.false; no_body = c.if-head.false }) reply)
