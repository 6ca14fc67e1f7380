use Rattle.std.proofs.Common.{length, sym, ap, ◌∙◌}
use Rattle.httparse.specs.Grammar.{HasNoResponse}
use Rattle.upstream_wire.specs.Heads.{HasNoReadHead}
use Rattle.upstream_wire.proofs.FailLemmas.{fails_lacking, fails_waiting}
use Rattle.upstream_wire.proofs.FeedLemmas.{quiet_response}
use Rattle.upstream_wire.proofs.HeadLemmas.{finds_head, no_head_ever, no_head_in}
use Rattle.upstream_wire.proofs.RoomLemmas.{takes_both}
use Rattle.upstream_wire.proofs.head.find_response.Goals as goal

pub loop-found-preserved : goal.loop-found-preserved
loop-found-preserved g c = takes_both c.loop-found.invariant c.in-Ok.ensures.takes

pub returns-in-Whole : goal.returns-in-Whole
returns-in-Whole g c =
    let has = rw c.held.ensures.value at c.in-Whole.ensures in
    finds_head c.in-Whole.found has.0 c.loop-found.invariant has.1 has.2

pub returns-in-Bad : goal.returns-in-Bad
returns-in-Bad g c =
    fails_lacking HasNoReadHead c.loop-found.invariant
    (no_head_ever c.loop-found.invariant (rw c.held.ensures.value at c.in-Bad.ensures))

pub returns-then-held-eq-HEAD_LIMIT : goal.returns-then-held-eq-HEAD_LIMIT
returns-then-held-eq-HEAD_LIMIT g c =
    fails_lacking HasNoReadHead c.loop-found.invariant
    (no_head_in c.loop-found.invariant (rw c.held.ensures.value at c.in-Partial.ensures)
    (ap length (sym c.held-in-loop-found.ensures.value) ∙ c.if-held-eq-HEAD_LIMIT.true))

pub returns-in-Err : goal.returns-in-Err
returns-in-Err g c =
    fails_waiting c.in-Err.fault HasNoResponse HasNoReadHead c.loop-found.invariant
    (rw c.held.ensures.value at c.in-Partial.ensures) quiet_response
    (λ all none h rest is reads. none h rest (is.valid, reads)) c.in-Err.ensures
