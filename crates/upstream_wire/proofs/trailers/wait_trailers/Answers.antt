use Rattle.std.proofs.Common.{length, sym, ap, ◌∙◌}
use Rattle.httparse.specs.Grammar.{HasNoSection}
use Rattle.upstream_wire.specs.Chunked.{HasNoTrailers}
use Rattle.upstream_wire.proofs.FailLemmas.{fails_lacking, fails_waiting}
use Rattle.upstream_wire.proofs.FeedLemmas.{quiet_section}
use Rattle.upstream_wire.proofs.RoomLemmas.{takes_both}
use Rattle.upstream_wire.proofs.TrailerLemmas.{no_trailers_ever, no_trailers_in}
use Rattle.upstream_wire.proofs.trailers.wait_trailers.Goals as goal

pub loop-len-preserved : goal.loop-len-preserved
loop-len-preserved g c = takes_both c.loop-len.invariant c.in-Ok.ensures.takes

pub returns-in-Bad : goal.returns-in-Bad
returns-in-Bad g c =
    fails_lacking HasNoTrailers c.loop-len.invariant
    (no_trailers_ever c.loop-len.invariant (rw c.held.ensures.value at c.in-Bad.ensures.look))

pub returns-then-held-eq-HEAD_LIMIT : goal.returns-then-held-eq-HEAD_LIMIT
returns-then-held-eq-HEAD_LIMIT g c =
    fails_lacking HasNoTrailers c.loop-len.invariant
    (no_trailers_in c.loop-len.invariant (rw c.held.ensures.value at c.in-Partial.ensures.look)
    (ap length (sym c.held-in-loop-len.ensures.value) ∙ c.if-held-eq-HEAD_LIMIT.true))

pub returns-in-Err : goal.returns-in-Err
returns-in-Err g c =
    fails_waiting c.in-Err.fault HasNoSection HasNoTrailers c.loop-len.invariant
    (rw c.held.ensures.value at c.in-Partial.ensures.look) quiet_section
    (λ all none fields end rest is reads. none fields end rest (is.valid, reads)) c.in-Err.ensures
