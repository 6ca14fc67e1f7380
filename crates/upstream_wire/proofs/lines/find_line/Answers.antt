use Rattle.std.proofs.Common.{length, sym, ap, ◌∙◌}
use Rattle.httparse.specs.Grammar.{HasNoChunkLine}
use Rattle.upstream_wire.specs.Chunked.{HasNoSizeLine}
use Rattle.upstream_wire.proofs.FailLemmas.{fails_lacking, fails_waiting}
use Rattle.upstream_wire.proofs.FeedLemmas.{quiet_line}
use Rattle.upstream_wire.proofs.LineLemmas.{no_line_ever, no_line_in}
use Rattle.upstream_wire.proofs.RoomLemmas.{takes_both}
use Rattle.upstream_wire.proofs.lines.find_line.Goals as goal

pub loop-len-preserved : goal.loop-len-preserved
loop-len-preserved g c = takes_both c.loop-len.invariant c.in-Ok.ensures.takes

pub returns-in-Bad : goal.returns-in-Bad
returns-in-Bad g c =
    fails_lacking HasNoSizeLine c.loop-len.invariant
    (no_line_ever c.loop-len.invariant (rw c.held.ensures.value at c.in-Bad.ensures))

pub returns-then-held-eq-HEAD_LIMIT : goal.returns-then-held-eq-HEAD_LIMIT
returns-then-held-eq-HEAD_LIMIT g c =
    fails_lacking HasNoSizeLine c.loop-len.invariant
    (no_line_in c.loop-len.invariant (rw c.held.ensures.value at c.in-Partial.ensures)
    (ap length (sym c.held-in-loop-len.ensures.value) ∙ c.if-held-eq-HEAD_LIMIT.true))

pub returns-in-Err : goal.returns-in-Err
returns-in-Err g c =
    fails_waiting c.in-Err.fault HasNoChunkLine HasNoSizeLine c.loop-len.invariant
    (rw c.held.ensures.value at c.in-Partial.ensures) quiet_line
    (λ all none l rest is reads. none l rest (is.valid, reads)) c.in-Err.ensures
