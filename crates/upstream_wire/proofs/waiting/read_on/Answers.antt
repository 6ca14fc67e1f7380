use Rattle.std.proofs.Common.{length, sym, ◌∙◌}
use Rattle.upstream_wire.proofs.WaitLemmas.{has_place, waits_more, waits_on, waits_to_end, waits_to_fault}
use Rattle.upstream_wire.proofs.waiting.read_on.Goals as goal

pub returns-in-End : goal.returns-in-End
returns-in-End g c = waits_to_end c.loop-n.invariant c.in-End.ensures

pub returns-in-Failed : goal.returns-in-Failed
returns-in-Failed g c = waits_to_fault c.loop-n.invariant c.in-Failed.ensures

pub returns-then-ends_line : goal.returns-then-ends_line
returns-then-ends_line g c = waits_on c.in-Bytes.n c.loop-n.invariant c.in-Bytes.ensures

pub returns-then-held-eq-HEAD_LIMIT : goal.returns-then-held-eq-HEAD_LIMIT
returns-then-held-eq-HEAD_LIMIT g c = waits_on c.in-Bytes.n c.loop-n.invariant c.in-Bytes.ensures

pub loop-n-preserved : goal.loop-n-preserved
loop-n-preserved g c =
    let apart = rw c.held.ensures.value at c.if-held-eq-HEAD_LIMIT.false in
    waits_more c.in-Bytes.n c.loop-n.invariant c.in-Bytes.ensures (sym c.ends_line.ensures ∙ c.if-ends_line.false)
    (has_place (length c.fill.new.self) c.held.ensures.short apart)
