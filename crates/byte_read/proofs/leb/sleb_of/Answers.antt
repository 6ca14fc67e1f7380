use Rattle.std.proofs.Common.{ap, refl, Some, ◌+◌}
use Rattle.byte_read.proofs.LebLemmas.{signed_by}
use Rattle.byte_read.proofs.leb.sleb_of.Goals as goal

pub returns-clause-value : goal.returns-clause-value
returns-clause-value c =
    let last = c.in_ok-last.last in
    rw (← c.in_ok-last.ensures.value, signed_by _ _ last c.in_ok-last.ensures.within refl)
    (ap (λ n. Some (record { number = n; size = last + 1 }))
    (c.with_sign.ensures _ c.sum_of.ensures))
