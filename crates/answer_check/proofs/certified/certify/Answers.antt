use Rattle.answer_check.proofs.RefusalLemmas.{refused-not_certified, refusal-unique}
use Rattle.answer_check.proofs.certified.certify.Goals as goal

pub returns-in-Some-clause-certified : goal.returns-in-Some-clause-certified
returns-in-Some-clause-certified c =
    let refused = rw c.deref.ensures.value at c.in-Some.ensures.fault in
    (λ e. absurd (cc), λ is. absurd (refused-not_certified c.in-Some.fault refused is))

pub returns-in-Some-clause-only : goal.returns-in-Some-clause-only
returns-in-Some-clause-only c =
    let refused = rw c.deref.ensures.value at c.in-Some.ensures.fault in
    λ fault h. refusal-unique _ _ _ c.in-Some.fault fault refused h

pub returns-in-None-clause-only : goal.returns-in-None-clause-only
returns-in-None-clause-only c =
    let certified = rw c.deref.ensures.value at c.in-None.ensures.none in
    λ fault h. absurd (refused-not_certified fault h certified)
