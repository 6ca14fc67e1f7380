-- The section is looked for in a file of the candidate's class.
use Rattle.answer_core.proofs.fitting.check_section.Goals as goal

pub returns-in-Some : goal.returns-in-Some
returns-in-Some g c = rw c.in-Some.is c.check_named.ensures

pub returns-in-None : goal.returns-in-None
returns-in-None g c = rw c.in-None.is (λ b f never. never)
