use Rattle.file_parts.proofs.FoundLemmas.{found_passes}
use Rattle.std.proofs.Common.{subst}
use Rattle.file_picture.specs.Passed.{HasPassed}
use Rattle.file_parts.proofs.found.step.Goals as goal

pub returns-in-Read-clause-passed : goal.returns-in-Read-clause-passed
returns-in-Read-clause-passed g c =
    found_passes c.args.opened.now.picture c.read_need.new.opened.picture c.read_need.result c.in-Read.need.next c.read_need.ensures.passed
    (subst (λ p. HasPassed p c.in-Read.need.next) c.picture.ensures.value c.in-Read.ensures.2)
