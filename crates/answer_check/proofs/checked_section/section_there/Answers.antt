-- All of it is there, so none is needed, and it isn't missing.
use Rattle.std.proofs.Common.{subst, List, ℕ, Option}
use Rattle.std.specs.Borrow.{Bor}
use Rattle.std.specs.Option.{option_copied}
use Rattle.file_formats.specs.Parts.{IsSomeSection}
use Rattle.file_formats.specs.Table.{IsSectionAnswer}
use Rattle.file_picture.specs.Agrees.{IsOfEach}
use Rattle.answer_check.proofs.ViewLemmas.{never_absent, never_needed}
use Rattle.answer_check.proofs.checked_section.section_there.Goals as goal

pub returns : goal.returns
returns c =
    subst
    (λ (found : Option (Bor (List ℕ))). IsOfEach (IsSomeSection c.args.name.now)
    (λ b. IsSectionAnswer b c.args.name.now (option_copied found)) c.args.picture.now)
    c.in-Some.is c.in-Section.ensures

pub unreachable-requires : goal.unreachable-requires
unreachable-requires c =
    never_absent c.args.picture.now c.args.name.now c.requires.0 c.size-size.ensures.holds c.requires.1
    (subst
    (λ (found : Option (Bor (List ℕ))). IsOfEach (IsSomeSection c.args.name.now)
    (λ b. IsSectionAnswer b c.args.name.now (option_copied found)) c.args.picture.now)
    c.in-None.is c.in-Section.ensures)

pub unreachable-requires-in-Need : goal.unreachable-requires-in-Need
unreachable-requires-in-Need c =
    never_needed c.args.picture.now c.args.name.now c.requires.0 _ _ c.size-size.ensures.holds c.requires.1 c.in-Need.ensures
