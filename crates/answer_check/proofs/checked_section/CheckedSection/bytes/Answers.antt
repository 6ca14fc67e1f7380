-- The section is that of each file that agrees with the picture, and a file has one of a name.
use Rattle.std.proofs.Common.{sym, ◌∙◌, ap}
use Rattle.std.proofs.lemmas.Option.{same_Some}
use Rattle.file_formats.proofs.IdentityLemmas.{section-unique}
use Rattle.answer_check.specs.CheckedSection.{CheckedSectionFacts}
use Rattle.answer_check.proofs.ViewLemmas.{same_part}
use Rattle.answer_check.proofs.checked_section.CheckedSection.bytes.Goals as goal

pub section_there-requires : goal.section_there-requires
section_there-requires c =
    let has = c.self.invariant in (
      has.0,
      same_part c.self.inside.file.picture c.picture.result.now c.self.inside.name c.bytes.result.now has.0
          (sym c.picture.ensures.value) (sym c.bytes.ensures) has.1,
    )

pub returns-clause-section : goal.returns-clause-section
returns-clause-section c =
    let seen =
    same_part c.picture.result.now c.args.self.now.file.picture c.bytes.result.now c.args.self.now.name c.section_there.result.now
    (c.picture.ensures.value ∙ ap (λ (s : CheckedSectionFacts). s.file.picture) c.self.view_is)
    (c.bytes.ensures ∙ ap (λ (s : CheckedSectionFacts). s.name) c.self.view_is) c.section_there.ensures in
    λ b agrees. seen.is b agrees

pub returns-clause-only : goal.returns-clause-only
returns-clause-only c =
    let seen =
    same_part c.picture.result.now c.args.self.now.file.picture c.bytes.result.now c.args.self.now.name c.section_there.result.now
    (c.picture.ensures.value ∙ ap (λ (s : CheckedSectionFacts). s.file.picture) c.self.view_is)
    (c.bytes.ensures ∙ ap (λ (s : CheckedSectionFacts). s.name) c.self.view_is) c.section_there.ensures in
    λ b bytes agrees is. same_Some bytes c.section_there.result.now (section-unique is (seen.is b agrees))
