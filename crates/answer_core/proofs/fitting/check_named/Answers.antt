-- The windows are among what the section rests on; and the section is that of each file that agrees with the picture.
use Rattle.std.proofs.Common.{inl, sym, subst}
use Rattle.file_formats.specs.Parts.{IsSomeSection}
use Rattle.file_parts.specs.Wholes.{IsThereWhole}
use Rattle.answer_check.specs.Checked.{CheckedFacts}
use Rattle.answer_core.proofs.FitLemmas.{fits_none, fits_section}
use Rattle.answer_core.proofs.fitting.check_named.Goals as goal

pub certified-requires : goal.certified-requires
certified-requires g c = λ b f r is. c.requires b f r (inl is)

pub returns-in_default : goal.returns-in_default
returns-in_default g c = λ b f passes. c.in_default.ensures.none b f passes.0

pub section_in-requires : goal.section_in-requires
section_in-requires g c =
    subst (λ (x : CheckedFacts). IsThereWhole (IsSomeSection c.args.name.now) x.picture) (sym c.in-Some.ensures.some.is) c.requires

pub returns-in-Found : goal.returns-in-Found
returns-in-Found g c =
    fits_section c.args.kind c.args.id.now c.args.name.now c.args.opened c.in-Some.from _ c.in-Found.section
    c.in-Some.ensures.some c.in-Found.ensures

pub returns-in-Missing : goal.returns-in-Missing
returns-in-Missing g c =
    fits_none c.args.kind c.args.id.now c.args.name.now c.args.opened c.in-Some.from _ c.in-Some.ensures.some
    c.in-Missing.ensures
