-- The section is that of each file that agrees with the picture, or no such file has one.
use Rattle.std.proofs.Common.{ℕ, List, sym, subst}
use Rattle.file_formats.specs.Parts.{IsSomeSection}
use Rattle.file_parts.specs.Wholes.{IsThereWhole}
use Rattle.file_picture.specs.Picture.{PictureFacts}
use Rattle.answer_core.proofs.FitLemmas.{none_found}
use Rattle.answer_core.proofs.fitting.has_section.Goals as goal

pub section_known-requires : goal.section_known-requires
section_known-requires c =
    subst (λ (n : List ℕ). IsThereWhole (IsSomeSection n) c.picture.result.now) (sym c.bytes.ensures)
    (subst (λ (p : PictureFacts). IsThereWhole (IsSomeSection c.args.name.now) p) (sym c.picture.ensures.value) c.requires)

pub returns-in-Some-clause-yes : goal.returns-in-Some-clause-yes
returns-in-Some-clause-yes c = (c.in-Some.field-0.now, rw (c.bytes.ensures, c.picture.ensures.value) at c.in-Some.ensures)

pub returns-in-None-clause-no : goal.returns-in-None-clause-no
returns-in-None-clause-no c =
    none_found c.args.from.now.picture c.args.name.now (rw (c.bytes.ensures, c.picture.ensures.value) at c.in-None.ensures)
