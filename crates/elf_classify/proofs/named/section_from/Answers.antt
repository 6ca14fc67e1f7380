use Rattle.std.proofs.Common.{sym, subst}
use Rattle.file_picture.specs.Passed.{HasPassed}
use Rattle.elf_classify.specs.Placed.{SeesNamed}
use Rattle.elf_classify.proofs.PlacedLemmas.{says_named}
use Rattle.elf_classify.proofs.named.section_from.Goals as goal

pub section_seen-requires : goal.section_seen-requires
section_seen-requires c = subst (λ v. HasPassed v c.args.from) (sym c.part.ensures.value) c.requires

pub returns : goal.returns
returns c =
    says_named c.args.picture.now c.args.name.now c.part.ensures.holds c.section_seen.result
    (subst (λ v. SeesNamed v c.args.name.now c.section_seen.result) c.part.ensures.value c.section_seen.ensures)
