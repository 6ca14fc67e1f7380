use Rattle.std.proofs.Common.{sym, subst}
use Rattle.file_picture.specs.Passed.{HasPassed}
use Rattle.elf_classify.specs.Views.{SeesStep}
use Rattle.elf_classify.proofs.SeenLemmas.{says_seen}
use Rattle.elf_classify.proofs.identity.ident_from.Goals as goal

pub identity-requires : goal.identity-requires
identity-requires c = subst (λ v. HasPassed v c.args.from) (sym c.part.ensures.value) c.requires

pub returns : goal.returns
returns c =
    says_seen c.args.picture.now c.part.ensures.holds c.identity.result
    (subst (λ v. SeesStep v c.identity.result) c.part.ensures.value c.identity.ensures)
