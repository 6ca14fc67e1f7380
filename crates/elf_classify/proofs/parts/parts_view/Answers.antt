use Rattle.std.proofs.Common.{subst}
use Rattle.elf_classify.specs.DebugViews.{SeesDebug}
use Rattle.elf_classify.proofs.DebugLemmas.{says_debug}
use Rattle.elf_classify.proofs.parts.parts_view.Goals as goal

pub returns : goal.returns
returns c =
    says_debug c.args.picture.now c.part.ensures.holds c.requires c.debug_seen.result
    (subst (λ v. SeesDebug v c.debug_seen.result) c.part.ensures.value c.debug_seen.ensures)
