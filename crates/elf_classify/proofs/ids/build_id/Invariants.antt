use Rattle.elf_classify.specs.Ids.{LooksAt}
use Rattle.elf_classify.proofs.ids.build_id.Given as goal

abbrev pub invariant-loop-index : goal.invariant-loop-index
invariant-loop-index l = LooksAt l.file l.index
