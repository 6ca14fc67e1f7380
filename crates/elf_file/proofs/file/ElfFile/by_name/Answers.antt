use Rattle.std.proofs.Common.{sym}
use Rattle.elf_file.proofs.SectionLemmas.{none_more, differ}
use Rattle.elf_file.proofs.file.ElfFile.by_name.Goals as goal

pub loop-index-preserved : goal.loop-index-preserved
loop-index-preserved c =
    none_more c.loop-index.invariant
    (λ index named. differ (sym c.if-has_name.false)
    (c.has_name.ensures.1 (rw c.header.ensures named)))
