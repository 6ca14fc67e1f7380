use Rattle.elf_file.proofs.WholeLemmas.{extent_there}
use Rattle.elf_file.proofs.file.ElfFile.contents.Goals as goal

pub unreachable-requires : goal.unreachable-requires
unreachable-requires c =
    c.in-Err.ensures.0
    (extent_there c.self.inside.file.file c.args.header.now c.in_ok-at.at c.self.invariant c.in_ok-at.ensures)
