-- What is kept of the question is the read.
use Rattle.elf_forge.proofs.TreeLemmas.{read_kept}
use Rattle.elf_forge.proofs.tree.ForgeTree.list_read.Goals as goal

pub returns-clause-kept : goal.returns-clause-kept
returns-clause-kept c = read_kept c.read.result c.keep.result c.args.self.now c.keep.new.self _ c.read.ensures c.keep.ensures.kept
