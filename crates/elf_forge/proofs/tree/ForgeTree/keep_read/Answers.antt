-- The read is listed, or the questions aren't told from there on.
use Rattle.std.proofs.Common.{None, ap, ◌∙◌}
use Rattle.elf_forge.specs.Tree.{ForgeFacts}
use Rattle.elf_forge.proofs.TreeLemmas.{reads_kept, reads_lost}
use Rattle.elf_forge.proofs.tree.ForgeTree.keep_read.Goals as goal

pub returns-then-list_read-clause-forged : goal.returns-then-list_read-clause-forged
returns-then-list_read-clause-forged c =
    reads_kept c.args.self.now c.list_read.new.self _ c.if-list_read.ensures.kept

pub returns-clause-forged : goal.returns-clause-forged
returns-clause-forged c =
    reads_lost c.args.self.now _ _ (ap (λ (t : ForgeFacts). record t { heard = None }) (c.self.view_is ∙ c.if-list_read.ensures.same))
