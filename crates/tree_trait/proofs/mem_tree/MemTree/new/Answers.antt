-- The script's first stage is there, and each file is known.
use Rattle.tree_trait.proofs.TreeLemmas.{scripted_first}
use Rattle.tree_trait.proofs.mem_tree.MemTree.new.Goals as goal

pub invariant_of-result : goal.invariant_of-result
invariant_of-result g c = scripted_first _ c.requires c.know_files.ensures
