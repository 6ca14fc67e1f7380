-- The path's entry is removed, if it has one.
use Rattle.index_keeper.proofs.TreeLemmas.{removal_edits}
use Rattle.index_keeper.proofs.tables.remove_row.Goals as goal

pub returns : goal.returns
returns c = removal_edits c.args.path.now c.args.tree.now.entries c.remove-bytes.new.self.entries c.requires c.remove-bytes.ensures.entries
