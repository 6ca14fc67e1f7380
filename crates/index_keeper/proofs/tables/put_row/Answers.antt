-- The row is that of the entry that is put.
use Rattle.index_keeper.proofs.TreeLemmas.{put_edits}
use Rattle.index_keeper.proofs.tables.put_row.Goals as goal

pub returns-clause-ok : goal.returns-clause-ok
returns-clause-ok c =
    put_edits c.in_ok-path.path c.in_ok-bytes.bytes c.args.tree.now.entries c.insert.new.self.entries c.requires c.in_ok-path.ensures.ok c.in_ok-bytes.ensures.items c.in_ok-insert.ensures.entries
