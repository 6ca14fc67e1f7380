-- What is swapped is what the tree has.
use Rattle.std.proofs.Common.{◌∙◌, ap, length}
use Rattle.file_formats.specs.Numbers.{bytes_at}
use Rattle.tree_trait.specs.MemTree.{TreeFacts}
use Rattle.tree_trait.specs.Swaps.{bytes_seen}
use Rattle.tree_trait.proofs.mem_tree.MemTree.read_next.Goals as goal

pub returns-clause-seen : goal.returns-clause-seen
returns-clause-seen g c =
    c.read_into.ensures.seen
    ∙ ap (λ (t : TreeFacts). bytes_at (bytes_seen t.swaps c.args.file.now) c.args.at (length c.args.room.now)) c.self.view_is
