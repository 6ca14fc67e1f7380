-- The read is answered by the script, and hands the tree on.
use Rattle.std.proofs.Common.{◌≤◌, sym, subst}
use Rattle.tree_trait.specs.Found.{found_name}
use Rattle.tree_trait.specs.Heard.{Heard, read_at}
use Rattle.tree_trait.specs.MemTree.{TreeFacts}
use Rattle.tree_trait.specs.Open.{room_facts}
use Rattle.tree_trait.proofs.TreeLemmas.{read_counted, reads_answered}
use Rattle.tree_trait.proofs.mem_tree.MemTree.end_read.Goals as goal

pub returns-clause-asks : goal.returns-clause-asks
returns-clause-asks g c =
    let asked : Heard = read_at (found_name c.args.file.now) c.args.at (room_facts c.args.answer c.args.room.now) in
    reads_answered c.args.self.now c.count_read.new.self asked c.know_script.ensures
    (read_counted c.args.self.now c.move_on.new.self c.count_read.new.self asked c.requires c.move_on.ensures.listed
    c.move_on.ensures.ends c.count_read.ensures)
    (subst (λ (t : TreeFacts). c.args.self.now.faults ≤ t.faults) (sym c.count_read.ensures) c.move_on.ensures.later)

pub returns-clause-script : goal.returns-clause-script
returns-clause-script g c =
    let asked : Heard = read_at (found_name c.args.file.now) c.args.at (room_facts c.args.answer c.args.room.now) in
    read_counted c.args.self.now c.move_on.new.self c.count_read.new.self asked c.requires c.move_on.ensures.listed
    c.move_on.ensures.ends c.count_read.ensures
