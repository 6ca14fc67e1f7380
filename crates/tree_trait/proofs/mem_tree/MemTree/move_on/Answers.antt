-- The read is listed or not, and then counted.
use Rattle.tree_trait.specs.Found.{found_name}
use Rattle.tree_trait.specs.Heard.{Heard, read_at, with_answers}
use Rattle.tree_trait.specs.Open.{room_facts}
use Rattle.std.proofs.Common.{[], ◌∷◌}
use Rattle.tree_trait.proofs.TreeLemmas.{ended_on, faults_on, told_on}
use Rattle.tree_trait.proofs.mem_tree.MemTree.move_on.Goals as goal

pub returns-clause-listed : goal.returns-clause-listed
returns-clause-listed g c =
    let asked : Heard = read_at (found_name c.args.file.now) c.args.at (room_facts c.args.answer c.args.room.now) in
    told_on c.keep_read.new.self c.end_in.new.self (with_answers c.args.self.now.heard (asked ∷ []))
    c.next_stage-stage.result c.has_failed.result c.keep_read.ensures.listed c.end_in.ensures.value

pub returns-clause-ends : goal.returns-clause-ends
returns-clause-ends g c =
    let asked : Heard = read_at (found_name c.args.file.now) c.args.at (room_facts c.args.answer c.args.room.now) in
    ended_on c.args.self.now c.keep_read.new.self c.end_in.new.self asked c.next_stage-stage.result
    c.has_failed.result c.keep_read.ensures.same c.next_stage-stage.ensures.value
    (c.has_failed.ensures (found_name c.args.file.now) c.args.at c.args.room.now) c.end_in.ensures.value

pub returns-clause-later : goal.returns-clause-later
returns-clause-later g c =
    faults_on c.args.self.now c.keep_read.new.self c.end_in.new.self c.keep_read.ensures.same c.end_in.ensures.later
