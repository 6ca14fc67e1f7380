-- The answer is by the files of the next stage, or memory was refused.
use Rattle.std.proofs.Common.{refl}
use Rattle.tree_trait.specs.HeardCalls.{heard_facts}
use Rattle.tree_trait.proofs.TreeLemmas.{asks_kept, asks_nothing}
use Rattle.tree_trait.proofs.mem_tree.MemTreeTree.open_file.Goals as goal

pub returns-then-end_call-clause-asks : goal.returns-then-end_call-clause-asks
returns-then-end_call-clause-asks g c =
    asks_kept heard_facts c.args.self.now c.end_call.new.self c.heard_open-call.result
    c.next_files.ensures.scripted c.next_files.ensures.files c.open_in-answer.ensures.answer
    c.heard_open-call.ensures c.if-end_call.ensures.ended c.end_call.ensures.later

pub returns-else-end_call-clause-asks : goal.returns-else-end_call-clause-asks
returns-else-end_call-clause-asks g c =
    asks_nothing c.next_files.ensures.scripted tt tt refl refl c.if-end_call.ensures.same
