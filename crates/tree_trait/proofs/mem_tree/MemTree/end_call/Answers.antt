-- The call is listed, and then counted.
use Rattle.std.proofs.Common.{◌≡◌, ◌≤◌, subst, sym}
use Rattle.std.specs.Option.{IsSomeAnd}
use Rattle.tree_trait.specs.HeardCalls.{heard_facts}
use Rattle.tree_trait.specs.MemTree.{TreeFacts, answered}
use Rattle.tree_trait.proofs.TreeLemmas.{ended_by}
use Rattle.tree_trait.proofs.mem_tree.MemTree.end_call.Goals as goal

pub returns-then-list-clause-ended : goal.returns-then-list-clause-ended
returns-then-list-clause-ended g c =
    subst (λ call. IsSomeAnd call (λ asked. c.end_in.new.self ≡ answered c.args.self.now (heard_facts asked))) (sym c.in-Some.is)
    (ended_by c.args.self.now c.list.new.self c.end_in.new.self (heard_facts c.in-Some.call) c.next_stage-stage.result
    c.has_failed-failed.result c.if-list.ensures.kept c.next_stage-stage.ensures.value c.has_failed-failed.ensures
    c.end_in.ensures.value)

pub returns-then-list-clause-later : goal.returns-then-list-clause-later
returns-then-list-clause-later g c =
    subst (λ (t : TreeFacts). t.faults ≤ c.end_in.new.self.faults) c.if-list.ensures.kept c.end_in.ensures.later
