-- The read is listed, or the questions aren't told from there on.
use Rattle.std.proofs.Common.{None, sym, ◌∙◌, ap}
use Rattle.std.proofs.lemmas.Bool.{false≢true}
use Rattle.tree_trait.specs.MemTree.{TreeFacts, with_heard}
use Rattle.tree_trait.proofs.mem_tree.MemTree.keep_read.Goals as goal

pub returns-then-list_read-clause-listed : goal.returns-then-list_read-clause-listed
returns-then-list_read-clause-listed g c = λ _. ap (λ (t : TreeFacts). t.heard) c.if-list_read.ensures.kept

pub returns-then-list_read-clause-same : goal.returns-then-list_read-clause-same
returns-then-list_read-clause-same g c =
    c.if-list_read.ensures.kept
    ∙ ap (with_heard c.args.self.now) (sym (ap (λ (t : TreeFacts). t.heard) c.if-list_read.ensures.kept))

pub returns-clause-listed : goal.returns-clause-listed
returns-clause-listed g c = λ some. absurd (false≢true some)

pub returns-clause-same : goal.returns-clause-same
returns-clause-same g c = ap (λ (t : TreeFacts). with_heard t None) (c.self.view_is ∙ c.if-list_read.ensures.same)
