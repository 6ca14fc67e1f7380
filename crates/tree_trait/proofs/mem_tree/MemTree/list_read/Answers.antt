-- What is kept is the read.
use Rattle.std.proofs.Common.{◌≡◌, [], ◌∷◌, subst}
use Rattle.std.specs.Bool.{OnTrue}
use Rattle.tree_trait.specs.Heard.{Heard, with_answers}
use Rattle.tree_trait.specs.MemTree.{with_heard}
use Rattle.tree_trait.proofs.mem_tree.MemTree.list_read.Goals as goal

pub returns-in-Ok-clause-kept : goal.returns-in-Ok-clause-kept
returns-in-Ok-clause-kept g c =
    subst (λ (asked : Heard). OnTrue c.list.result
    (c.list.new.self ≡ with_heard c.args.self.now (with_answers c.args.self.now.heard (asked ∷ []))))
    c.in-Ok.ensures c.list.ensures.kept
