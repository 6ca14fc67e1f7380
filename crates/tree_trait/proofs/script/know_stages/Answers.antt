-- The stage that the loop came to is known too, and at the end all are.
use Rattle.std.proofs.Common.{All, List, subst}
use Rattle.std.proofs.lemmas.List.{take_all}
use Rattle.std.proofs.lemmas.List.Elements.{All-more}
use Rattle.tree_trait.specs.Found.{FoundFacts, IsFound}
use Rattle.tree_trait.proofs.script.know_stages.Goals as goal

pub loop-stage-preserved : goal.loop-stage-preserved
loop-stage-preserved g c =
    let Known : List FoundFacts → Type 0 = All (IsFound g.W.Truth.version) in
    let known : Known c.stage-item.result.items = subst Known c.as_slice.ensures.value c.know_files.ensures in
    All-more (λ stage. Known stage.items) c.args.stages.now c.loop-stage.stage-index c.stage-item.result
    c.loop-stage-test.true c.loop-stage.invariant (subst (λ stage. Known stage.items) c.stage-item.is known)

pub returns : goal.returns
returns g c =
    subst (All (λ stage. All (IsFound g.W.Truth.version) stage.items))
    (take_all c.loop-stage.stage-index c.args.stages.now c.loop-stage-test.false) c.loop-stage.invariant
