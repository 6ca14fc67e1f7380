-- What is known of the stages is known of their lists.
use Rattle.std.proofs.Common.{All, subst}
use Rattle.std.proofs.lemmas.List.Elements.{All-map}
use Rattle.tree_trait.specs.Found.{IsFound}
use Rattle.tree_trait.specs.Script.{ScriptFacts}
use Rattle.tree_trait.proofs.script.Script.know_files.Goals as goal

pub returns : goal.returns
returns g c =
    let known = subst (λ stages. All (λ stage. All (IsFound g.W.Truth.version) stage.items) stages)
    c.as_slice.ensures.value c.know_stages.ensures in
    subst (λ (script : ScriptFacts). All (All (IsFound g.W.Truth.version)) script.stages) c.self.view_is
    (All-map (All (IsFound g.W.Truth.version)) (λ stage. stage.items) c.self.inside.stages.items known)
