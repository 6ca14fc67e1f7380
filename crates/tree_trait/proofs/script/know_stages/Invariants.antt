-- The files of the stages so far are known.
use Rattle.std.proofs.Common.{All, take}
use Rattle.tree_trait.specs.Found.{IsFound}
use Rattle.tree_trait.proofs.script.know_stages.Given as goal

abbrev pub invariant-loop-stage : goal.invariant-loop-stage
invariant-loop-stage g l =
    All (λ stage. All (IsFound g.W.Truth.version) stage.items) (take l.stage-index l.stages)
