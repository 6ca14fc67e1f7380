-- Indexes for tests (this project's example).
use Rattle.std.specs.Prelude.{◌≡◌, false, List, None}
use Rattle.row_types.specs.Name.{NameFacts}
use Rattle.path_scope.specs.Scope.{Scope}
use Rattle.index_state.specs.State.{StateFacts, pass_or_none}
use Rattle.index_state.specs.Step.{BeginsPass}
use Rattle.index_state.specs.declared.answer.Plan.{Plan}

-- no pass was begun, and no change of the store failed
pub record IsNew {K : Type 0} (index : StateFacts K) : Type 0 where
  pub pass : index.pass ≡ None
  pub sound : index.broken ≡ false

-- a pass over the names began
pub record StartsPass {K : Type 0} (names : List NameFacts) (old new : StateFacts K) (plan : Plan) : Type 0 where
  pub scope : Scope
  pub begins : BeginsPass names scope plan old new

-- the index is in a pass over the names, and no change of the store failed
pub record IsInPass {K : Type 0} (names : List NameFacts) (index : StateFacts K) : Type 0 where
  pub listing : (pass_or_none index.pass).listing ≡ names
  pub sound : index.broken ≡ false
