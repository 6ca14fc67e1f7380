-- The index of a trial as it is opened, and how its pass ends (this crate's bookkeeping, which no public clause cites).
use Rattle.std.specs.Prelude.{◌≡◌, []}
use Rattle.index_keeper.specs.MemKeeper.{MemKeeperFacts}
use Rattle.index_state.specs.Opening.{opened_on}
use Rattle.index_state.specs.State.{StateFacts}
use Rattle.tree_walk.specs.declared.fault.WalkFault.TheVariants as stop
use Rattle.pass_runner.specs.declared.pass_end.PassEnd.{PassEnd}
use Rattle.pass_runner.specs.declared.pass_end.PassEnd.TheVariants.{Whole, Walk as Unwalked, OutOfMemory}
use Rattle.dbgd_commands.specs.TrialKeeper.{shown_sure}

-- an index without rows and changes, on a store that has made none
pub record IsNewIndex (state : StateFacts MemKeeperFacts) : Type 0 where
  pub value : state ≡ opened_on shown_sure [] state.keeper
  pub made : state.keeper.shelf.made ≡ []

-- a pass over the generated files is whole, or wants memory
abbrev pub EndsWell : PassEnd → Type 0
EndsWell (Whole summary) = Unit {0}
EndsWell (Unwalked stop.OutOfMemory) = Unit {0}
EndsWell OutOfMemory = Unit {0}
EndsWell _ = ⊥
