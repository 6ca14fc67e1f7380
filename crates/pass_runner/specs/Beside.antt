-- A pass with which other hands help (this crate's bookkeeping, which no public clause cites).
use Rattle.std.specs.Prelude.{◌≡◌, ◌⊎◌, ℕ, ◌+◌, ◌≤◌, Bool, true, false, List, IsTrue}
use Rattle.row_types.specs.Name.{NameFacts}
use Rattle.row_types.specs.Rules.{Rules}
use Rattle.path_scope.specs.Scope.{Scope}
use Rattle.index_keeper.specs.Keeper.{ShownKeeper}
use Rattle.index_state.specs.State.{StateFacts}
use Rattle.index_state.specs.Step.{after_begin}
use Rattle.index_state.specs.declared.answer.Plan.{Plan}
use Rattle.tree_trait.specs.Shown.{ShownTree}
use Rattle.pass_runner.specs.Passes.{EndsBegun}
use Rattle.pass_runner.specs.declared.pass_end.PassEnd.{PassEnd}
use Rattle.pass_runner.specs.declared.pass_end.PassEnd.TheVariants.{Whole, KeeperFault, OutOfMemory}

-- whether the pass came to be whole
abbrev pub is_whole : PassEnd → Bool
is_whole (Whole summary) = true
is_whole _ = false

-- no pass was begun again, and nothing changed
pub record StaysOut {K T : Type 0} (before after : T) (old new : StateFacts K) (Why : Type 0) : Type 0 where
  pub hand : after ≡ before
  pub state : new ≡ old
  pub why : Why

-- a pass over the listing was begun again and settled, or could not be begun
abbrev pub EndsAgain : {K T : Type 0} → Rules → Bool → Bool → (K → ShownKeeper) → (T → ShownTree) → Plan
    → List NameFacts → Scope → T → T → StateFacts K → StateFacts K → PassEnd → Type 0
EndsAgain world told tells shows sees plan listing scope before after old new KeeperFault =
    EndsBegun world told tells shows plan (sees before) (sees after) (after_begin listing scope old) new KeeperFault
    ⊎ StaysOut before after old new (old.broken ≡ true)
EndsAgain world told tells shows sees plan listing scope before after old new OutOfMemory =
    EndsBegun world told tells shows plan (sees before) (sees after) (after_begin listing scope old) new OutOfMemory
    ⊎ StaysOut before after old new (old.broken ≡ false)
EndsAgain world told tells shows sees plan listing scope before after old new end =
    EndsBegun world told tells shows plan (sees before) (sees after) (after_begin listing scope old) new end

-- a pass that came to be whole is one only where so many openings were counted as it read files, where that is asked for
abbrev pub IsWeighed : PassEnd → ℕ → Bool → PassEnd → Type 0
IsWeighed end asked many OutOfMemory = (end ≡ OutOfMemory) ⊎ IsTrue (is_whole end)
IsWeighed end asked many (Whole summary) =
    (end ≡ Whole summary) × (IsTrue many → summary.added + summary.replaced ≤ asked)
IsWeighed end asked many other = end ≡ other
