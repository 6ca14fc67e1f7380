-- What a walk has found once it is over, and what a hold makes of one (this project's rule).
use Rattle.std.specs.Prelude.{◌⊎◌, ◌≡◌, ◌&&◌, ◌||◌, ℕ, ◌≤◌, Bool, if◌then◌else◌, nat_le, List, [], ◌++◌, length}
use mathlib.Core.List.{IsPrefix}
use Rattle.row_types.specs.Row.{RowFacts}
use Rattle.index_rows.specs.declared.change.Change.{Change}
use Rattle.index_state.specs.Invariant.{AreRowsAt}
use Rattle.index_state.specs.State.{StateFacts}
use Rattle.row_walk.specs.Looked.{is_copied, is_last}
use Rattle.row_walk.specs.Walk.{IsStep, IsWalk, IsWalkOf, WalkFacts, kept_of, taken}
use Rattle.row_walk.specs.declared.found.Found.{Found}
use Rattle.row_walk.specs.declared.holds.Walked.{Walked}
use Rattle.row_walk.specs.declared.holds.Walked.TheVariants.{Further, Done}
use Rattle.row_walk.specs.declared.looked.Looked.{Looked}

-- what was found is the first of what the test keeps of the rows of an index with this log: all, or enough of it
pub record AreFirst (true_row : RowFacts → Type 0) (keeps : Found → Bool) (enough : ℕ) (log : List Change) (found : List Found) : Type 0 where
  pub rows : List RowFacts
  pub stood : AreRowsAt true_row log rows
  pub rest : List Found
  pub whole : kept_of keeps rows ≡ found ++ rest
  pub all : (rest ≡ []) ⊎ (enough ≤ length found)

-- the walk has heard of the whole log, and what it found is the first of what the test keeps of the rows of an index with it
pub record HasWalked (true_row : RowFacts → Type 0) (keeps : Found → Bool) (enough : ℕ) (log : List Change) (walk : WalkFacts) : Type 0 where
  pub heard : walk.heard ≡ length log
  pub first : AreFirst true_row keeps enough log walk.kept

-- a walk of this log, whatever is kept
pub record IsNewWalk (true_row : RowFacts → Type 0) (log : List Change) (walk : WalkFacts) : Type 0 where
  pub any : (keeps : Found → Bool) → IsWalk true_row keeps log walk

-- this was looked at in an index, whose log goes on from one that the walk is of
pub record LooksOn {K : Type 0} (told : Bool) (true_row : RowFacts → Type 0) (index : StateFacts K) (walk : WalkFacts) (looked : Looked) : Type 0 where
  pub step : IsStep walk index looked
  pub goes : (keeps : Found → Bool) (before : List Change) → IsPrefix before index.log → IsWalk true_row keeps before walk
      → IsWalkOf told true_row keeps index (taken keeps looked walk)

-- the walk is over once all rows were seen or enough was found, where no change is left that it hasn't heard of
abbrev pub is_over : ℕ → Looked → WalkFacts → Bool
is_over enough looked walk = is_last looked || (is_copied looked && nat_le enough (length walk.kept))

-- what a hold makes of a walk that takes in what was looked at
abbrev pub walked_by : (Found → Bool) → ℕ → Looked → WalkFacts → Walked
walked_by keeps enough looked walk = if is_over enough looked (taken keeps looked walk) then Done (taken keeps looked walk) else Further (taken keeps looked walk)

-- the walk goes on, by the log of the hold, or is over
abbrev pub GoesOn : (true_row : RowFacts → Type 0) → (Found → Bool) → ℕ → List Change → Walked → Type 0
GoesOn true_row keeps enough log (Further walk) = IsWalk true_row keeps log walk
GoesOn true_row keeps enough log (Done walk) = HasWalked true_row keeps enough log walk
