-- Stores (this project's rule): what a store holds while no keeper is out, and what its openings do to it.
use Rattle.std.specs.Prelude.{◌≡◌, ℕ, ◌≤◌, Bool, List, [], ◌∷◌, ◌++◌, Option, option_map, IsTrue}
use Rattle.row_types.specs.Faults.{Rose, summed}
use Rattle.index_keeper.specs.Keeper.{AreTablesSettled, ShownKeeper}
use Rattle.index_keeper.specs.Tables.{KeptFacts, EditFacts}
use Rattle.index_keeper.specs.declared.answer.StoreAnswer.{StoreAnswer}
use Rattle.index_keeper.specs.declared.answer.StoreAnswer.TheVariants.{Opened, Failed, OutOfMemory}

-- what a store shows at a moment: the tables, and the changes that were answered Done, in order, while no keeper is
-- out; the number of the last opening; how often an opening, or a call of a keeper that was given back, has failed;
-- the paths by which it was opened, in order
pub record ShownStore : Type 0 where
  pub tables : List KeptFacts
  pub made : Option (List EditFacts)
  pub epoch : ℕ
  pub faults : ℕ
  pub paths : Option (List (List ℕ))

-- the paths by which a store was opened, with one more
abbrev pub with_opened_path : List ℕ → Option (List (List ℕ)) → Option (List (List ℕ))
with_opened_path path paths = option_map (λ earlier. earlier ++ path ∷ []) paths

-- the keeper has what the store held, and has not failed
pub record HasAll (told : Bool) (before : ShownStore) (keeper : ShownKeeper) : Type 0 where
  pub tables : IsTrue told → keeper.tables ≡ before.tables
  pub settled : IsTrue told → AreTablesSettled keeper
  pub made : keeper.made ≡ before.made
  pub faultless : keeper.faults ≡ 0

-- the store was opened by the path, under a higher number, which is the keeper's; no fault was counted
pub record IsOpened (told : Bool) (path : List ℕ) (before after : ShownStore) (keeper : ShownKeeper) : Type 0 where
  pub holds : HasAll told before keeper
  pub number : keeper.epoch ≡ after.epoch
  pub rises : Rose before.epoch after.epoch
  pub later : before.epoch ≤ after.epoch
  pub faults : after.faults ≡ before.faults
  pub paths : after.paths ≡ with_opened_path path before.paths

-- the store failed to be opened by the path: its count rose, and it holds what it held
pub record FailsToOpen (told : Bool) (path : List ℕ) (before after : ShownStore) : Type 0 where
  pub tables : IsTrue told → after.tables ≡ before.tables
  pub made : after.made ≡ before.made
  pub later : before.epoch ≤ after.epoch
  pub faults : before.faults ≤ after.faults
  pub cause : Rose before.faults after.faults
  pub paths : after.paths ≡ with_opened_path path before.paths

-- what came of opening a store by the path
abbrev pub OpensStore : {K : Type 0} → Bool → (K → ShownKeeper) → List ℕ → ShownStore → ShownStore → StoreAnswer K → Type 0
OpensStore told shows path before after (Opened keeper) = IsOpened told path before after (shows keeper)
OpensStore told shows path before after Failed = FailsToOpen told path before after
OpensStore told shows path before after OutOfMemory = after ≡ before

-- the keeper was given back: the store holds what a crash of it now may leave, and has counted its faults
pub record TakesKeeperBack (told : Bool) (keeper : ShownKeeper) (before after : ShownStore) : Type 0 where
  pub image : IsTrue told → keeper.images after.tables
  pub made : after.made ≡ keeper.made
  pub counted : after.faults ≡ summed before.faults keeper.faults
  pub later : before.faults ≤ after.faults
  pub number : after.epoch ≡ before.epoch
  pub paths : after.paths ≡ before.paths
