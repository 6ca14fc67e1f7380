-- The store in memory (this project's rule): what it keeps goes to the keeper that is opened, and comes back with
-- it.
use Rattle.std.specs.Prelude.{◌≡◌, ℕ, true, false, List, [], ◌∷◌, ◌++◌, Option, Some, None}
use Rattle.row_types.specs.Faults.{raised, summed}
use Rattle.index_keeper.specs.MemKeeper.{MemKeeperFacts, opened_keeper}
use Rattle.index_keeper.specs.Plan.{after_opening, opening_fails}
use Rattle.index_keeper.specs.Shelf.{ShelfFacts, shelf_of, after_asking}
use Rattle.index_keeper.specs.Store.{ShownStore}
use Rattle.index_keeper.specs.Tables.{KeptFacts}
use Rattle.index_keeper.specs.declared.answer.StoreAnswer.{StoreAnswer}
use Rattle.index_keeper.specs.declared.answer.StoreAnswer.TheVariants.{Opened, Failed, OutOfMemory}

-- what is kept, the paths by which the store was opened, the count of faults, and the number of the last opening
pub record StoreFacts : Type 0 where
  pub shelf : ShelfFacts
  pub paths : List (List ℕ)
  pub faults : ℕ
  pub epoch : ℕ

-- what the store shows: all of it
abbrev pub store_shown : StoreFacts → ShownStore
store_shown store = record {
  tables = store.shelf.tables;
  made = Some store.shelf.made;
  epoch = store.epoch;
  faults = store.faults;
  paths = Some store.paths;
}

-- the store that keeps these rows, and was never opened
abbrev pub fresh_store : List KeptFacts → Option ℕ → List ℕ → StoreFacts
fresh_store rows stop_at bad_calls = record { shelf = shelf_of rows stop_at bad_calls; paths = []; faults = 0; epoch = 0 }

-- the store with one more path by which it is opened
abbrev pub store_opened_by : List ℕ → StoreFacts → StoreFacts
store_opened_by path store = record store { paths = store.paths ++ path ∷ [] }

-- the store after an opening that failed
abbrev pub after_refusing : StoreFacts → StoreFacts
after_refusing store = record store { shelf = after_asking store.shelf; faults = raised store.faults }

-- the keeper that is opened has what the store kept, and the next number
abbrev pub opened_of : StoreFacts → MemKeeperFacts
opened_of store = opened_keeper (record store.shelf { plan = after_opening store.shelf.plan }) (raised store.epoch)

-- the store while its keeper is out: nothing is kept, and the number rose
abbrev pub handed_out : StoreFacts → StoreFacts
handed_out store = record store { shelf = shelf_of [] None []; epoch = raised store.epoch }

-- no fault is planned: the keeper is handed out
pub record HandsOver (path : List ℕ) (before after : StoreFacts) (keeper : MemKeeperFacts) : Type 0 where
  pub planned : opening_fails before.shelf.plan ≡ false
  pub given : keeper ≡ opened_of before
  pub emptied : after ≡ handed_out (store_opened_by path before)

-- a fault is planned: nothing is handed out
pub record HandsNothingOut (path : List ℕ) (before after : StoreFacts) : Type 0 where
  pub planned : opening_fails before.shelf.plan ≡ true
  pub refused : after ≡ after_refusing (store_opened_by path before)

-- what an opening by the path does, by its answer
abbrev pub OpensByPlan : List ℕ → StoreFacts → StoreFacts → StoreAnswer MemKeeperFacts → Type 0
OpensByPlan path before after (Opened keeper) = HandsOver path before after keeper
OpensByPlan path before after Failed = HandsNothingOut path before after
OpensByPlan path before after OutOfMemory = after ≡ before

-- the store after its keeper was given back
abbrev pub store_after_giving : StoreFacts → MemKeeperFacts → StoreFacts
store_after_giving store keeper = record store { shelf = keeper.shelf; faults = summed store.faults keeper.faults }
