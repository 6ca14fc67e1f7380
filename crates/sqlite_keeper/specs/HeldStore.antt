-- The store of a connection (this project's rule): the connection goes to the keeper, and comes back with it.
use Rattle.std.specs.Prelude.{◌≡◌, ℕ, Bool, false, if◌then◌else◌, List, [], Option, Some, None, IsSomeAnd, MatchOption, refl}
use Rattle.std.specs.Coded.{Coded, code_by, coded×, coded_ℕ, coded_option}
use Rattle.row_types.specs.Faults.{summed}
use Rattle.index_keeper.specs.Store.{ShownStore}
use Rattle.index_keeper.specs.Tables.{KeptFacts}
use Rattle.index_keeper.specs.declared.answer.StoreAnswer.{StoreAnswer}
use Rattle.index_keeper.specs.declared.answer.StoreAnswer.TheVariants.{Opened, Failed, OutOfMemory}
use Rattle.sqlite.specs.Held.{Held, held_code, state}
use Rattle.sqlite.specs.Store.{Ghosts}
use Rattle.sqlite_keeper.specs.Begins.{BeginsKeeper, ComesBack}
use Rattle.sqlite_keeper.specs.Keeper.{SqliteKeeperFacts}
use Rattle.sqlite_keeper.specs.Told.{tables}

-- the connection, while no keeper is out; how often an opening, or a call of a keeper that was given back, failed;
-- the number of the last opening
pub record HeldStoreFacts (S : Type 0) : Type 0 where
  pub connection : Option (Held S)
  pub faults : ℕ
  pub epoch : ℕ

-- a store is stored as its parts
abbrev pub held_facts_code : {S : Type 0} → Coded S → Coded (HeldStoreFacts S)
held_facts_code {S} store =
    code_by (Option (Held S) × (ℕ × ℕ)) (coded× (coded_option (held_code store)) (coded× coded_ℕ coded_ℕ)) (λ s. (s.connection, (s.faults, s.epoch)))
    (λ p. record { connection = p.0; faults = p.1.0; epoch = p.1.1 }) (λ _. refl)

-- the tables of the connection that is held, if one is
abbrev pub tables_held : {S : Type 0} → Ghosts S → Option (Held S) → List KeptFacts
tables_held g None = []
tables_held g (Some held) = tables (state g held)

-- what the store shows: these tables, where they are told, its number and its count
abbrev pub held_shown : {S : Type 0} → Bool → Ghosts S → HeldStoreFacts S → ShownStore
held_shown told g store =
    record { tables = if told then tables_held g store.connection else []; made = None; epoch = store.epoch; faults = store.faults; paths = None }

-- the store that holds the connection, and was never opened
abbrev pub holding : {S : Type 0} → Held S → HeldStoreFacts S
holding connection = record { connection = Some connection; faults = 0; epoch = 0 }

-- the connection was held, and is the keeper's now
pub record HandsConnectionOut {S : Type 0} (g : Ghosts S) (before after : HeldStoreFacts S) (keeper : SqliteKeeperFacts S) : Type 0 where
  pub began : IsSomeAnd before.connection (λ held. BeginsKeeper g before.epoch held keeper)
  pub empty : after.connection ≡ None

-- a connection is held afterwards where one was held before, and it comes back
abbrev pub PutsBack : {S : Type 0} → Ghosts S → Option (Held S) → Option (Held S) → Type 0
PutsBack g before after = MatchOption before (after ≡ None) (λ held. IsSomeAnd after (ComesBack g held))

-- what an opening does with the connection, by its answer; without one it fails
abbrev pub Hands : {S : Type 0} → Ghosts S → HeldStoreFacts S → HeldStoreFacts S → StoreAnswer (SqliteKeeperFacts S) → Type 0
Hands g before after (Opened keeper) = HandsConnectionOut g before after keeper
Hands g before after Failed = PutsBack g before.connection after.connection
Hands g before after OutOfMemory = IsSomeAnd before.connection (λ held. held.in_transaction ≡ false) × PutsBack g before.connection after.connection

-- the store after its keeper was given back
abbrev pub held_after_giving : {S : Type 0} → HeldStoreFacts S → SqliteKeeperFacts S → HeldStoreFacts S
held_after_giving store keeper = record store { connection = Some keeper.connection; faults = summed store.faults keeper.faults }
