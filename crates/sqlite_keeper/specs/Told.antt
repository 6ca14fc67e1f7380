-- A database whose tables are told (this project's rule). A store of bytes in memory numbers its rows, and returns what
-- was written; of a file both are premises.
use Rattle.std.specs.Prelude.{◌≡◌, false, List, [], ◌∷◌, Option, IfSome, IsTrue}
use Rattle.index_keeper.specs.Tables.{EditFacts, KeptFacts, edited}
use Rattle.index_keeper.specs.declared.answer.KeepAnswer.{KeepAnswer}
use Rattle.index_keeper.specs.declared.answer.KeepAnswer.TheVariants as answer
use Rattle.sqlite.specs.Effect.{Database, IsDatabase}
use Rattle.sqlite.specs.Held.{Held, state}
use Rattle.sqlite.specs.Order.{Row}
use Rattle.sqlite.specs.State.{HasCleanDisk, State}
use Rattle.sqlite.specs.Store.{Ghosts}
use Rattle.sqlite.specs.Table.{Table as Listed}
use Rattle.sqlite_trees.specs.View.{IsShaped}
use Rattle.sqlite_trees.specs.declared.store.Shape.TheVariants.{Table}
use Rattle.sqlite_keeper.specs.Schema.{IsStore}
use Rattle.sqlite_keeper.specs.Stored.{stored_tables}

-- it has the tables of the store, and keeps their rules; no transaction is open, and all is committed
pub record IsDatabaseTold (now : State) : Type 0 where
  pub schema : IsStore now.now.schema
  pub sound : IsDatabase now.now
  pub outside : now.in_transaction ≡ false
  pub settled : now.now ≡ now.committed

-- the rows of the first table that is listed, by path; there are none before one is
abbrev pub first_of : List Listed → List Row → List KeptFacts
first_of [] rows = []
first_of (table ∷ others) rows = stored_tables rows

-- the tables in a database, by path
abbrev pub tables_in : Database → List KeptFacts
tables_in db = first_of db.schema.tables (db.trees 0)

-- the tables, by path
abbrev pub tables : State → List KeptFacts
tables now = tables_in now.now

-- the numbers of its rows rise
abbrev pub IsNumbered : State → Type 0
IsNumbered now = IsShaped Table (now.now.trees 0)

-- the change was made, and the database is told as before
pub record TellsEdit (edit : EditFacts) (old new : State) : Type 0 where
  pub told : IsDatabaseTold new
  pub changed : tables new ≡ edited (tables old) edit

-- nothing was changed, and the database is told as before
pub record DatabaseStays (old new : State) : Type 0 where
  pub told : IsDatabaseTold new
  pub same : tables new ≡ tables old

-- what an answer to a change tells: one that isn't done changed nothing
abbrev pub IsToldBy : KeepAnswer → EditFacts → State → State → Type 0
IsToldBy answer.Done edit old new = TellsEdit edit old new
IsToldBy _ edit old new = DatabaseStays old new

-- a told database is so after the call, where its disk has returned what was written, it is open still, and the numbers
-- of its rows rise before, and after if it is told then
abbrev pub IfTold : {S : Type 0} → Ghosts S → Held S → Held S → Type 0 → Type 0
IfTold g before after So =
    IsDatabaseTold (state g before) → IsNumbered (state g before) → (IsDatabaseTold (state g after) → IsNumbered (state g after)) → HasCleanDisk (state g after)
    → IsTrue (state g after).is_open → So

-- a change of a told database, by its answer
abbrev pub TellsChange : {S : Type 0} → Ghosts S → EditFacts → Held S → Held S → KeepAnswer → Type 0
TellsChange g edit before after given = IfTold g before after (IsToldBy given edit (state g before) (state g after))

-- the rows of a told database, if they were given; they are its tables, and either way these stay
pub record TellsRows (given : Option (List KeptFacts)) (old new : State) : Type 0 where
  pub all : IfSome given (λ rows. rows ≡ tables old)
  pub stays : DatabaseStays old new

-- rows of a told database were asked for
abbrev pub TellsQueriedRows : {S : Type 0} → Ghosts S → Held S → Held S → Option (List KeptFacts) → Type 0
TellsQueriedRows g before after given = IfTold g before after (TellsRows given (state g before) (state g after))

-- the tables that are shown are as they were, where the disk has returned what was written and the database is open still
abbrev pub KeepsTables : {S : Type 0} → Ghosts S → Held S → Held S → Type 0
KeepsTables g before after = HasCleanDisk (state g after) → IsTrue (state g after).is_open → tables (state g after) ≡ tables (state g before)
