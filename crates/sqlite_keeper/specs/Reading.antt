-- Rows as the query gives them (this project's rule): each is a path and its bytes.
use Rattle.std.specs.Prelude.{◌≡◌, ◌⊎◌, List, [], ◌∷◌, ◌++◌, map, Option, Some, None, false, IfSome, IsTrue}
use Rattle.index_keeper.specs.Tables.{KeptFacts}
use Rattle.sqlite.specs.Given.{HasGiven}
use Rattle.sqlite.specs.Held.{Held, state}
use Rattle.sqlite.specs.Order.{Row, bytes, column}
use Rattle.sqlite.specs.State.{State, HasCleanDisk, IsUnchanged, Shown, Survives}
use Rattle.sqlite.specs.Store.{Ghosts}
use Rattle.sqlite_keeper.specs.Statements.{rows_query}

-- the path and the bytes that a row of the answer spells
abbrev pub shown_kept : Row → KeptFacts
shown_kept row = record { path = bytes (column row 0); bytes = bytes (column row 1) }

-- one more row of the query is given, or those so far are its answer
abbrev pub GivesRow : {S : Type 0} → Ghosts S → Held S → Held S → Option KeptFacts → Type 0
GivesRow g old new (Some row) =
    (given : List Row) → HasGiven g rows_query [] old given → (more : Row) × HasGiven g rows_query [] new (given ++ more ∷ []) × (row ≡ shown_kept more)
GivesRow g old new None = (given : List Row) → HasGiven g rows_query [] old given → Shown rows_query [] (state g old) (state g new) given

-- the rows are what the query shows of the database, which is as it was
pub record GivesAll {S : Type 0} (g : Ghosts S) (old new : Held S) (rows : List KeptFacts) : Type 0 where
  pub answer : List Row
  pub shown : Shown rows_query [] (state g old) (state g new) answer
  pub spelled : rows ≡ map shown_kept answer
  pub same : IsUnchanged (state g old) (state g new)

-- a database that is open still is as it was, or as it was committed
pub record LeavesAlone (old new : State) : Type 0 where
  pub now : IsTrue new.is_open → (new.now ≡ old.now) ⊎ (new.now ≡ old.committed)
  pub committed : IsTrue new.is_open → new.committed ≡ old.committed

-- rows were asked for, and given or not: rows that are given are the query's, and nothing changed, as long as the disk
-- has returned what was written; a crash leaves what it could leave before, and nothing else; outside a transaction it
-- stays outside
pub record LooksUpRows {S : Type 0} (g : Ghosts S) (before after : Held S) (given : Option (List KeptFacts)) : Type 0 where
  pub gives : HasCleanDisk (state g after) → IfSome given (GivesAll g before after)
  pub leaves : HasCleanDisk (state g after) → LeavesAlone (state g before) (state g after)
  pub outside : before.in_transaction ≡ false → after.in_transaction ≡ false
  pub survives : Survives (state g before) (state g after) (λ _. ⊥)
