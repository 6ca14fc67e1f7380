-- How a keeper begins on an open connection (this project's rule), and what a refusal gives back.
use Rattle.std.specs.Prelude.{◌≡◌, ℕ, ◌<◌, false, Result, IsTrue}
use Rattle.sqlite.specs.Held.{Held, state}
use Rattle.sqlite.specs.Store.{Ghosts}
use Rattle.sqlite.specs.declared.error.Error.{Error}
use Rattle.sqlite_keeper.specs.Keeper.{SqliteKeeperFacts}
use Rattle.sqlite_keeper.specs.Schema.{Fits}
use Rattle.sqlite_keeper.specs.Statements.{HasStatementPassed, Raises, StaysOutside, WasRaised, WasRun, epoch_table, kept_table}
use Rattle.sqlite_keeper.specs.Told.{IsDatabaseTold, KeepsTables}
use Rattle.sqlite_keeper.specs.declared.adopt.AdoptAnswer.{AdoptAnswer}
use Rattle.sqlite_keeper.specs.declared.adopt.AdoptAnswer.TheVariants as adopt
use Rattle.sqlite_keeper.specs.declared.fault.SqlFault.{SqlFault}
use Rattle.sqlite_keeper.specs.declared.fault.SqlFault.TheVariants.{Failed}

-- both tables were made, in this order, and then the number of openings was raised to this one
pub record MakesNumber {S : Type 0} (g : Ghosts S) (before after : Held S) (number : ℕ) : Type 0 where
  pub first : Held S
  pub makes_kept : HasStatementPassed g kept_table before first
  pub made : Held S
  pub makes_epoch : HasStatementPassed g epoch_table first made
  pub raised : Raises g made after number

-- this was done outside a transaction, on a database that has no tables but the store's, which shows the tables that it did;
-- where it is open still, it is told then
pub record HasNumber {S : Type 0} (g : Ghosts S) (before after : Held S) (number : ℕ) : Type 0 where
  pub outside : before.in_transaction ≡ false
  pub fits : Fits before.schema
  pub makes : MakesNumber g before after number
  pub kept : KeepsTables g before after
  pub told : IsTrue (state g after).is_open → IsDatabaseTold (state g after)

-- the same, and the number is above the last one
pub record IsReady {S : Type 0} (g : Ghosts S) (last : ℕ) (before after : Held S) (epoch : ℕ) : Type 0 where
  pub number : HasNumber g before after epoch
  pub rises : last < epoch

-- the keeper begins: its number is above the last one, and it hasn't failed
pub record BeginsKeeper {S : Type 0} (g : Ghosts S) (last : ℕ) (before : Held S) (keeper : SqliteKeeperFacts S) : Type 0 where
  pub number : HasNumber g before keeper.connection keeper.epoch
  pub rises : last < keeper.epoch
  pub faultless : keeper.faults ≡ 0

-- a front of what an opening does was done: nothing, or its first one, two or three statements, of which each that
-- another one follows has passed
pub data Front {S : Type 0} (g : Ghosts S) (before after : Held S) : Type 0 where
  nothing : (same : after ≡ before) → Front g before after
  to_kept : (came : Result ℕ Error) (runs : WasRun g kept_table before after came) → Front g before after
  to_epoch : (first : Held S) (makes_kept : HasStatementPassed g kept_table before first) (came : Result ℕ Error) (runs : WasRun g epoch_table first after came)
      → Front g before after
  to_raise : (first made : Held S) (makes_kept : HasStatementPassed g kept_table before first) (makes_epoch : HasStatementPassed g epoch_table first made)
      (raises : WasRaised g made after) → Front g before after

-- an opening that is refused leaves a front of what it does, and nothing else; outside a transaction it stays outside
pub record StopsShort {S : Type 0} (g : Ghosts S) (before after : Held S) : Type 0 where
  pub front : Front g before after
  pub outside : StaysOutside g before after

-- a connection comes back from an opening that is refused, and shows the tables that it did; where it came inside a
-- transaction, or has other tables, it is as it was
pub record ComesBack {S : Type 0} (g : Ghosts S) (before after : Held S) : Type 0 where
  pub same : IsTrue before.in_transaction → after ≡ before
  pub other : (Fits before.schema → ⊥) → after ≡ before
  pub short : StopsShort g before after
  pub kept : KeepsTables g before after

-- the opening is refused: inside a transaction and over other tables it fails, and the connection comes back
pub record RefusesToBegin {S : Type 0} (g : Ghosts S) (before : Held S) (fault : SqlFault) (after : Held S) : Type 0 where
  pub cause : IsTrue before.in_transaction → fault ≡ Failed
  pub strange : (Fits before.schema → ⊥) → fault ≡ Failed
  pub back : ComesBack g before after

-- what came of adopting the connection
abbrev pub Adopts : {S : Type 0} → Ghosts S → Held S → AdoptAnswer S → Type 0
Adopts g before (adopt.Adopted keeper) = BeginsKeeper g 0 before keeper
Adopts g before (adopt.Failed connection) = ComesBack g before connection
Adopts g before (adopt.OutOfMemory connection) = (before.in_transaction ≡ false) × ComesBack g before connection
