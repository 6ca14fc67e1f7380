-- Keepers over a database (this project's rule): their tables are those of the database, and are all that it can leave. They
-- are told where the store of bytes tells what it holds.
use Rattle.std.specs.Prelude.{◌≡◌, ℕ, Bool, false, None, IsTrue, refl}
use Rattle.std.specs.Coded.{Coded, code_by, coded×, coded_ℕ}
use Rattle.index_keeper.specs.Keeper.{ShownKeeper}
use Rattle.row_types.specs.Faults.{HasCause}
use Rattle.sqlite.specs.Held.{Held, held_code, state}
use Rattle.sqlite.specs.Store.{Ghosts}
use Rattle.sqlite_keeper.specs.Told.{tables}

-- the connection, how often a call failed, and the number of the opening
pub record SqliteKeeperFacts (S : Type 0) : Type 0 where
  pub connection : Held S
  pub faults : ℕ
  pub epoch : ℕ

-- a keeper is stored as its parts
abbrev pub keeper_code : {S : Type 0} → Coded S → Coded (SqliteKeeperFacts S)
keeper_code {S} store =
    code_by (Held S × (ℕ × ℕ)) (coded× (held_code store) (coded× coded_ℕ coded_ℕ)) (λ k. (k.connection, (k.faults, k.epoch)))
    (λ p. record { connection = p.0; faults = p.1.0; epoch = p.1.1 }) (λ _. refl)

-- what the keeper shows: the tables, which are the only image, its count and its number
abbrev pub keeper_shown : {S : Type 0} → Ghosts S → SqliteKeeperFacts S → ShownKeeper
keeper_shown g keeper = record {
  tables = tables (state g keeper.connection);
  images = λ image. image ≡ tables (state g keeper.connection);
  made = None;
  faults = keeper.faults;
  epoch = keeper.epoch;
}

-- a keeper as it is opened
abbrev pub opened_connection : {S : Type 0} → Held S → ℕ → SqliteKeeperFacts S
opened_connection connection epoch = record { connection = connection; faults = 0; epoch = epoch }

-- a call is counted by whether it failed
pub record IsCounted (failed : Bool) (before after : ℕ) : Type 0 where
  pub cause : HasCause before after (IsTrue failed)
  pub faultless : failed ≡ false → after ≡ before
