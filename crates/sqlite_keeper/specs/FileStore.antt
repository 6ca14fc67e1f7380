-- The store in a file (this project's rule). Nothing is told of the file.
use Rattle.std.specs.Prelude.{ℕ, [], None, ⊤}
use Rattle.index_keeper.specs.Store.{ShownStore}
use Rattle.index_keeper.specs.declared.answer.StoreAnswer.{StoreAnswer}
use Rattle.index_keeper.specs.declared.answer.StoreAnswer.TheVariants.{Opened}
use Rattle.sqlite.specs.Files.{over_files}
use Rattle.sqlite.specs.Held.{Held, IsNew}
use Rattle.sqlite.specs.Store.{Ghosts}
use Rattle.sqlite_keeper.specs.Begins.{BeginsKeeper}
use Rattle.sqlite_keeper.specs.Keeper.{SqliteKeeperFacts}
use Rattle.sqlite_keeper.specs.declared.file_keeper.FileKeeper.{FileKeeper}

-- how often an opening, or a call of a keeper that was given back, failed; the number of the last opening
pub record FileFacts : Type 0 where
  pub faults : ℕ
  pub epoch : ℕ

-- what the store shows: its number and its count
abbrev pub file_shown : FileFacts → ShownStore
file_shown store = record { tables = []; made = None; epoch = store.epoch; faults = store.faults; paths = None }

-- a store that was never opened
abbrev pub fresh_file : FileFacts
fresh_file = record { faults = 0; epoch = 0 }

-- the keeper began on a connection that had run nothing before
pub record BeginsAnew {S : Type 0} (g : Ghosts S) (last : ℕ) (keeper : SqliteKeeperFacts S) : Type 0 where
  pub opened : Held S
  pub fresh : IsNew opened
  pub begun : BeginsKeeper g last opened keeper

-- a keeper that an opening gives began on a connection that had run nothing before
abbrev pub GivesBegun : ℕ → StoreAnswer FileKeeper → Type 0
GivesBegun last (Opened it) = BeginsAnew over_files last it.keeper
GivesBegun last _ = ⊤
