-- What a scan finds in the store and leaves in it (this project's rule), by rows.
use Rattle.std.specs.Prelude.{◌≡◌, ◌⊎◌, ◌≤◌, Bool, List, [], ◌++◌, length, Option, IsTrue}
use Rattle.row_types.specs.Row.{RowFacts}
use Rattle.index_keeper.specs.Store.{ShownStore}
use Rattle.index_keeper.specs.Tables.{AscendsByPath, EditFacts, KeptFacts}
use Rattle.index_rows.specs.declared.change.Change.{Change}
use Rattle.index_rows.specs.declared.rows.TheConstants.{LOG_LIMIT}
use Rattle.index_state.specs.Changes.{TellsSince}
use Rattle.index_state.specs.Kept.{IsNext, tables_of_rows}
use Rattle.index_state.specs.Opening.{AreRows, LacksStrays, current, made_swept}

-- the values that the store gave as it was opened, by path; where it tells they are its tables
pub record GivesValues (told : Bool) (before : ShownStore) (values : List KeptFacts) : Type 0 where
  pub by_path : AscendsByPath values
  pub tells : IsTrue told → values ≡ before.tables

-- the store held these rows, of whatever edition, and nothing else; not too many are of the edition
pub record StoreHoldsRows (told : Bool) (before : ShownStore) (rows : List RowFacts) : Type 0 where
  pub values : List KeptFacts
  pub gave : GivesValues told before values
  pub sound : AreRows rows values
  pub few : length (current rows) ≤ LOG_LIMIT

-- the store has what it had
pub record KeepsStore (told : Bool) (before after : ShownStore) : Type 0 where
  pub tables : IsTrue told → after.tables ≡ before.tables
  pub made : after.made ≡ before.made

-- the values that the store gave are rows, of which these are the first by path
pub record AreFirstGiven (told : Bool) (before : ShownStore) (first : List RowFacts) : Type 0 where
  pub values : List KeptFacts
  pub gave : GivesValues told before values
  pub last : List RowFacts
  pub sound : AreRows (first ++ last) values

-- of what the store had only rows of other editions may be missing, the first by path, and nothing else was done: it made
-- the removals of those among the first rows that it gave, or none
pub record LacksFirst (told : Bool) (before after : ShownStore) : Type 0 where
  pub tables : IsTrue told → (after.tables ≡ before.tables) ⊎ LacksStrays before.tables after.tables
  pub removed : List RowFacts
  pub front : (removed ≡ []) ⊎ AreFirstGiven told before removed
  pub made : after.made ≡ made_swept removed before.made

-- the store has these rows, and nothing else
abbrev pub HasRows : Bool → ShownStore → List RowFacts → Type 0
HasRows told after rows = IsTrue told → after.tables ≡ tables_of_rows rows

-- the tables are those of the rows with one change: a put of a true row, or a removal
pub record HasOneChange (true_row : RowFacts → Type 0) (tables : List KeptFacts)
    (rows : List RowFacts) : Type 0 where
  pub change : Change
  pub next : IsNext true_row change rows tables

-- the store has these rows, with or without the one change that a failed call was to make
abbrev pub MayHaveRows : (RowFacts → Type 0) → Bool → ShownStore → List RowFacts → Type 0
MayHaveRows true_row told after rows =
    IsTrue told → (after.tables ≡ tables_of_rows rows) ⊎ HasOneChange true_row after.tables rows

-- the store made these changes: the removals of the rows of other editions that were found, by path, and then puts of
-- true rows and removals, one for each of these
pub record MakesChanges (true_row : RowFacts → Type 0) (found : List RowFacts)
    (before after : Option (List EditFacts)) : Type 0 where
  pub changes : List Change
  pub each : TellsSince true_row changes (made_swept found before) after
