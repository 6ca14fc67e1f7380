-- Keepers (this project's rule): the tables as they are, and those that a crash now may leave. A crash within a
-- call is a call that fails, after which the keeper is given back and the store is opened again.
use Rattle.std.specs.Prelude.{◌≡◌, ◌⊎◌, ◌↔◌, ℕ, Bool, false, List, [], ◌∷◌, ◌++◌, Option, option_map, All, IsTrue}
use Rattle.row_types.specs.Faults.{HasCause}
use Rattle.row_types.specs.Row.{RowFacts}
use Rattle.index_keeper.specs.Answers.{Asked, for_rows, for_change, keeper_failed}
use Rattle.index_keeper.specs.Tables.{AscendsByPath, KeptFacts, EditFacts, edited}
use Rattle.index_keeper.specs.TrueRows.{IsTrueKept}
use Rattle.index_keeper.specs.declared.answer.KeepAnswer.TheVariants.{Done, Failed}
use Rattle.index_keeper.specs.declared.answer.KeptAnswer.TheVariants.{All as AllRows}

-- what a keeper shows at a moment: the tables, and those that a crash now may leave; the changes of the store that
-- were answered Done, in order, those before its opening among them; how often a call failed; the opening's number
pub record ShownKeeper : Type 1 where
  pub tables : List KeptFacts
  pub images : List KeptFacts → Type 0
  pub made : Option (List EditFacts)
  pub faults : ℕ
  pub epoch : ℕ

-- a crash now leaves the tables as they are
pub record AreTablesSettled (shown : ShownKeeper) : Type 0 where
  pub left : shown.images shown.tables
  pub only : (image : List KeptFacts) → shown.images image → image ≡ shown.tables

-- the tables have the change, and a crash now leaves them as they are
pub record IsMade (edit : EditFacts) (before after : ShownKeeper) : Type 0 where
  pub changed : after.tables ≡ edited before.tables edit
  pub settled : AreTablesSettled after

-- the tables are those before the change or those after it, and so is what a crash now may leave. That a crash may leave the tables
-- after it is said of the keeper in memory alone: one whose failed change is surely undone leaves those before it and nothing else
pub record IsTorn (edit : EditFacts) (before after : ShownKeeper) : Type 0 where
  pub now : after.images after.tables
  pub without : after.images before.tables
  pub each : (image : List KeptFacts) → after.images image → (image ≡ before.tables) ⊎ (image ≡ edited before.tables edit)

-- the tables are as they were, and so is what a crash may leave
pub record AreTablesUntouched (before after : ShownKeeper) : Type 0 where
  pub same : after.tables ≡ before.tables
  pub left : (image : List KeptFacts) → after.images image ↔ before.images image

-- the rows are the tables, which are as they were
pub record AreTables (rows : List KeptFacts) (before after : ShownKeeper) : Type 0 where
  pub whole : rows ≡ after.tables
  pub stays : AreTablesUntouched before after

-- what the answer says of the tables, where they are told
abbrev pub TellsTables : ShownKeeper → ShownKeeper → Asked → Type 0
TellsTables before after (for_rows (AllRows rows)) = AreTables rows.items before after
TellsTables before after (for_change edit Done) = IsMade edit before after
TellsTables before after (for_change edit Failed) = IsTorn edit before after
TellsTables before after _ = AreTablesUntouched before after

-- the changes that were answered Done, after one more answer
abbrev pub made_after : Option (List EditFacts) → Asked → Option (List EditFacts)
made_after made (for_change edit Done) = option_map (λ edits. edits ++ edit ∷ []) made
made_after made _ = made

-- a keeper was asked, and answered: its count rises where it failed, and nowhere else
pub record AsksKeeper (told : Bool) (before after : ShownKeeper) (asked : Asked) : Type 0 where
  pub tells : IsTrue told → TellsTables before after asked
  pub grows : after.made ≡ made_after before.made asked
  pub cause : HasCause before.faults after.faults (IsTrue (keeper_failed asked))
  pub faultless : keeper_failed asked ≡ false → after.faults ≡ before.faults
  pub number : after.epoch ≡ before.epoch

-- nothing came of it, whether the keeper was asked or not
pub record IsLeftAlone (told : Bool) (before after : ShownKeeper) : Type 0 where
  pub tells : IsTrue told → AreTablesUntouched before after
  pub stays : after.made ≡ before.made
  pub faultless : after.faults ≡ before.faults
  pub number : after.epoch ≡ before.epoch

-- rows that a keeper may give, told or not: strictly by path, and those that spell a row of the edition a true one
pub record AreRowsKept (true_row : RowFacts → Type 0) (rows : List KeptFacts) : Type 0 where
  pub ascend : AscendsByPath rows
  pub holds : All (IsTrueKept true_row) rows
