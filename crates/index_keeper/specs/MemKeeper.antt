-- The keeper in memory (this project's rule): it fails by its plan, and else does what it answers.
use Rattle.std.specs.Prelude.{◌≡◌, ◌⊎◌, ◌↔◌, ℕ, Bool, List, Option, Some, None, MatchOption, MatchBool}
use Rattle.row_types.specs.Faults.{raised}
use Rattle.index_keeper.specs.Answers.{Asked, for_change, for_rows, keeper_failed, keeper_wants_memory}
use Rattle.index_keeper.specs.Keeper.{ShownKeeper}
use Rattle.index_keeper.specs.Plan.{call_fails}
use Rattle.index_keeper.specs.Shelf.{ShelfFacts, after_asking, after_making, after_tearing, doubt_of}
use Rattle.index_keeper.specs.Tables.{KeptFacts, EditFacts, edited}
use Rattle.index_keeper.specs.declared.answer.KeepAnswer.TheVariants.{Done, Failed}
use Rattle.index_keeper.specs.declared.answer.KeptAnswer.TheVariants.{All as AllRows, Failed as RowsFailed}

-- what is kept; after a change that failed, the change that leads to the other tables that a crash may leave; the
-- count of faults; the number of the opening
pub record MemKeeperFacts : Type 0 where
  pub shelf : ShelfFacts
  pub doubt : Option EditFacts
  pub faults : ℕ
  pub epoch : ℕ

-- a keeper as it is opened
abbrev pub opened_keeper : ShelfFacts → ℕ → MemKeeperFacts
opened_keeper shelf epoch = record { shelf = shelf; doubt = None; faults = 0; epoch = epoch }

-- a crash now may leave this
abbrev pub IsImage : MemKeeperFacts → List KeptFacts → Type 0
IsImage keeper image = MatchOption keeper.doubt (image ≡ keeper.shelf.tables) (λ doubt. (image ≡ keeper.shelf.tables) ⊎ (image ≡ edited keeper.shelf.tables doubt))

-- what the keeper shows: all of it
abbrev pub shown_of : MemKeeperFacts → ShownKeeper
shown_of keeper = record {
  tables = keeper.shelf.tables;
  images = IsImage keeper;
  made = Some keeper.shelf.made;
  faults = keeper.faults;
  epoch = keeper.epoch;
}

-- the keeper after it was asked, by the answer
abbrev pub keeper_after : MemKeeperFacts → Asked → MemKeeperFacts
keeper_after keeper (for_rows (AllRows rows)) = record keeper { shelf = after_asking keeper.shelf }
keeper_after keeper (for_rows RowsFailed) = record keeper { shelf = after_asking keeper.shelf; faults = raised keeper.faults }
keeper_after keeper (for_change edit Done) = record keeper { shelf = after_making keeper.shelf edit; doubt = None }
keeper_after keeper (for_change edit Failed) = record keeper { shelf = after_tearing keeper.shelf edit; doubt = Some (doubt_of keeper.shelf edit); faults = raised keeper.faults }
keeper_after keeper _ = keeper

-- the rows that are given are all that are kept; after a change that failed a crash may leave the tables before it
-- and those after it, and no others
abbrev pub TellsAllKept : MemKeeperFacts → MemKeeperFacts → Asked → Type 0
TellsAllKept before after (for_rows (AllRows rows)) = rows.items ≡ before.shelf.tables
TellsAllKept before after (for_change edit Failed) =
    (image : List KeptFacts) → IsImage after image ↔ ((image ≡ before.shelf.tables) ⊎ (image ≡ edited before.shelf.tables edit))
TellsAllKept before after _ = Unit {0}

-- it fails exactly where that is planned, want of memory apart
abbrev pub FailsWhere : Bool → Asked → Type 0
FailsWhere planned asked = MatchBool (keeper_wants_memory asked) (Unit {0}) (keeper_failed asked ≡ planned)

-- the keeper was asked, and answered: it fails where that is planned, and all that comes of the answer
pub record Does (planned : Bool) (before after : MemKeeperFacts) (asked : Asked) : Type 0 where
  pub fails : FailsWhere planned asked
  pub state : after ≡ keeper_after before asked
  pub tells : TellsAllKept before after asked

-- the same, where its plan says what is planned
abbrev pub GoesByPlan : MemKeeperFacts → MemKeeperFacts → Asked → Type 0
GoesByPlan before after asked = Does (call_fails before.shelf.plan) before after asked
