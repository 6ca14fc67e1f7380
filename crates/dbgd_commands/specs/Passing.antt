-- The pass of a scan, by the index that makes it (this crate's bookkeeping, which no public clause cites).
use Rattle.std.specs.Prelude.{◌≡◌, Bool, List, drop, length, IsTrue}
use Rattle.path_scope.specs.Scope.{Scope}
use Rattle.row_types.specs.Canon.{IsCanonPath}
use Rattle.row_types.specs.Name.{NameFacts}
use Rattle.index_keeper.specs.Keeper.{ShownKeeper}
use Rattle.index_keeper.specs.Store.{HasAll, ShownStore, TakesKeeperBack}
use Rattle.index_rows.specs.Rows.{row_names}
use Rattle.index_state.specs.Invariant.{IndexInvariant}
use Rattle.index_state.specs.Opening.{Opens}
use Rattle.index_state.specs.State.{StateFacts}
use Rattle.pass_runner.specs.Owned.{EndsPass, HandsGo, Helps, LoadsBeside, is_unwalked}
use Rattle.pass_runner.specs.declared.pass_end.PassEnd.{PassEnd}
use Rattle.pass_runner.specs.declared.pass_end.PassEnd.TheVariants.{Missed}
use Rattle.dbgd_commands.specs.Stage.{Setting}

-- the path of a name that was missed is one that is kept
abbrev pub HasMissedPath : PassEnd → Type 0
HasMissedPath (Missed miss) = IsCanonPath miss.name.path
HasMissedPath _ = Unit {0}

-- the index made its pass with these hands, and then handed its keeper out
pub record ScansIndex {K T : Type 0} (s : Setting T) (shows : K → ShownKeeper)
    (scope : Scope) (before after : List T) (old : StateFacts K) (keeper : K)
    (end : PassEnd) : Type 0 where
  pub new : StateFacts K
  pub value : keeper ≡ new.keeper
  pub path : HasMissedPath end
  pub holds : IndexInvariant s.world.true_row s.tells_tables shows new
  pub pass :
      (listing : List NameFacts) × HandsGo
      (λ hand later. EndsPass s.world s.tells_files s.tells_tables shows (length before) scope
      listing (s.sees hand) (s.sees later) old new end)
      (λ hand later. Helps s.tells_files s.world.version listing (row_names old.rows)
      (s.sees hand) (s.sees later)) before after
  pub idle : IsTrue (is_unwalked end) → drop 1 after ≡ drop 1 before
  pub loads : LoadsBeside s.sees before after end

-- the index was opened on the keeper of a store, and in the end the store had its keeper back
pub record IsLent {K : Type 0} (told : Bool) (shows : K → ShownKeeper) (from into : ShownStore)
    (keeper : K) (old new : StateFacts K) : Type 0 where
  pub opens : Opens told shows keeper old
  pub has : HasAll told from (shows keeper)
  pub mid : ShownStore
  pub back : TakesKeeperBack told (shows new.keeper) mid into
