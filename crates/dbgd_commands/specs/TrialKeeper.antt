-- The store of a trial (this project's rule): one in memory that never fails.
use Rattle.std.specs.Prelude.{◌≡◌, false, [], None}
use Rattle.index_keeper.specs.Keeper.{ShownKeeper}
use Rattle.index_keeper.specs.MemKeeper.{MemKeeperFacts, shown_of}
use Rattle.index_keeper.specs.Plan.{PlanFacts}

-- no call fails, now or later
pub record NeverFails (plan : PlanFacts) : Type 0 where
  pub stop_at : plan.stop_at ≡ None
  pub bad_calls : plan.bad_calls ≡ []
  pub stopped : plan.stopped ≡ false

-- what the keeper shows: all of it; no call ever fails
abbrev pub shown_sure : MemKeeperFacts → ShownKeeper
shown_sure keeper = record (shown_of keeper) { faults = 0 }

-- it keeps nothing, and has made no change
pub record IsNewKeeper (keeper : MemKeeperFacts) : Type 0 where
  pub tables : keeper.shelf.tables ≡ []
  pub made : keeper.shelf.made ≡ []
  pub sound : keeper.doubt ≡ None
