-- The state of an index (this project's rule): the rows with their log, the keeper of the store, the pass, if one
-- was begun, and what the opening left.
use Rattle.std.specs.Prelude.{ℕ, ◌-◌, Bool, true, false, List, [], length, take, Option, Some, None}
use Rattle.std.specs.Option.{option_map}
use Rattle.row_types.specs.Name.{NameFacts}
use Rattle.row_types.specs.Row.{RowFacts}
use Rattle.index_rows.specs.declared.change.Change.{Change}
use Rattle.scan_queue.specs.Pass.{PassFacts}
use Rattle.index_keeper.specs.Keeper.{ShownKeeper}
use Rattle.index_keeper.specs.Tables.{EditFacts}
use Rattle.index_state.specs.Spared.{Sparing, spared_by, sparing_at}
use Rattle.index_state.specs.declared.state.State.TheInside.{Inside}

-- what the opening left: the number of the keeper's opening, how many puts the log began with, and the changes of
-- the store by then, where the keeper tells them; and beside these the moment at which names were spared, if they were,
-- and the skipped names
pub record Origin : Type 0 where
  pub epoch : ℕ
  pub puts : ℕ
  pub made : Option (List EditFacts)
  pub sparing : Option Sparing
  pub spared : List NameFacts

-- the origin of an index of which no name was spared
abbrev pub unspared : Origin → Origin
unspared origin = record origin { sparing = None; spared = [] }

-- the rows in path order, the changes that made their names, the keeper, the pass, whether the index is broken, and its
-- origin
pub record StateFacts (K : Type 0) : Type 0 where
  pub rows : List RowFacts
  pub log : List Change
  pub keeper : K
  pub pass : Option PassFacts
  pub broken : Bool
  pub origin : Origin

-- the pass in which nothing is listed and no name stands
abbrev pub no_pass : PassFacts
no_pass = record { listing = []; marked = []; todo = []; out = []; groom = []; missed = []; filled = true }

-- the pass, if one was begun, else the one in which nothing is listed
abbrev pub pass_or_none : Option PassFacts → PassFacts
pass_or_none None = no_pass
pass_or_none (Some pass) = pass

-- the changes that stand: all but the last one of a broken index, which is void
abbrev pub lasting : Bool → List Change → List Change
lasting false log = log
lasting true log = take (length log - 1) log

-- the changes of the store by the opening, where each change since then made one more; they are cut from the keeper's own list, and
-- not kept beside it
abbrev pub made_first : ℕ → Option (List EditFacts) → Option (List EditFacts)
made_first since made = option_map (λ edits. take (length edits - since) edits) made

-- the state that is made of these fields
abbrev pub state_of : {W K : Type 0} → (K → ShownKeeper) → Inside W K → StateFacts K
state_of shows s = record {
  rows = s.rows.rows;
  log = s.rows.log;
  keeper = s.keeper;
  pass = s.pass;
  broken = s.broken;
  origin = record {
    epoch = s.epoch;
    puts = s.first_puts;
    made = made_first (length (lasting s.broken s.rows.log) - s.first_puts) (shows s.keeper).made;
    sparing = sparing_at (pass_or_none s.pass).listing s.spared_at;
    spared = spared_by s.rows.log (pass_or_none s.pass).listing s.spared_at;
  };
}
