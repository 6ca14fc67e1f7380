-- One hold of a lock (this project's rule): the value had gone on from what the token had seen, something was done to it, and
-- the token that comes back has seen the log that this left. Of an index that is one event.
use Rattle.std.specs.Prelude.{◌≡◌, ℕ, Bool, List, Result, MatchResult}
use mathlib.Core.List.{IsPrefix}
use Rattle.row_types.specs.Row.{RowFacts}
use Rattle.index_keeper.specs.Keeper.{ShownKeeper}
use Rattle.index_lock.specs.Tokens.{IsLater, SeatFacts}
use Rattle.index_rows.specs.declared.change.Change.{Change}
use Rattle.index_state.specs.Invariant.{IndexInvariant}
use Rattle.index_state.specs.State.{Origin, StateFacts}
use Rattle.index_state.specs.Step.{Answer, Event, IndexStep, retries, to_retry}

-- this was done to a value with a log and an origin in one hold of its lock, by a token, which comes back as a later one
pub record Holds {S E O : Type 0} (log : S → List E) (origin : S → O) (Does : S → S → Type 0)
    (seat later_seat : SeatFacts E O) : Type 0 where
  pub old : S
  pub new : S
  -- the value had gone on from what the token had seen, and came from where the token says
  pub began : IsPrefix seat.seen (log old)
  pub from : origin old ≡ seat.origin
  pub does : Does old new
  -- its log goes on, and its origin stays
  pub grows : IsPrefix (log old) (log new)
  pub stays : origin new ≡ origin old
  -- the token is of the same lock, and has seen the log that was left
  pub later : IsLater seat later_seat
  pub seen : later_seat.seen ≡ log new

-- the log goes on, and the origin stays
pub record LogGoesOn {K : Type 0} (old new : StateFacts K) : Type 0 where
  pub log : IsPrefix old.log new.log
  pub origin : new.origin ≡ old.origin

-- something was done to an index, of which holds what holds of an index at every moment
pub record DoneTo {K : Type 0} (true_row : RowFacts → Type 0) (told : Bool) (shows : K → ShownKeeper)
    (Does : StateFacts K → StateFacts K → Type 0) (old new : StateFacts K) : Type 0 where
  pub does : Does old new
  pub holds : IndexInvariant true_row told shows new

-- in one hold of an index
abbrev pub HoldsIndex : {K : Type 0} → (RowFacts → Type 0) → Bool → (K → ShownKeeper)
    → (StateFacts K → StateFacts K → Type 0) → SeatFacts Change Origin → SeatFacts Change Origin → Type 0
HoldsIndex {K} true_row told shows Does seat later_seat =
    Holds (λ (s : StateFacts K). s.log) (λ (s : StateFacts K). s.origin) (DoneTo true_row told shows Does) seat later_seat

-- an event of an index happened in one hold, and this was answered
abbrev pub HoldsEvent : {K : Type 0} → (RowFacts → Type 0) → Bool → (K → ShownKeeper) → Event → Answer
    → SeatFacts Change Origin → SeatFacts Change Origin → Type 0
HoldsEvent true_row told shows event answer seat later_seat =
    HoldsIndex true_row told shows (λ old new. IndexStep told shows old event answer new) seat later_seat

-- the names that are out or missed are tried again, or memory for their copies was refused, and the index stays
abbrev pub RetriesAll : {K E : Type 0} → Bool → (K → ShownKeeper) → Result ℕ E → StateFacts K → StateFacts K → Type 0
RetriesAll told shows answer old new =
    MatchResult answer (λ count. IndexStep told shows old retries (to_retry count) new) (λ _. new ≡ old)
