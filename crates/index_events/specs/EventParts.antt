-- What came of one event (this project's rule).
use Rattle.std.specs.Prelude.{◌≡◌, ℕ, Bool, List}
use Rattle.row_types.specs.Row.{RowFacts}
use Rattle.index_keeper.specs.Keeper.{ShownKeeper}
use Rattle.index_keeper.specs.Store.{ShownStore}
use Rattle.index_events.specs.Events.{AnswersEvent, EventStep, StaysClosed, StoredIndex, WantsFor}
use Rattle.index_state.specs.Invariant.{IndexInvariant}
use Rattle.index_state.specs.State.{StateFacts}
use Rattle.index_events.specs.declared.events.Event.{Event}
use Rattle.index_events.specs.declared.events.Event.TheVariants.{Reopen}
use Rattle.index_events.specs.declared.events.EventAnswer.{EventAnswer}
use Rattle.index_state.specs.declared.open_fault.OpenFault.{OpenFault}
use Rattle.index_events.specs.declared.running.Came.{Came}
use Rattle.index_events.specs.declared.running.Came.TheVariants.{Answer, NoMemory, Unopened}

-- the event was answered, and the index invariant holds of the index
pub record IsEventAnswered {W K : Type 0} (true_row : RowFacts → Type 0) (told : Bool) (shows : K → ShownKeeper) (old : StateFacts K) (event : Event W) (new : StateFacts K) (answer : EventAnswer) : Type 0 where
  pub answered : AnswersEvent told shows old event answer new
  pub holds : IndexInvariant true_row told shows new

-- what came of an event that is no reopening
abbrev pub Called : {W K : Type 0} → (RowFacts → Type 0) → Bool → (K → ShownKeeper) → StateFacts K → Event W → Came W K → Type 0
Called true_row told shows old event (Answer new answer) = IsEventAnswered true_row told shows old event new answer
Called true_row told shows old event (NoMemory new) = WantsFor told shows old event new
Called true_row told shows old event (Unopened fault) = ⊥

-- memory was wanting for the event, and nothing happened
pub record Waits {W K : Type 0} (told : Bool) (shows : K → ShownKeeper) (old : StoredIndex K) (event : Event W) (new : StoredIndex K) : Type 0 where
  pub wants : WantsFor told shows old.index event new.index
  pub store : new.store ≡ old.store

-- the event is a reopening, and was refused
pub record ClosesIndex {W K : Type 0} (told : Bool) (shows : K → ShownKeeper) (path : List ℕ) (old : StoredIndex K) (event : Event W) (after : ShownStore) (fault : OpenFault) : Type 0 where
  pub asked : event ≡ Reopen
  pub closed : StaysClosed told shows path old after fault

-- what came of an event
abbrev pub ComesOfEvent : {W K : Type 0} → (RowFacts → Type 0) → Bool → (K → ShownKeeper) → List ℕ → StoredIndex K → Event W → Came W K → ShownStore → Type 0
ComesOfEvent true_row told shows path old event (Answer new answer) store = EventStep true_row told shows path old event answer (record { index = new; store = store })
ComesOfEvent true_row told shows path old event (NoMemory new) store = Waits told shows old event (record { index = new; store = store })
ComesOfEvent true_row told shows path old event (Unopened fault) store = ClosesIndex told shows path old event store fault
