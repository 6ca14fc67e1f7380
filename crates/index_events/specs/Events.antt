-- What comes of a list of events (this project's rule): each is a case of the index step, or a reopening, in which
-- the keeper is given back, the store is opened again, and the index on it.
use Rattle.std.specs.Prelude.{◌≡◌, ◌≢◌, ◌⊎◌, ℕ, Bool, List, [], ◌∷◌, ◌++◌, length, IsTrue}
use Rattle.row_types.specs.Row.{RowFacts}
use Rattle.index_keeper.specs.Keeper.{IsLeftAlone, ShownKeeper}
use Rattle.index_keeper.specs.Store.{OpensStore, ShownStore, TakesKeeperBack}
use Rattle.index_keeper.specs.declared.answer.StoreAnswer.{StoreAnswer}
use Rattle.index_keeper.specs.declared.answer.StoreAnswer.TheVariants.{Opened as StoreOpened, Failed as StoreFailed, OutOfMemory as StoreNoMemory}
use Rattle.index_state.specs.Invariant.{IndexInvariant}
use Rattle.index_state.specs.Opening.{CountsFault, Opens, RefusesOpening}
use Rattle.path_canon.specs.Scope.{scope_of}
use Rattle.path_canon.specs.Selected.{is_selected}
use Rattle.index_events.specs.Puts.{PutsLast}
use Rattle.index_state.specs.State.{StateFacts}
use Rattle.index_state.specs.Step.{IndexStep, begins, grooms, judges, looks, misses, publishes, retries, takes, to_begin, to_groom, to_judge, to_look, to_miss, to_publish, to_retry, to_take}
use Rattle.index_state.specs.declared.answer.Begun.TheVariants.{OutOfMemory as BegunNoMemory}
use Rattle.index_state.specs.declared.answer.Judged.TheVariants.{OutOfMemory as JudgedNoMemory}
use Rattle.index_state.specs.declared.answer.Published.TheVariants.{OutOfMemory as PublishedNoMemory}
use Rattle.index_events.specs.declared.events.Event.{Event}
use Rattle.index_events.specs.declared.events.Event.TheVariants.{Begin, Take, Publish, GroomTake, Judge, Miss, Retry, Look, Reopen}
use Rattle.index_events.specs.declared.events.EventAnswer.{EventAnswer}
use Rattle.index_events.specs.declared.events.EventAnswer.TheVariants.{Begin as BeginSaid, Take as TakeSaid, Publish as PublishSaid, GroomTake as GroomSaid, Judge as JudgeSaid, Miss as MissSaid, Retry as RetrySaid, Look as LookSaid, Opened}
use Rattle.index_events.specs.declared.events.EventsEnd.{EventsEnd}
use Rattle.index_events.specs.declared.events.EventsEnd.TheVariants.{All as AllDone, Stopped, Unopened}
use Rattle.index_state.specs.declared.open_fault.OpenFault.{OpenFault}
use Rattle.index_state.specs.declared.open_fault.OpenFault.TheVariants.{KeeperFault, OutOfMemory}

-- an index, and what the store of its keeper shows
pub record StoredIndex (K : Type 0) : Type 0 where
  pub index : StateFacts K
  pub store : ShownStore

-- the event and its answer are a case of the index step
abbrev pub Happens : {W K : Type 0} → Bool → (K → ShownKeeper) → StateFacts K → Event W → EventAnswer → StateFacts K → Type 0
Happens told shows old (Begin listing roots select) (BeginSaid begun) new = IndexStep told shows old (begins listing (scope_of roots.items (is_selected select))) (to_begin begun) new
Happens told shows old Take (TakeSaid name) new = IndexStep told shows old takes (to_take name) new
Happens told shows old (Publish row) (PublishSaid said) new = IndexStep told shows old (publishes row) (to_publish said) new
Happens told shows old GroomTake (GroomSaid task) new = IndexStep told shows old grooms (to_groom task) new
Happens told shows old (Judge name seen) (JudgeSaid said) new = IndexStep told shows old (judges name seen) (to_judge said) new
Happens told shows old (Miss name cause) (MissSaid was_out) new = IndexStep told shows old (misses name cause) (to_miss was_out) new
Happens told shows old Retry (RetrySaid count) new = IndexStep told shows old retries (to_retry count) new
Happens told shows old (Look id kind) (LookSaid paths) new = IndexStep told shows old (looks id kind) (to_look paths.items) new
Happens told shows old _ _ new = ⊥

-- the answer isn't want of memory
abbrev pub HasMemory : EventAnswer → Type 0
HasMemory (BeginSaid begun) = begun ≢ BegunNoMemory
HasMemory (PublishSaid said) = said ≢ PublishedNoMemory
HasMemory (JudgeSaid said) = said ≢ JudgedNoMemory
HasMemory _ = Unit {0}

-- the event happened to the index, which answered this
pub record AnswersEvent {W K : Type 0} (told : Bool) (shows : K → ShownKeeper) (old : StateFacts K) (event : Event W) (answer : EventAnswer) (new : StateFacts K) : Type 0 where
  pub step : Happens told shows old event answer new
  pub said : HasMemory answer

-- memory was wanting: the index is as it was, and so is all that contracts know of its keeper
pub record EventWantsMemory {K : Type 0} (told : Bool) (shows : K → ShownKeeper) (old new : StateFacts K) : Type 0 where
  pub keeper : IsLeftAlone told (shows old.keeper) (shows new.keeper)
  pub same : new ≡ record old { keeper = new.keeper }

-- the event wants memory: its call says so, which is a case of the index step, or the copies of names that are to be
-- tried again, or of the paths that were found, could not be made. No other event does: a reopening is refused
abbrev pub MeetsWant : {W K : Type 0} → Bool → (K → ShownKeeper) → StateFacts K → Event W → StateFacts K → Type 0
MeetsWant told shows old (Begin listing roots select) new = IndexStep told shows old (begins listing (scope_of roots.items (is_selected select))) (to_begin BegunNoMemory) new
MeetsWant told shows old (Publish row) new = IndexStep told shows old (publishes row) (to_publish PublishedNoMemory) new
MeetsWant told shows old (Judge name seen) new = IndexStep told shows old (judges name seen) (to_judge JudgedNoMemory) new
MeetsWant told shows old Retry new = new ≡ old
MeetsWant told shows old (Look id kind) new = new ≡ old
MeetsWant told shows old _ new = ⊥

-- memory was wanting for the event, and the index is as it was
pub record WantsFor {W K : Type 0} (told : Bool) (shows : K → ShownKeeper) (old : StateFacts K) (event : Event W) (new : StateFacts K) : Type 0 where
  pub wants : EventWantsMemory told shows old new
  pub meets : MeetsWant told shows old event new

-- an event of the index alone, at which its store shows what it showed
pub record Calls {W K : Type 0} (told : Bool) (shows : K → ShownKeeper) (old : StoredIndex K) (event : Event W) (answer : EventAnswer) (new : StoredIndex K) : Type 0 where
  pub answered : AnswersEvent told shows old.index event answer new.index
  pub store : new.store ≡ old.store

-- the keeper was given back, the store was opened again, and so was the index on it
pub record Reopens {K : Type 0} (told : Bool) (shows : K → ShownKeeper) (path : List ℕ) (old new : StoredIndex K) : Type 0 where
  pub held : ShownStore
  pub keeper : K
  pub back : TakesKeeperBack told (shows old.index.keeper) old.store held
  pub opened : OpensStore told shows path held new.store (StoreOpened keeper)
  pub index : Opens told shows keeper new.index

-- a reopening, and its answer
pub record IsReopening {W K : Type 0} (told : Bool) (shows : K → ShownKeeper) (path : List ℕ) (old : StoredIndex K) (event : Event W) (answer : EventAnswer) (new : StoredIndex K) : Type 0 where
  pub event_is : event ≡ Reopen
  pub answer_is : answer ≡ Opened
  pub reopens : Reopens told shows path old new

-- the event happened, this was answered, and what stood became what stands, of which the index invariant holds
pub record EventStep {W K : Type 0} (true_row : RowFacts → Type 0) (told : Bool) (shows : K → ShownKeeper) (path : List ℕ) (old : StoredIndex K) (event : Event W) (answer : EventAnswer) (new : StoredIndex K) : Type 0 where
  pub step : Calls told shows old event answer new ⊎ IsReopening told shows path old event answer new
  pub holds : IndexInvariant true_row told shows new.index

-- the events happened one after the other, each with its answer
abbrev pub RunsTo : {W K : Type 0} → (RowFacts → Type 0) → Bool → (K → ShownKeeper) → List ℕ → StoredIndex K → List (Event W) → List EventAnswer → StoredIndex K → Type 0
RunsTo true_row told shows path old [] [] new = new ≡ old
RunsTo true_row told shows path old (event ∷ events) (answer ∷ answers) new =
    (middle : _) × EventStep true_row told shows path old event answer middle × RunsTo true_row told shows path middle events answers new
RunsTo true_row told shows path old _ _ new = ⊥

-- of the events all but the last ones happened, and were answered so
pub record RunsFirst {W K : Type 0} (true_row : RowFacts → Type 0) (told : Bool) (shows : K → ShownKeeper) (path : List ℕ) (old : StoredIndex K) (events : List (Event W)) (answers : List EventAnswer) (rest : List (Event W)) (new : StoredIndex K) : Type 0 where
  pub first : List (Event W)
  pub parts : events ≡ first ++ rest
  pub run : RunsTo true_row told shows path old first answers new

-- no event happened yet
pub record IsUnbegun {K : Type 0} (answers : List EventAnswer) (old new : StateFacts K) : Type 0 where
  pub none : answers ≡ []
  pub same : new ≡ old

-- the first events happened, so many; memory was wanting for the next one, or, before the first, for the answers; rows
-- that were put last
pub record StopsAfter {W K : Type 0} (true_row : RowFacts → Type 0) (told : Bool) (shows : K → ShownKeeper) (path : List ℕ) (old : StoredIndex K) (events : List (Event W)) (done : ℕ) (new : StoredIndex K) : Type 0 where
  pub answers : List EventAnswer
  pub next : Event W
  pub rest : List (Event W)
  pub count : done ≡ length answers
  pub last : StateFacts K
  pub runs : RunsFirst true_row told shows path old events answers (next ∷ rest) (record { index = last; store = new.store })
  pub wants : EventWantsMemory told shows last new.index
  pub why : IsUnbegun answers last new.index ⊎ MeetsWant told shows last next new.index
  pub lasts : IsTrue told → PutsLast shows runs.first answers new.index

-- the fault that stands for a store's answer
abbrev pub IsStoreFault : {K : Type 0} → OpenFault → StoreAnswer K → Type 0
IsStoreFault KeeperFault StoreFailed = Unit {0}
IsStoreFault OutOfMemory StoreNoMemory = Unit {0}
IsStoreFault _ _ = ⊥

-- the store wasn't opened
pub record StaysShut {K : Type 0} (told : Bool) (shows : K → ShownKeeper) (path : List ℕ) (before after : ShownStore) (fault : OpenFault) : Type 0 where
  pub answer : StoreAnswer K
  pub opened : OpensStore told shows path before after answer
  pub why : IsStoreFault fault answer

-- the index wasn't opened on the keeper, which went back to its store
pub record GoesBack {K : Type 0} (told : Bool) (shows : K → ShownKeeper) (keeper : K) (before after : ShownStore) (fault : OpenFault) : Type 0 where
  pub given : K
  pub why : RefusesOpening told shows keeper fault given
  pub counts : CountsFault (shows keeper) (shows given) fault
  pub back : TakesKeeperBack told (shows given) before after

-- the store was opened, but the index on it wasn't
pub record IsIndexRefused {K : Type 0} (told : Bool) (shows : K → ShownKeeper) (path : List ℕ) (before after : ShownStore) (fault : OpenFault) : Type 0 where
  pub keeper : K
  pub lent : ShownStore
  pub opened : OpensStore told shows path before lent (StoreOpened keeper)
  pub goes : GoesBack told shows keeper lent after fault

-- the keeper was given back, and store or index weren't opened again
pub record StaysClosed {K : Type 0} (told : Bool) (shows : K → ShownKeeper) (path : List ℕ) (old : StoredIndex K) (after : ShownStore) (fault : OpenFault) : Type 0 where
  pub held : ShownStore
  pub back : TakesKeeperBack told (shows old.index.keeper) old.store held
  pub why : StaysShut told shows path held after fault ⊎ IsIndexRefused told shows path held after fault

-- the first events happened, so many; the next one is a reopening that was refused
pub record ClosesAfter {W K : Type 0} (true_row : RowFacts → Type 0) (told : Bool) (shows : K → ShownKeeper) (path : List ℕ) (old : StoredIndex K) (events : List (Event W)) (done : ℕ) (fault : OpenFault) (after : ShownStore) : Type 0 where
  pub answers : List EventAnswer
  pub rest : List (Event W)
  pub count : done ≡ length answers
  pub last : StoredIndex K
  pub runs : RunsFirst true_row told shows path old events answers (Reopen ∷ rest) last
  pub refused : StaysClosed told shows path last after fault

-- what comes of the events
abbrev pub EndsEvents : {W K : Type 0} → (RowFacts → Type 0) → Bool → (K → ShownKeeper) → List ℕ → StoredIndex K → List (Event W) → EventsEnd W K → ShownStore → Type 0
EndsEvents true_row told shows path old events (AllDone index answers) store = RunsTo true_row told shows path old events answers.items (record { index = index; store = store })
EndsEvents true_row told shows path old events (Stopped index done) store = StopsAfter true_row told shows path old events done (record { index = index; store = store })
EndsEvents true_row told shows path old events (Unopened done fault) store = ClosesAfter true_row told shows path old events done fault store

-- a reopening met a keeper's or a store's fault
abbrev pub MeetsFault : {W K : Type 0} → EventsEnd W K → Type 0
MeetsFault (Unopened done KeeperFault) = Unit {0}
MeetsFault _ = ⊥
