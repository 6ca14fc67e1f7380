-- Events one after the other.
use Rattle.std.proofs.Common.{◌≡◌, ◌⊎◌, inl, inr, ℕ, ◌≤◌, Bool, List, [], ◌∷◌, ◌++◌, length, refl, sym, ◌∙◌, ap, subst, arith, append_assoc}
use Rattle.std.specs.Prelude.{reverse, IsTrue}
use Rattle.std.proofs.lemmas.List.{append-nil, reverse-append}
use Rattle.row_types.specs.Faults.{HasCause, Rose, summed}
use Rattle.row_types.specs.Row.{RowFacts}
use Rattle.index_keeper.specs.Keeper.{IsLeftAlone, ShownKeeper}
use Rattle.index_keeper.specs.Store.{OpensStore, ShownStore}
use Rattle.index_keeper.specs.declared.answer.StoreAnswer.{StoreAnswer}
use Rattle.index_keeper.specs.declared.answer.StoreAnswer.TheVariants.{Failed as StoreFailed, OutOfMemory as StoreNoMemory}
use Rattle.index_events.specs.EventParts.{ClosesIndex, Waits}
use Rattle.index_events.specs.Events.{Calls, ClosesAfter, EventStep, IsIndexRefused, IsReopening, IsStoreFault, MeetsFault, RunsFirst, RunsTo, StaysClosed, StaysShut, StopsAfter, StoredIndex, EventWantsMemory}
use Rattle.index_events.specs.Puts.{PutsLast}
use Rattle.index_state.specs.State.{StateFacts}
use Rattle.index_events.specs.declared.events.Event.{Event}
use Rattle.index_events.specs.declared.events.EventAnswer.{EventAnswer}
use Rattle.index_events.specs.declared.events.EventsEnd.TheVariants.{Unopened}
use Rattle.index_state.specs.declared.open_fault.OpenFault.{OpenFault}
use Rattle.index_state.specs.declared.open_fault.OpenFault.TheVariants.{KeeperFault, BadRow, LogFull, OutOfMemory}

module _ {W K : Type 0} {true_row : RowFacts → Type 0} {told : Bool} {shows : K → ShownKeeper} {path : List ℕ} where
  -- one event more happened
  pub runs_more : (old : StoredIndex K) (events : List (Event W)) (answers : List EventAnswer) (middle : StoredIndex K) (event : Event W) (answer : EventAnswer) (new : StoredIndex K) → RunsTo true_row told shows path old events answers middle → EventStep true_row told shows path middle event answer new → RunsTo true_row told shows path old (events ++ event ∷ []) (answers ++ answer ∷ []) new
  runs_more old [] [] middle event answer new same step =
      (new, subst (λ (s : StoredIndex K). EventStep true_row told shows path s event answer new) same step, refl)
  runs_more old [] (a ∷ answers) middle event answer new h step = absurd h
  runs_more old (e ∷ events) [] middle event answer new h step = absurd h
  runs_more old (e ∷ events) (a ∷ answers) middle event answer new h step =
      (h.0, h.1, runs_more h.0 events answers middle event answer new h.2 step)

  pub first_more : {old middle new : StoredIndex K} {events rest : List (Event W)} {answers : List EventAnswer} {event : Event W} {answer : EventAnswer} → RunsFirst true_row told shows path old events answers (event ∷ rest) middle → EventStep true_row told shows path middle event answer new → RunsFirst true_row told shows path old events (answers ++ answer ∷ []) rest new
  first_more {old} {middle} {new} {events} {rest} {answers} {event} {answer} h step = record {
    first = h.first ++ event ∷ [];
    parts = h.parts ∙ sym (append_assoc h.first (event ∷ []) rest);
    run = runs_more old h.first answers middle event answer new h.run step;
  }

  -- none happened yet
  pub first_none : (old : StoredIndex K) (events : List (Event W)) → RunsFirst true_row told shows path old events [] events old
  first_none old events = record { first = []; parts = refl; run = refl }

  -- all happened
  pub first_all : {old new : StoredIndex K} {events : List (Event W)} {answers : List EventAnswer} → RunsFirst true_row told shows path old events answers [] new → RunsTo true_row told shows path old events answers new
  first_all {old} {new} {events} {answers} h =
      subst (λ (l : List (Event W)). RunsTo true_row told shows path old l answers new) (sym (h.parts ∙ append-nil h.first)) h.run

  -- the store's count never falls
  pub step_later : {old new : StoredIndex K} {event : Event W} {answer : EventAnswer} → EventStep true_row told shows path old event answer new → old.store.faults ≤ new.store.faults
  step_later {old} {new} {event} {answer} h = of_step h.step
    where
      of_step : Calls told shows old event answer new ⊎ IsReopening told shows path old event answer new → old.store.faults ≤ new.store.faults
      of_step (inl calls) = let same = ap (λ (s : ShownStore). s.faults) calls.store in omega arith
      of_step (inr again) =
          let back = again.reopens.back.later in
          let open_same = again.reopens.opened.faults in
          omega arith

module _ {W K : Type 0} (true_row : RowFacts → Type 0) (told : Bool) (shows : K → ShownKeeper) (path : List ℕ) where
  pub runs_later : (old : StoredIndex K) (events : List (Event W)) (answers : List EventAnswer) (new : StoredIndex K) → RunsTo true_row told shows path old events answers new → old.store.faults ≤ new.store.faults
  runs_later old [] [] new same = let e = ap (λ (s : StoredIndex K). s.store.faults) same in omega arith
  runs_later old [] (a ∷ answers) new h = absurd h
  runs_later old (e ∷ events) [] new h = absurd h
  runs_later old (e ∷ events) (a ∷ answers) new h =
      let first = step_later h.1 in
      let rest = runs_later h.0 events answers new h.2 in
      omega arith

-- a keeper of which nothing is asked is left alone
pub alone_self : (told : Bool) (shown : ShownKeeper) → IsLeftAlone told shown shown
alone_self told shown = record {
  tells = λ tells. record { same = refl; left = λ image. (λ h. h, λ h. h) };
  stays = refl;
  faultless = refl;
  number = refl;
}

pub wants_self : {K : Type 0} (told : Bool) (shows : K → ShownKeeper) (state : StateFacts K) → EventWantsMemory told shows state state
wants_self told shows state = record { keeper = alone_self told (shows state.keeper); same = refl }

-- a count that a call raised from nothing is added to an other
pub raised_sum : (before lent given after : ℕ) → lent ≡ before → Rose 0 given → after ≡ summed lent given → Rose before after
raised_sum before lent given after same rose sum = omega arith

module _ {K : Type 0} (told : Bool) (shows : K → ShownKeeper) (path : List ℕ) where
  -- the count of a store that isn't opened rises where it failed
  shut_counts : (before after : ShownStore) (fault : OpenFault) (answer : StoreAnswer K) → OpensStore told shows path before after answer → IsStoreFault fault answer → HasCause before.faults after.faults (fault ≡ KeeperFault)
  shut_counts before after KeeperFault StoreFailed opened why = record { later = opened.faults; rose = λ _. opened.cause }
  shut_counts before after OutOfMemory StoreNoMemory opened why =
      let same = ap (λ (s : ShownStore). s.faults) opened in
      record { later = omega arith; rose = λ e. absurd (no_fault e) }
    where
      no_fault : OutOfMemory ≡ KeeperFault → ⊥
      no_fault e = cc
  shut_counts before after _ _ opened why = absurd why

  refused_counts : (before after : ShownStore) (fault : OpenFault) → IsIndexRefused told shows path before after fault → HasCause before.faults after.faults (fault ≡ KeeperFault)
  refused_counts before after fault h =
      let same = h.opened.faults in
      let back = h.goes.back.later in record {
        later = omega arith;
        rose = λ e.
            let rose : Rose 0 (shows h.goes.given).faults = subst (λ (n : ℕ). Rose n (shows h.goes.given).faults) h.opened.holds.faultless (h.goes.counts.rose e) in
            raised_sum _ h.lent.faults _ _ same rose h.goes.back.counted;
      }

  -- so does that of one whose reopening was refused
  pub closed_counts : (old : StoredIndex K) (after : ShownStore) (fault : OpenFault) → StaysClosed told shows path old after fault → HasCause old.store.faults after.faults (fault ≡ KeeperFault)
  closed_counts old after fault h =
      let back = h.back.later in
      let rest : HasCause h.held.faults after.faults (fault ≡ KeeperFault) = of_why h.why in
      let later = rest.later in
      record { later = omega arith; rose = λ e. let risen = rest.rose e in omega arith }
    where
      of_why : StaysShut told shows path h.held after fault ⊎ IsIndexRefused told shows path h.held after fault → HasCause h.held.faults after.faults (fault ≡ KeeperFault)
      of_why (inl shut) = shut_counts h.held after fault shut.answer shut.opened shut.why
      of_why (inr refused) = refused_counts h.held after fault refused

-- the next event is the last one of those that are left in reverse
pub next_is : {W : Type 0} (left now : List (Event W)) (event : Event W) → left ≡ now ++ event ∷ [] → reverse left ≡ event ∷ reverse now
next_is left now event e = ap reverse e ∙ reverse-append now (event ∷ [])

-- nothing is left
pub none_left : {W : Type 0} (left : List (Event W)) → length left ≡ 0 → reverse left ≡ []
none_left [] e = refl
none_left (event ∷ left) e = absurd (omega arith)

-- the fault that is met is a keeper's
meets_by : (W K : Type 0) (done : ℕ) (fault : OpenFault) → MeetsFault {W = W} {K = K} (Unopened done fault) → fault ≡ KeeperFault
meets_by W K done KeeperFault h = refl
meets_by W K done (BadRow kept why) h = absurd h
meets_by W K done LogFull h = absurd h
meets_by W K done OutOfMemory h = absurd h

module _ {W K : Type 0} (true_row : RowFacts → Type 0) (told : Bool) (shows : K → ShownKeeper) (path : List ℕ) {old middle : StoredIndex K} {events : List (Event W)} {answers : List EventAnswer} where
  -- the next event is taken from those that are left
  pub first_popped : (left now : List (Event W)) (event : Event W) → RunsFirst true_row told shows path old events answers (reverse left) middle → left ≡ now ++ event ∷ [] → RunsFirst true_row told shows path old events answers (event ∷ reverse now) middle
  first_popped left now event h e = subst (λ (l : List (Event W)). RunsFirst true_row told shows path old events answers l middle) (next_is left now event e) h

  pub first_later : {rest : List (Event W)} → RunsFirst true_row told shows path old events answers rest middle → old.store.faults ≤ middle.store.faults
  first_later h = runs_later true_row told shows path old h.first answers middle h.run

  -- none is left
  pub first_ends : (left : List (Event W)) → RunsFirst true_row told shows path old events answers (reverse left) middle → length left ≡ 0 → RunsTo true_row told shows path old events answers middle
  first_ends left h e = first_all (subst (λ (l : List (Event W)). RunsFirst true_row told shows path old events answers l middle) (none_left left e) h)

  -- memory was wanting for the next one
  pub stops_after : {next : Event W} {rest : List (Event W)} {new : StoredIndex K} {done : ℕ} (h : RunsFirst true_row told shows path old events answers (next ∷ rest) middle) → done ≡ length answers → Waits told shows middle next new → (IsTrue told → PutsLast shows h.first answers new.index) → StopsAfter true_row told shows path old events done new
  stops_after {next} {rest} {new} {done} h count waits lasts = record {
    answers = answers;
    next = next;
    rest = rest;
    count = count;
    last = middle.index;
    runs = record {
      first = h.first;
      parts = h.parts;
      run = subst (λ (s : ShownStore). RunsTo true_row told shows path old h.first answers (record { index = middle.index; store = s })) (sym waits.store) h.run;
    };
    wants = waits.wants.wants;
    why = inr waits.wants.meets;
    lasts = lasts;
  }

  pub waits_later : {event : Event W} {rest : List (Event W)} {new : StoredIndex K} → RunsFirst true_row told shows path old events answers rest middle → Waits told shows middle event new → HasCause old.store.faults new.store.faults ⊥
  waits_later h waits =
      let first = first_later h in
      let same = ap (λ (s : ShownStore). s.faults) waits.store in
      record { later = omega arith; rose = λ e. absurd e }

  -- the next one is a reopening that was refused
  pub closes_after : {event : Event W} {rest : List (Event W)} {after : ShownStore} {done : ℕ} {fault : OpenFault} → RunsFirst true_row told shows path old events answers (event ∷ rest) middle → done ≡ length answers → ClosesIndex told shows path middle event after fault → ClosesAfter true_row told shows path old events done fault after
  closes_after {event} {rest} h count closes = record {
    answers = answers;
    rest = rest;
    count = count;
    last = middle;
    runs = subst (λ (e : Event W). RunsFirst true_row told shows path old events answers (e ∷ rest) middle) closes.asked h;
    refused = closes.closed;
  }

  pub closes_later : {event : Event W} {rest : List (Event W)} {after : ShownStore} (done : ℕ) (fault : OpenFault) → RunsFirst true_row told shows path old events answers (event ∷ rest) middle → ClosesIndex told shows path middle event after fault → HasCause old.store.faults after.faults (MeetsFault {W = W} {K = K} (Unopened done fault))
  closes_later {after = after} done fault h closes =
      let first = first_later h in
      let rest = closed_counts told shows path middle after fault closes.closed in
      let later = rest.later in
      record { later = omega arith; rose = λ m. let risen = rest.rose (meets_by W K done fault m) in omega arith }
