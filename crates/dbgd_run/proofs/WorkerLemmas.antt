-- Doors in slots: what each run made of its place, at beginnings of what the token of all has seen.
use Rattle.std.proofs.Common.{◌≡◌, ℕ, ◌+◌, ◌≤◌, List, [], ◌∷◌, ◌++◌, All, length, length-append, Option, Some, None, sym, ap, subst, ◌∙◌, arith}
use Rattle.std.specs.List.{AllZip}
use Rattle.std.proofs.lemmas.List.Elements.{All-nil, All-cons, All-head, All-tail, All-append}
use mathlib.Core.List.{IsPrefix}
use Rattle.atomic_table.specs.Seated.{TableId}
use Rattle.index_lock.specs.Tokens.{SeatFacts}
use Rattle.index_lock.proofs.Prefixes.{prefix_self, prefix_trans}
use Rattle.index_rows.specs.declared.change.Change.{Change}
use Rattle.index_state.specs.State.{Origin}
use Rattle.lock_crew.specs.Runs.{IsSlotReady, RunsBy, SlotHas}
use Rattle.lock_crew.proofs.Zips.{zip_weaker}
use Rattle.federation.specs.Link.{ShownLink}
use Rattle.http_wire.specs.Door.{ShownDoor}
use Rattle.conn_server.specs.Connection.{AreExchanges, LogsGrow, is_last_request}
use Rattle.conn_server.specs.Doors.{AreVisits, Visit, all_exchanges}
use Rattle.conn_server.specs.Exchange.{Exchange}
use Rattle.conn_server.specs.Stage.{ConnSetting, ConnStage}
use Rattle.dbgd_run.specs.Workers.{IsServedBetween, RunsWorker, WorkerServed}
use Rattle.dbgd_run.specs.declared.worker.Worker.{Worker}
use Rattle.dbgd_run.proofs.GenerationLemmas.{generation_is}

prefix_length : (xs ys : List Change) → IsPrefix xs ys → length xs ≤ length ys
prefix_length xs ys p = let all = ap length p.1 in let sum = length-append xs p.0 in omega (arith, all, sum)

-- where the logs go on, the last one goes on from the first
ends_within : (first log : List Change) (xs : List Exchange) → LogsGrow first xs log → IsPrefix first log
ends_within first log [] grow = grow
ends_within first log (x ∷ xs) grow = prefix_trans first x.log log grow.0 (ends_within x.log log xs grow.1)

-- each of these requests was answered by a log between the two
exchanges_between : {T : Type 0} (setting : ConnSetting T) (at : ConnStage T) (first early log last : List Change) (place : ℕ) (xs : List Exchange)
    → IsPrefix first early → IsPrefix log last → AreExchanges setting at place xs → LogsGrow early xs log
    → All (IsServedBetween first last) xs
exchanges_between setting at first early log last place [] from into are grow = All-nil (IsServedBetween first last)
exchanges_between setting at first early log last place (x ∷ xs) from into are grow =
    let left = prefix_trans first early x.log from grow.0 in
    let right = prefix_trans x.log log last (ends_within x.log log xs grow.1) into in
    let low = prefix_length first x.log left in
    let high = prefix_length x.log last right in
    All-cons (IsServedBetween first last) x xs
    (record {
      logs = record { from = left; into = right };
      least = λ asked. let same = generation_is setting (is_last_request place) at x are.0 asked in omega (arith, low, same);
      most = λ asked. let same = generation_is setting (is_last_request place) at x are.0 asked in omega (arith, high, same);
    })
    (exchanges_between setting at first x.log log last (place + 1) xs left into are.1 grow.1)

-- the same of the exchanges of all visits: each visit's are lawful from its own place 0
visits_between : {T : Type 0} (setting : ConnSetting T) (at : ConnStage T) (first early log last : List Change) (visits : List Visit)
    → IsPrefix first early → IsPrefix log last → AreVisits setting at visits → LogsGrow early (all_exchanges visits) log
    → All (IsServedBetween first last) (all_exchanges visits)
visits_between setting at first early log last [] from into are grow = All-nil (IsServedBetween first last)
visits_between setting at first early log last (one ∷ visits) from into are grow =
    let cut = logs_cut early log one.xs (all_exchanges visits) grow in
    All-append (IsServedBetween first last) one.xs (all_exchanges visits)
    (exchanges_between setting at first early cut.0 last 0 one.xs from
    (prefix_trans cut.0 log last (ends_within cut.0 log (all_exchanges visits) cut.2) into) are.0 cut.1)
    (visits_between setting at first cut.0 log last visits
    (prefix_trans first early cut.0 from (ends_within early cut.0 one.xs cut.1)) into are.1 cut.2)
  where
    -- a row of logs in two
    logs_cut : (early log : List Change) (xs ys : List Exchange) → LogsGrow early (xs ++ ys) log
        → (mid : List Change) × LogsGrow early xs mid × LogsGrow mid ys log
    logs_cut early log [] ys grow = (early, prefix_self early, grow)
    logs_cut early log (x ∷ xs) ys grow = let rest = logs_cut x.log log xs ys grow.1 in (rest.0, (grow.0, rest.1), rest.2)

module _ {T D L : Type 0} (setting : ConnSetting T) (sees : D → ShownDoor) (views : L → ShownLink) where
  served_by : (start last : SeatFacts Change Origin) (before after : Worker T D L)
      → RunsBy (RunsWorker setting sees views) start last before after → WorkerServed setting sees views start.seen last.seen before after
  served_by start last before after ran = record {
    by = record {
      log = ran.seat.seen;
      into = ran.seen;
      ran = ran.made.ran;
      between =
          visits_between setting _ start.seen start.seen ran.seat.seen last.seen ran.made.ran.serves.serves.visits
          (prefix_self start.seen) ran.seen ran.made.ran.serves.serves.are ran.made.ran.serves.serves.logs;
    };
    kept = ran.made.kept;
  }

  pub all_served : (start last : SeatFacts Change Origin) (before after : List (Worker T D L))
      → AllZip (RunsBy (RunsWorker setting sees views) start last) before after
      → AllZip (WorkerServed setting sees views start.seen last.seen) before after
  all_served start last before after ran = zip_weaker (λ b a one. served_by start last b a one) before after ran

  later_one : (first mid last : List Change) → IsPrefix mid last → (before after : Worker T D L)
      → WorkerServed setting sees views first mid before after → WorkerServed setting sees views first last before after
  later_one first mid last more before after one = record {
    by = record {
      log = one.by.log;
      into = prefix_trans one.by.log mid last one.by.into more;
      ran = one.by.ran;
      between =
          visits_between setting _ first first one.by.log last one.by.ran.serves.serves.visits (prefix_self first)
          (prefix_trans one.by.log mid last one.by.into more) one.by.ran.serves.serves.are one.by.ran.serves.serves.logs;
    };
    kept = one.kept;
  }

  pub served_later : (first mid last : List Change) → IsPrefix mid last → (before after : List (Worker T D L))
      → AllZip (WorkerServed setting sees views first mid) before after → AllZip (WorkerServed setting sees views first last) before after
  served_later first mid last more before after all =
      zip_weaker (λ b a one. later_one first mid last more b a one) before after all

-- the slots that were filled with places have the lock's tokens, and shares of which the same holds as of those of the places
module _ {C P : Type 0} (seat_of : C → SeatFacts Change Origin) (place_of : C → P) (Has : P → Type 0) (lock : TableId) where
  -- what is so of a slot that is ready
  abbrev IsFit : C → Type 0
  IsFit slot = ((seat_of slot).lock ≡ lock) × Has (place_of slot)

  ready_one : (start : SeatFacts Change Origin) → start.lock ≡ lock → (place : P) (slot : Option C) → Has place
      → IsSlotReady seat_of place_of start place slot → SlotHas IsFit slot
  ready_one start locked place None has ready = ready
  ready_one start locked place (Some slot) has ready =
      (ap (λ (s : SeatFacts Change Origin). s.lock) ready.0 ∙ locked, subst Has (sym ready.1) has)

  pub ready_all : (start : SeatFacts Change Origin) → start.lock ≡ lock → (places : List P) (slots : List (Option C))
      → All Has places → AllZip (IsSlotReady seat_of place_of start) places slots
      → All (SlotHas (λ slot. ((seat_of slot).lock ≡ lock) × Has (place_of slot))) slots
  ready_all start locked [] [] has ready = All-nil (SlotHas IsFit)
  ready_all start locked [] (s ∷ ss) has ready = absurd ready
  ready_all start locked (p ∷ ps) [] has ready = absurd ready
  ready_all start locked (p ∷ ps) (s ∷ ss) has ready =
      All-cons (SlotHas IsFit) s ss (ready_one start locked p s (All-head Has p ps has) ready.0)
      (ready_all start locked ps ss (All-tail Has p ps has) ready.1)

-- of the slots' tokens alone
module _ {C : Type 0} (seat_of : C → SeatFacts Change Origin) (Other : C → Type 0) (lock : TableId) where
  lock_of : (slot : Option C) → SlotHas (λ slot. ((seat_of slot).lock ≡ lock) × Other slot) slot
      → SlotHas (λ slot. (seat_of slot).lock ≡ lock) slot
  lock_of None has = has
  lock_of (Some slot) has = has.0

  pub locks_of : (slots : List (Option C)) → All (SlotHas (λ slot. ((seat_of slot).lock ≡ lock) × Other slot)) slots
      → All (SlotHas (λ slot. (seat_of slot).lock ≡ lock)) slots
  locks_of [] all = All-nil (SlotHas (λ slot. (seat_of slot).lock ≡ lock))
  locks_of (s ∷ ss) all =
      All-cons (SlotHas (λ slot. (seat_of slot).lock ≡ lock)) s ss
      (lock_of s (All-head (SlotHas (λ slot. ((seat_of slot).lock ≡ lock) × Other slot)) s ss all))
      (locks_of ss (All-tail (SlotHas (λ slot. ((seat_of slot).lock ≡ lock) × Other slot)) s ss all))
