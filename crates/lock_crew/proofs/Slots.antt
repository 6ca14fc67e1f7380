-- Slots go out filled, are run, and come back (lemmas).
use Rattle.std.proofs.Common.{◌≡◌, List, [], ◌∷◌, All, Option, Some, None, ap, subst, ◌∙◌}
use Rattle.std.specs.List.{AllZip}
use mathlib.Core.List.{IsPrefix}
use Rattle.atomic_table.specs.Seated.{TableId}
use Rattle.index_lock.specs.Tokens.{IsLater, SeatFacts}
use Rattle.index_lock.proofs.Prefixes.{prefix_trans}
use Rattle.lock_crew.specs.Runs.{BringsBack, IsSlotReady, RunsBy, SlotHas, SlotRan}
use Rattle.std.proofs.lemmas.List.Elements.{All-cons, All-head, All-tail}
use Rattle.lock_crew.proofs.Zips.{zip_right}

module _ {C E O P : Type 0} (seat_of : C → SeatFacts E O) (place_of : C → P) where
  -- a slot that is ready has a token of the one token's lock
  ready_lock : (start : SeatFacts E O) (place : P) (slot : Option C) → IsSlotReady seat_of place_of start place slot
      → SlotHas (λ slot. (seat_of slot).lock ≡ start.lock) slot
  ready_lock start place None ready = ready
  ready_lock start place (Some slot) ready = ap (λ s. s.lock) ready.0

  pub ready_locks : (start : SeatFacts E O) (places : List P) (slots : List (Option C))
      → AllZip (IsSlotReady seat_of place_of start) places slots
      → All (SlotHas (λ slot. (seat_of slot).lock ≡ start.lock)) slots
  ready_locks start places slots ready = zip_right (ready_lock start) places slots ready

  -- the token of all has seen more in the end than at an earlier moment
  brings_later : (early late : SeatFacts E O) → IsPrefix early.seen late.seen → (slot : Option C) (place : P)
      → BringsBack seat_of place_of early slot place → BringsBack seat_of place_of late slot place
  brings_later early late more None place brings = brings
  brings_later early late more (Some slot) place brings =
      (prefix_trans (seat_of slot).seen early.seen late.seen brings.0 more, brings.1)

  pub all_later : (early late : SeatFacts E O) → IsPrefix early.seen late.seen
      → (slots : List (Option C)) (places : List P)
      → AllZip (BringsBack seat_of place_of early) slots places → AllZip (BringsBack seat_of place_of late) slots places
  all_later early late more [] [] brings = brings
  all_later early late more [] (p ∷ ps) brings = brings
  all_later early late more (s ∷ ss) [] brings = brings
  all_later early late more (s ∷ ss) (p ∷ ps) brings =
      (brings_later early late more s p brings.0, all_later early late more ss ps brings.1)

module _ {C E O P : Type 0} (seat_of : C → SeatFacts E O) (place_of : C → P)
    (ran : SeatFacts E O → P → SeatFacts E O → P → Type 0) where
  -- what a run makes of a slot
  abbrev pub RanSlot : C → C → Type 0
  RanSlot before after = IsLater (seat_of before) (seat_of after)
      × ran (seat_of before) (place_of before) (seat_of after) (place_of after)

  -- a slot that was run has a token of the same lock
  stays_lock : (lock : TableId) (before after : Option C) → SlotHas (λ slot. (seat_of slot).lock ≡ lock) before
      → SlotRan RanSlot before after → SlotHas (λ slot. (seat_of slot).lock ≡ lock) after
  stays_lock lock None after was made = absurd was
  stays_lock lock (Some before) None was made = made
  stays_lock lock (Some before) (Some after) was made = made.0.lock ∙ was

  -- what one run made of a place, out and back
  run_one : (start end : SeatFacts E O) (place : P) (before after : Option C) (back : P)
      → IsSlotReady seat_of place_of start place before → SlotRan RanSlot before after
      → BringsBack seat_of place_of end after back → RunsBy ran start end place back
  run_one start end place None after back ready made brings = absurd ready
  run_one start end place (Some before) None back ready made brings = absurd made
  run_one start end place (Some before) (Some after) back ready made brings = record {
    seat = seat_of after;
    made = subst (λ p. ran start place (seat_of after) p) brings.1
        (subst (λ p. ran start p (seat_of after) (place_of after)) ready.1
        (subst (λ s. ran s (place_of before) (seat_of after) (place_of after)) ready.0 made.1));
    seen = brings.0;
  }

  -- what the runs made of the places
  pub run_places : (start end : SeatFacts E O) (places : List P) (before after : List (Option C)) (back : List P)
      → AllZip (IsSlotReady seat_of place_of start) places before → AllZip (SlotRan RanSlot) before after
      → AllZip (BringsBack seat_of place_of end) after back → AllZip (RunsBy ran start end) places back
  run_places start end [] [] [] [] ready made brings = tt
  run_places start end [] [] [] (q ∷ qs) ready made brings = absurd brings
  run_places start end [] [] (t ∷ ts) back ready made brings = absurd made
  run_places start end [] (s ∷ ss) after back ready made brings = absurd ready
  run_places start end (p ∷ ps) [] after back ready made brings = absurd ready
  run_places start end (p ∷ ps) (s ∷ ss) [] back ready made brings = absurd made
  run_places start end (p ∷ ps) (s ∷ ss) (t ∷ ts) [] ready made brings = absurd brings
  run_places start end (p ∷ ps) (s ∷ ss) (t ∷ ts) (q ∷ qs) ready made brings = (
    run_one start end p s t q ready.0 made.0 brings.0,
    run_places start end ps ss ts qs ready.1 made.1 brings.1,
  )

  -- slots that were run have tokens of the same lock
  pub ran_locks : (lock : TableId) (before after : List (Option C))
      → All (SlotHas (λ slot. (seat_of slot).lock ≡ lock)) before → AllZip (SlotRan RanSlot) before after
      → All (SlotHas (λ slot. (seat_of slot).lock ≡ lock)) after
  ran_locks lock [] [] was made = was
  ran_locks lock [] (t ∷ ts) was made = absurd made
  ran_locks lock (s ∷ ss) [] was made = absurd made
  ran_locks lock (s ∷ ss) (t ∷ ts) was made =
      All-cons (SlotHas (λ slot. (seat_of slot).lock ≡ lock)) t ts
      (stays_lock lock s t (All-head (SlotHas (λ slot. (seat_of slot).lock ≡ lock)) s ss was) made.0)
      (ran_locks lock ss ts (All-tail (SlotHas (λ slot. (seat_of slot).lock ≡ lock)) s ss was) made.1)
