-- Threads over one lock (this project's rule): each slot holds a token and a place; a thread runs it, and both come back.
use Rattle.std.specs.Prelude.{◌≡◌, Option, Some, None}
use mathlib.Core.List.{IsPrefix}
use Rattle.index_lock.specs.Tokens.{SeatFacts}

-- the slot is filled, and so
abbrev pub SlotHas : {C : Type 0} → (C → Type 0) → Option C → Type 0
SlotHas Has None = ⊥
SlotHas Has (Some slot) = Has slot

-- the slot holds the place, with a token that has seen what the one token has
abbrev pub IsSlotReady : {C E O P : Type 0} → (C → SeatFacts E O) → (C → P) → SeatFacts E O → P → Option C → Type 0
IsSlotReady seat_of place_of start place None = ⊥
IsSlotReady seat_of place_of start place (Some slot) = (seat_of slot ≡ start) × (place_of slot ≡ place)

-- what was in the slot and what is in it now stand so
abbrev pub SlotRan : {C : Type 0} → (C → C → Type 0) → Option C → Option C → Type 0
SlotRan Ran (Some before) (Some after) = Ran before after
SlotRan Ran _ _ = ⊥

-- the slot gave this place back, and the token of all has seen what its token had seen
abbrev pub BringsBack : {C E O P : Type 0} → (C → SeatFacts E O) → (C → P) → SeatFacts E O → Option C → P → Type 0
BringsBack seat_of place_of end None place = ⊥
BringsBack seat_of place_of end (Some slot) place = IsPrefix (seat_of slot).seen end.seen × (place_of slot ≡ place)

-- a run that began with what the one token had seen made this of the place; the token of all has seen what its token had
-- seen in the end
pub record RunsBy {E O P : Type 0} (ran : SeatFacts E O → P → SeatFacts E O → P → Type 0) (start end : SeatFacts E O)
    (before after : P) : Type 0 where
  pub seat : SeatFacts E O
  pub made : ran start before seat after
  pub seen : IsPrefix seat.seen end.seen
