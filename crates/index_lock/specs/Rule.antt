-- What the lock's table keeps, and what each kind of step on it tells (this project's rule).
use Rattle.std.specs.Prelude.{◌≡◌, ◌≢◌, ◌⊎◌, ℕ, ◌+◌, ◌*◌, List, [], ◌∷◌, length, Option, Some, None}
use mathlib.Core.List.{IsPrefix}
use mathlib.Core.Option.{some, none}
use mathlib.Core.Option as maybe
use lib.ListN.{get_elem?}
use Rattle.atomic_table.specs.Table.{State, Me, Step}
use Rattle.atomic_table.specs.declared.shared.Seat.{Seat}
use Rattle.index_lock.specs.Tokens.{SeatFacts, HeldLockFacts, longer}
use Rattle.index_lock.specs.declared.view.Known.{Known}
use Rattle.index_lock.specs.declared.view.View.{View}
use Rattle.index_lock.specs.declared.view.View.TheVariants.{Spent, Rests, Joined, Holds, Ends}

-- the log begins with what was known, and the origin is the same
pub record Continues {E O : Type 0} (before now : Known E O) : Type 0 where
  pub log : IsPrefix before.log now.log
  pub origin : now.origin ≡ before.origin

-- what is known of a value
abbrev pub known_of : {S E O : Type 0} → (S → List E) → (S → O) → S → Known E O
known_of log origin value = record { log = log value; origin = origin value }

module _ {E O : Type 0} where
  -- all that there is goes on from what a view knows; a spent view knows nothing
  abbrev pub HasSeenAll : Known E O → View E O → Type 0
  HasSeenAll all Spent = Unit {0}
  HasSeenAll all (Rests known) = Continues known all
  HasSeenAll all (Joined known mine theirs) =
      Continues known all × Continues mine known × Continues theirs known
  HasSeenAll all (Holds known) = Continues known all
  HasSeenAll all (Ends known) = Continues known all

  -- what a view took the lock at, if it has it
  abbrev pub taken_at : View E O → maybe.Option (Known E O)
  taken_at (Holds known) = some known
  taken_at (Ends known) = some known
  taken_at _ = none

  -- what a view knows, with the given origin where it is spent
  abbrev pub known_by : O → View E O → Known E O
  known_by blank Spent = record { log = []; origin = blank }
  known_by blank (Rests known) = known
  known_by blank (Joined known mine theirs) = known
  known_by blank (Holds known) = known
  known_by blank (Ends known) = known

  -- the slot while this view has the lock: with its token, or at home and empty for good
  abbrev pub slot_under : (S : Type 0) → View E O → maybe.Option (Option S)
  slot_under S (Ends known) = some None
  slot_under S _ = none

-- the lock is free
pub record IsLockFree {S E O : Type 0} (log : S → List E) (origin : S → O)
    (state : State (Option S) (View E O)) : Type 0 where
  pub value : S
  -- it is twice the number of changes
  pub word : state.words ≡ 2 * length (log value) ∷ []
  -- the value is at home
  pub slot : state.homes ≡ some (Some value) ∷ []
  -- no token has the lock
  pub nobody : (id : ℕ) (view : View E O) → get_elem? state.views id ≡ some view
      → taken_at view ≡ none
  -- each has seen a beginning of the value's log
  pub seen : (id : ℕ) (view : View E O) → get_elem? state.views id ≡ some view
      → HasSeenAll (known_of log origin value) view

-- the lock is held: the value isn't at home, and no token but the holder has the lock
pub record IsLockHeld {S E O : Type 0} (state : State (Option S) (View E O)) : Type 0 where
  pub holder : ℕ
  pub holding : View E O
  pub all : Known E O
  pub there : get_elem? state.views holder ≡ some holding
  -- the holder keeps the log at which it took the lock
  pub took : taken_at holding ≡ some all
  -- it is one more than twice the number of changes of that log
  pub word : state.words ≡ (2 * length all.log + 1) ∷ []
  pub slot : state.homes ≡ slot_under S holding ∷ []
  pub alone : (id : ℕ) (view : View E O) → get_elem? state.views id ≡ some view
      → taken_at view ≢ none → id ≡ holder
  -- each has seen a beginning of that log
  pub seen : (id : ℕ) (view : View E O) → get_elem? state.views id ≡ some view → HasSeenAll all view

-- at every moment the lock is free or held
abbrev pub KeepsLock : {S E O : Type 0} → (S → List E) → (S → O) → State (Option S) (View E O)
    → Type 0
KeepsLock log origin state = IsLockFree log origin state ⊎ IsLockHeld state

module _ {E O : Type 0} where
  -- what a join keeps: the longer log
  abbrev pub joined_known : Known E O → Known E O → Known E O
  joined_known mine theirs = record { log = longer mine.log theirs.log; origin = mine.origin }

  -- the views of two tokens put together, with a note of what each had seen
  abbrev pub joined_view : View E O → View E O → View E O
  joined_view (Rests mine) (Rests theirs) = Joined (joined_known mine theirs) mine theirs
  joined_view view _ = view

module _ {S E O : Type 0} where
  -- the token took the lock, and has the value in its slot, whose log begins with what it had seen;
  -- or the word was another and nothing changed
  abbrev pub acquired : (S → List E) → (S → O) → Step (Option S) → Me (Option S) (View E O) → ℕ
      → Me (Option S) (View E O) → Type 0
  acquired log origin step before found after =
      (found ≡ step.first → (value : S)
      × (after ≡ (Holds (known_of log origin value), (0, Some value) ∷ before.1))
      × ((known : Known E O) → before.0 ≡ Rests known
      → Continues known (known_of log origin value)))
      × (found ≢ step.first → after ≡ before)

  -- the token has seen the log of the value that it gave back
  abbrev pub released : (S → List E) → (S → O) → Step (Option S) → Me (Option S) (View E O) → ℕ
      → Me (Option S) (View E O) → Type 0
  released log origin step before found after =
      (value : S) → before.1 ≡ (0, Some value) ∷ []
      → after ≡ (Rests (known_of log origin value), [])

  -- both tokens of the join had seen beginnings of what is kept
  abbrev pub settled : Step (Option S) → Me (Option S) (View E O) → ℕ → Me (Option S) (View E O)
      → Type 0
  settled step before found after =
      (known mine theirs : Known E O) → before.0 ≡ Joined known mine theirs
      → (after ≡ (Rests known, before.1)) × Continues mine known × Continues theirs known

  -- the slot went back for good
  abbrev pub ended : Step (Option S) → Me (Option S) (View E O) → ℕ → Me (Option S) (View E O)
      → Type 0
  ended step before found after =
      (known : Known E O) → before.0 ≡ Holds known → after ≡ (Ends known, [])

-- a token at the table, over slots of this type
abbrev pub Token : (S E O : Type 0) → Type 0
Token S E O = Seat (Option S) (View E O)

-- what a seat has seen
abbrev pub known_to : {E O : Type 0} → SeatFacts E O → Known E O
known_to seat = record { log = seat.seen; origin = seat.origin }

-- what the lock was taken at
abbrev pub known_under : {S E O : Type 0} → HeldLockFacts S E O → Known E O
known_under held = record { log = held.seen; origin = held.origin }

-- the token of a seat: it is of that lock, knows what the seat has seen, and has no slot
pub record IsTokenOf {S E O : Type 0} (seat : SeatFacts E O) (token : Token S E O) : Type 0 where
  pub lock : token.table_id ≡ seat.lock
  pub me : token.me ≡ (Rests (known_to seat), [])

-- the token has the lock, with this in its slot, and took it where the value had this log and this
-- origin
pub record IsTokenUnder {S E O : Type 0} (held : HeldLockFacts S E O) (slot : Option S)
    (token : Token S E O) : Type 0 where
  pub lock : token.table_id ≡ held.lock
  pub me : token.me ≡ (Holds (known_under held), (0, slot) ∷ [])

-- a token that rested has taken the lock, and the value is in its slot
pub record TakesLock {S E O : Type 0} (log : S → List E) (origin : S → O)
    (before after : Token S E O) : Type 0 where
  pub value : S
  pub table : after.table_id ≡ before.table_id
  pub me : after.me ≡ (Holds (known_of log origin value), (0, Some value) ∷ [])
  pub seen : (known : Known E O) → before.me ≡ (Rests known, [])
      → Continues known (known_of log origin value)
