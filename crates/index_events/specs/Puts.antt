-- Rows that last (this project's rule): a row whose put was answered stands in whatever a crash leaves, until a later
-- event changes its path.
use Rattle.std.specs.Prelude.{◌≡◌, ℕ, List, ◌∷◌, ◌++◌, length, Some, Bool, IsTrue}
use Rattle.row_types.specs.Row.{RowFacts}
use Rattle.row_codec.specs.RowBytes.{row_bytes}
use Rattle.index_keeper.specs.Keeper.{ShownKeeper}
use Rattle.index_keeper.specs.Tables.{KeptFacts, bytes_under}
use Rattle.index_state.specs.State.{StateFacts}
use Rattle.index_state.specs.declared.answer.Judged.TheVariants.{Dropped, KeeperFault as JudgedFault}
use Rattle.index_state.specs.declared.answer.Published.TheVariants.{Added, Replaced, KeeperFault as PublishedFault}
use Rattle.index_events.specs.declared.events.Event.{Event}
use Rattle.index_events.specs.declared.events.Event.TheVariants.{Publish, Judge}
use Rattle.index_events.specs.declared.events.EventAnswer.{EventAnswer}
use Rattle.index_events.specs.declared.events.EventAnswer.TheVariants.{Publish as PublishSaid, Judge as JudgeSaid}
use Rattle.index_events.specs.declared.events.EventsEnd.{EventsEnd}
use Rattle.index_events.specs.declared.events.EventsEnd.TheVariants.{All as AllDone}

-- the event put the row
abbrev pub HasPut : {W : Type 0} → RowFacts → Event W → EventAnswer → Type 0
HasPut row (Publish published) (PublishSaid Added) = published ≡ row
HasPut row (Publish published) (PublishSaid Replaced) = published ≡ row
HasPut row _ _ = ⊥

-- the event changed what is kept under the path, or may have, since the keeper failed
abbrev pub MayChange : {W : Type 0} → List ℕ → Event W → EventAnswer → Type 0
MayChange path (Publish row) (PublishSaid Added) = row.name.path ≡ path
MayChange path (Publish row) (PublishSaid Replaced) = row.name.path ≡ path
MayChange path (Publish row) (PublishSaid PublishedFault) = row.name.path ≡ path
MayChange path (Judge name seen) (JudgeSaid Dropped) = name.path ≡ path
MayChange path (Judge name seen) (JudgeSaid JudgedFault) = name.path ≡ path
MayChange path _ _ = ⊥

-- none of the events did
abbrev pub LeavePath : {W : Type 0} → List ℕ → List (Event W) → List EventAnswer → Type 0
LeavePath path (event ∷ events) (answer ∷ answers) = (¬ MayChange path event answer) × LeavePath path events answers
LeavePath path _ _ = Unit {0}

-- one of the events put the row, and no later one changed its path
pub record IsLastPut {W : Type 0} (row : RowFacts) (events : List (Event W)) (answers : List EventAnswer) : Type 0 where
  pub first : List (Event W)
  pub put : Event W
  pub later : List (Event W)
  pub early : List EventAnswer
  pub said : EventAnswer
  pub late : List EventAnswer
  pub events_are : events ≡ first ++ put ∷ later
  pub answers_are : answers ≡ early ++ said ∷ late
  pub one_each : length first ≡ length early
  pub has_put : HasPut row put said
  pub left : LeavePath row.name.path later late

-- each row that an event put, and whose path no later one changed, stands in whatever a crash now leaves
abbrev pub PutsLast : {W K : Type 0} → (K → ShownKeeper) → List (Event W) → List EventAnswer → StateFacts K → Type 0
PutsLast shows events answers state = (row : RowFacts) → IsLastPut row events answers →
    (image : List KeptFacts) → (shows state.keeper).images image → bytes_under row.name.path image ≡ Some (row_bytes row)

-- the same of the end of the events, if all happened
abbrev pub EndLasts : {W K : Type 0} → Bool → (K → ShownKeeper) → List (Event W) → EventsEnd W K → Type 0
EndLasts told shows events (AllDone state answers) = IsTrue told → PutsLast shows events answers.items state
EndLasts told shows events _ = Unit {0}
