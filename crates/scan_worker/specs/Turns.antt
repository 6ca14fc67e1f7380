-- What becomes of one listed file (this crate's bookkeeping, which no public clause cites).
use Rattle.std.specs.Prelude.{◌≡◌, ℕ, ◌+◌, ◌-◌, ◌^◌, min, Bool, true, false, List, Option, Some, None}
use Rattle.row_types.specs.Name.{NameFacts}
use Rattle.row_types.specs.Row.{RowFacts}
use Rattle.index_keeper.specs.Keeper.{ShownKeeper}
use Rattle.index_rows.specs.declared.change.Change.{Change}
use Rattle.index_lock.specs.Tokens.{SeatFacts}
use Rattle.index_state.specs.State.{Origin}
use Rattle.index_state.specs.Step.{misses, publishes, to_miss, to_publish}
use Rattle.index_state.specs.declared.answer.Published.{Published}
use Rattle.index_state.specs.declared.answer.Published.TheVariants as said
use Rattle.scan_queue.specs.declared.miss.Cause.{Cause}
use Rattle.scan_queue.specs.declared.miss.Cause.TheVariants as cause
use Rattle.tree_trait.specs.Found.{Versions}
use Rattle.tree_trait.specs.Shown.{ShownTree}
use Rattle.index_desk.specs.Ends.{EndShows}
use Rattle.index_desk.specs.Holds.{HoldsEvent}
use Rattle.scan_worker.specs.Read.{ReadsName}
use Rattle.scan_worker.specs.declared.read.NameRead.{NameRead}
use Rattle.scan_worker.specs.declared.read.NameRead.TheVariants as read
use Rattle.scan_worker.specs.declared.tally.Tally.{Tally}
use Rattle.scan_worker.specs.declared.tally.WorkReport.{WorkReport}
use Rattle.scan_worker.specs.declared.turn.Turn.{Turn}
use Rattle.scan_worker.specs.declared.turn.Turn.TheVariants.{Published as DonePublished, Passed, Missed, Ended}
use Rattle.index_desk.specs.declared.work_end.WorkEnd.{WorkEnd}
use Rattle.index_desk.specs.declared.work_end.WorkEnd.TheVariants as end

-- what an answer to a row means for the work
abbrev pub turn_of : Published → Turn
turn_of said.Added = DonePublished
turn_of said.Replaced = DonePublished
turn_of said.Already = Passed
turn_of (said.NotListed listed) = Passed
turn_of said.Broken = Ended end.Broken
turn_of said.LogFull = Ended end.LogFull
turn_of said.KeeperFault = Ended end.KeeperFault
turn_of said.OutOfMemory = Ended end.OutOfMemory

-- in one hold a row was published, and the answer says what became of its name
pub record TellsRow {K : Type 0} (true_row : RowFacts → Type 0) (told : Bool) (shows : K → ShownKeeper) (row : RowFacts)
    (seat : SeatFacts Change Origin) (turn : Turn) (later_seat : SeatFacts Change Origin) : Type 0 where
  pub answer : Published
  pub holds : HoldsEvent true_row told shows (publishes row) (to_publish answer) seat later_seat
  pub means : turn ≡ turn_of answer

-- in one hold the name was noted as missed, if it was out
abbrev pub TellsMiss : {K : Type 0} → (RowFacts → Type 0) → Bool → (K → ShownKeeper) → NameFacts → Cause
    → SeatFacts Change Origin → Turn → SeatFacts Change Origin → Type 0
TellsMiss true_row told shows name why seat Missed later_seat =
    HoldsEvent true_row told shows (misses name why) (to_miss true) seat later_seat
TellsMiss true_row told shows name why seat Passed later_seat =
    HoldsEvent true_row told shows (misses name why) (to_miss false) seat later_seat
TellsMiss true_row told shows name why seat _ later_seat = ⊥

-- what the index is told of a listed file that was read: its row; or that the name was missed, since another file stood
-- there or none, or since it could not be read
abbrev pub TellsIndex : {W K : Type 0} → (RowFacts → Type 0) → Bool → (K → ShownKeeper) → NameFacts → NameRead W
    → SeatFacts Change Origin → Turn → SeatFacts Change Origin → Type 0
TellsIndex true_row told shows name (read.Row row) seat turn later_seat =
    TellsRow true_row told shows row seat turn later_seat
TellsIndex true_row told shows name (read.Altered met) seat turn later_seat =
    TellsMiss true_row told shows name (cause.Altered met) seat turn later_seat
TellsIndex true_row told shows name read.Failed seat turn later_seat =
    TellsMiss true_row told shows name cause.ReadFault seat turn later_seat
TellsIndex true_row told shows name read.OutOfMemory seat turn later_seat =
    (turn ≡ Ended end.OutOfMemory) × (later_seat ≡ seat)

-- what may become of the name of a row
abbrev pub FitsRow : Turn → Type 0
FitsRow Missed = ⊥
FitsRow _ = Unit {0}

-- what may become of a name that is to be missed
abbrev pub FitsMiss : Turn → Type 0
FitsMiss Missed = Unit {0}
FitsMiss Passed = Unit {0}
FitsMiss _ = ⊥

-- what may become of a listed file, by how it was read
abbrev pub FitsRead : {W : Type 0} → NameRead W → Turn → Type 0
FitsRead read.OutOfMemory turn = turn ≡ Ended end.OutOfMemory
FitsRead (read.Row row) turn = FitsRow turn
FitsRead _ turn = FitsMiss turn

-- the names that it adds to those published
abbrev pub published_by : Turn → ℕ
published_by DonePublished = 1
published_by _ = 0

-- the names that it adds to those missed
abbrev pub missed_by : Turn → ℕ
missed_by Missed = 1
missed_by _ = 0

-- how the work ends by it
abbrev pub end_by : Turn → Option WorkEnd
end_by (Ended end) = Some end
end_by _ = None

-- the log shows why the work ended
abbrev pub TurnShows : Turn → List Change → Type 0
TurnShows (Ended end) log = EndShows end log
TurnShows _ log = Unit {0}

-- whether the opening of a listed file counts
abbrev pub counted_by : {W : Type 0} → NameRead W → ℕ
counted_by read.OutOfMemory = 0
counted_by _ = 1

-- an opening is counted, unless memory was refused
abbrev pub CountsLoad : {W : Type 0} → NameRead W → Tally → Tally → Type 0
CountsLoad read.OutOfMemory tally later_tally = later_tally ≡ tally
CountsLoad _ tally later_tally = later_tally ≡ record tally { asked = min (tally.asked + 1) (2 ^ 64 - 1) }

-- a listed file was opened and read, and its opening counted
pub record LoadsListed {W : Type 0} (told : Bool) (version : Versions) (name : NameFacts) (before after : ShownTree)
    (tally later_tally : Tally) (given : NameRead W) : Type 0 where
  pub does : ReadsName told version name before after given
  pub counts : CountsLoad given tally later_tally

-- what became of a listed file is counted
abbrev pub CountsTurn : Turn → Tally → Tally → Type 0
CountsTurn DonePublished tally later_tally =
    later_tally ≡ record tally { published = min (tally.published + 1) (2 ^ 64 - 1) }
CountsTurn Missed tally later_tally = later_tally ≡ record tally { missed = min (tally.missed + 1) (2 ^ 64 - 1) }
CountsTurn _ tally later_tally = later_tally ≡ tally

-- nothing was done
abbrev pub no_tally : Tally
no_tally = record { asked = 0; published = 0; missed = 0 }

-- the report of the work that ended so
abbrev pub report_of : Tally → WorkEnd → WorkReport
report_of tally end = record { asked = tally.asked; published = tally.published; missed = tally.missed; end = end }
