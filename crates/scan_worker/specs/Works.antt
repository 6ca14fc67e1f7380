-- The work of one thread on a pass (this project's rule), by the token and the hand that it was given and gives back.
-- Nothing is subtracted: what was there before stands on the other side.
use Rattle.std.specs.Prelude.{◌≡◌, ℕ, ◌+◌, ◌-◌, ◌^◌, ◌≤◌, min, Bool, List, [], ◌++◌, All, None}
use Rattle.row_types.specs.Name.{NameFacts, stamp_at}
use Rattle.row_types.specs.declared.limits.TheConstants.{FILE_LIMIT}
use Rattle.index_lock.specs.Tokens.{IsLater, SeatFacts}
use Rattle.index_rows.specs.declared.change.Change.{Change}
use Rattle.index_state.specs.State.{Origin}
use Rattle.tree_trait.specs.Fills.{IsReadOfFile}
use Rattle.tree_trait.specs.Found.{Versions}
use Rattle.tree_trait.specs.Heard.{Heard, open_file, read_at}
use Rattle.tree_trait.specs.Listens.{Listens, loads}
use Rattle.tree_trait.specs.Open.{OpenFacts}
use Rattle.tree_trait.specs.Shown.{ShownTree}
use Rattle.index_desk.specs.Counts.{puts}
use Rattle.index_desk.specs.Ends.{EndShows}
use Rattle.scan_worker.specs.Ends.{uncounted_at}
use Rattle.scan_worker.specs.Read.{AsksParts, heard_reading}
use Rattle.scan_worker.specs.declared.tally.Tally.{Tally}
use Rattle.scan_worker.specs.declared.tally.WorkReport.{WorkReport}

-- an opening of a file of at most 64 GiB, of a path of none of these names; or a read of such a file
abbrev pub IsSparingLoad : List NameFacts → Heard → Type 0
IsSparingLoad spared (open_file path limit answer) = (limit ≡ FILE_LIMIT) × (stamp_at spared path ≡ None)
IsSparingLoad spared (read_at name at answer) = stamp_at spared name.path ≡ None
IsSparingLoad spared _ = ⊥

-- one listed file after the other was opened, and of each none but its parts were read
pub data AreReadings : List Heard → Type 0 where
  no_more : AreReadings []
  one_more : (name : NameFacts) (answer : OpenFacts) (reads more all : List Heard)
      → all ≡ heard_reading name answer reads ++ more → All (IsReadOfFile name) reads → AsksParts name reads
      → AreReadings more → AreReadings all

-- the hand was asked for openings and reads alone, for no path of the skipped names, and for no bytes but those of parts; the
-- openings that were answered are counted, but for so many, up to the largest `u64`
pub record HandLoads (told : Bool) (version : Versions) (spared : List NameFacts) (before after : ShownTree)
    (count later_count left_out : ℕ) : Type 0 where
  pub more : List Heard
  pub listens : Listens told version before after more
  pub spares : All (IsSparingLoad spared) more
  pub parts : AreReadings more
  pub asked : later_count ≤ count + loads more
  pub counted : min (count + loads more) (2 ^ 64 - 1) ≤ later_count + left_out

-- the work from one moment to a later one: the token is a later one; as many names more were put as are counted more, or
-- more; each name that is counted as published or missed was opened
pub record WorksOn (told : Bool) (version : Versions) (seat : SeatFacts Change Origin) (before : ShownTree) (tally : Tally)
    (later_seat : SeatFacts Change Origin) (after : ShownTree) (later_tally : Tally) (left_out : ℕ) : Type 0 where
  pub later : IsLater seat later_seat
  pub published : later_tally.published + puts seat.seen ≤ tally.published + puts later_seat.seen
  pub hand : HandLoads told version seat.origin.spared before after tally.asked later_tally.asked left_out
  pub done : later_tally.published + later_tally.missed ≤ tally.published + tally.missed + loads hand.more

-- the whole work, with its report
pub record Works (told : Bool) (version : Versions) (seat : SeatFacts Change Origin) (before : ShownTree)
    (later_seat : SeatFacts Change Origin) (after : ShownTree) (report : WorkReport) : Type 0 where
  -- the token is a later one of the same lock and origin
  pub later : IsLater seat later_seat
  -- no more names are counted as published than were put since
  pub published : report.published + puts seat.seen ≤ puts later_seat.seen
  -- no more openings are counted than the hand heard, none of them of a path of a skipped name; of each file its parts alone
  -- were read
  pub hand : HandLoads told version seat.origin.spared before after 0 report.asked (uncounted_at report.end)
  -- each name that is counted as published or missed was opened
  pub done : report.published + report.missed ≤ loads hand.more
  -- the log shows the end
  pub ends : EndShows report.end later_seat.seen
