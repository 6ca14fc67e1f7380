-- Grooming (this project's rule), by the token and the hand that a groomer was given and gives back. Nothing is subtracted:
-- what was there before stands on the other side.
use Rattle.std.specs.Prelude.{◌+◌, ◌≤◌, Bool}
use Rattle.row_types.specs.Faults.{raised}
use Rattle.index_lock.specs.Tokens.{IsLater, SeatFacts}
use Rattle.index_rows.specs.declared.change.Change.{Change}
use Rattle.index_state.specs.State.{Origin}
use Rattle.tree_trait.specs.Found.{Versions}
use Rattle.tree_trait.specs.Shown.{ShownTree}
use Rattle.index_desk.specs.Counts.{drops}
use Rattle.index_desk.specs.Ends.{EndShows}
use Rattle.groomer.specs.Looks.{HandLooks}
use Rattle.groomer.specs.declared.report.GroomReport.{GroomReport}
use Rattle.groomer.specs.declared.report.Tally.{Tally}

-- one missed name more
abbrev pub missed_more : Tally → Tally
missed_more tally = record tally { missed = raised tally.missed }

-- from one moment of it to a later one: the token is a later one, at least as many rows more were dropped as are counted
-- more, and the hand was asked for looks alone
pub record GroomsOn (told : Bool) (version : Versions) (seat : SeatFacts Change Origin) (before : ShownTree) (tally : Tally)
    (later_seat : SeatFacts Change Origin) (after : ShownTree) (later_tally : Tally) : Type 0 where
  pub later : IsLater seat later_seat
  pub dropped : later_tally.dropped + drops seat.seen ≤ tally.dropped + drops later_seat.seen
  pub hand : HandLooks told version before after tally.missed later_tally.missed

-- all of it, with the report
pub record Grooms (told : Bool) (version : Versions) (seat : SeatFacts Change Origin) (before : ShownTree)
    (later_seat : SeatFacts Change Origin) (after : ShownTree) (report : GroomReport) : Type 0 where
  -- the token is a later one of the same lock and origin
  pub later : IsLater seat later_seat
  -- no more rows are counted as dropped than were dropped since
  pub dropped : report.dropped + drops seat.seen ≤ drops later_seat.seen
  -- the hand was asked for looks alone; each one that failed is counted as missed, and no name without a look
  pub hand : HandLooks told version before after 0 report.missed
  -- the log shows the end
  pub ends : EndShows report.end later_seat.seen
