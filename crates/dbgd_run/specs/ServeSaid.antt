-- What a server says, and how it ends (this project's rule): its first line, a line for each door that failed, and the
-- status.
use Rattle.std.specs.Prelude.{◌≡◌, ℕ, ◌||◌, Bool, true, false, List, [], ◌++◌, codes, decimal, Option, Some}
use Rattle.std.specs.List.{flat_map, list_any}
use Rattle.http_wire.specs.Door.{ShownDoor}
use Rattle.http_wire.specs.declared.door.DoorSaid.{DoorSaid}
use Rattle.http_wire.specs.declared.door.DoorSaid.TheVariants as said
use Rattle.conn_server.specs.declared.door.DoorEnd.{DoorEnd}
use Rattle.conn_server.specs.declared.door.DoorEnd.TheVariants as end
use Rattle.dbgd_commands.specs.Endings.{EndsCut, EndsWhole, Gets, Saying, SaysMemory, Streams, fault_saying, out_saying}
use Rattle.dbgd_commands.specs.ScanSaid.{refusal_saying}
use Rattle.dbgd_commands.specs.Texts.{fed_line}
use Rattle.dbgd_commands.specs.declared.status.Status.{Status}
use Rattle.dbgd_commands.specs.declared.status.Status.TheVariants as status
use Rattle.dbgd_run.specs.RoundSaid.{is_cut, is_unmade}
use Rattle.dbgd_run.specs.declared.line_fate.LineFate.{LineFate}
use Rattle.dbgd_run.specs.declared.passes_end.PassesEnd.{PassesEnd}
use Rattle.dbgd_run.specs.declared.passes_end.PassesEnd.TheVariants.{OutFailed, OutOfMemory}
use Rattle.dbgd_run.specs.declared.serve_end.ServeEnd.{ServeEnd}
use Rattle.dbgd_run.specs.declared.serve_end.ServeEnd.TheVariants.{Refused, Unannounced, Unlocked, Served}

-- the first line of a server
abbrev pub serving_line : ℕ → ℕ → List ℕ
serving_line port workers =
    fed_line (codes "serving on " ++ decimal port ++ codes " with " ++ decimal workers ++ codes " workers")

-- what is said with it
abbrev pub serving_saying : ℕ → ℕ → Saying
serving_saying port workers = out_saying (serving_line port workers) status.Done

-- a line was written on the standard output, or refused
abbrev pub Announces : List ℕ → Bool → Streams → Streams → Type 0
Announces line true old new = EndsWhole (out_saying line status.Done) old new status.Done
Announces line false old new = EndsCut (out_saying line status.Done) old new status.Fault

-- whether the serving of a door ended since the door failed
abbrev pub ended_badly : Option DoorEnd → Bool
ended_badly (Some end.Failed) = true
ended_badly _ = false

-- what is said of the end of a door's serving
abbrev pub end_line : Option DoorEnd → List ℕ
end_line (Some end.Failed) = (fault_saying (codes "door")).err
end_line _ = []

-- whether the door failed at its last answer
abbrev pub has_failed : Option DoorSaid → Bool
has_failed (Some said.Failed) = true
has_failed _ = false

-- what is said of a door, by its last answer
abbrev pub door_line : Option DoorSaid → List ℕ
door_line (Some said.Failed) = (fault_saying (codes "door")).err
door_line _ = []

-- the lines of the doors that failed, in order
abbrev pub door_lines : List ShownDoor → List ℕ
door_lines doors = flat_map (λ door. door_line door.last) doors

-- whether some door failed
abbrev pub is_any_failed : List ShownDoor → Bool
is_any_failed doors = list_any (λ door. has_failed door.last) doors

-- whether memory was refused for the line of a pass: of the first one, or of one of those behind it, if there were any
abbrev pub wants_line : LineFate → Option PassesEnd → Bool
wants_line fate (Some OutOfMemory) = true
wants_line fate _ = is_unmade fate

-- whether the standard output refused the line of a pass
abbrev pub has_cut : LineFate → Option PassesEnd → Bool
has_cut fate (Some OutFailed) = true
has_cut fate _ = is_cut fate

-- a fault, or none
abbrev pub fault_or_done : Bool → Status
fault_or_done true = status.Fault
fault_or_done false = status.Done

-- the status of a server that served: want of memory for a line, or a fault where the standard output, a door or the store
-- failed, or none of these
abbrev pub served_status : Bool → Bool → Status
served_status true failed = status.OutOfMemory
served_status false failed = fault_or_done failed

-- what is said behind a serving, by the ends of the doors in order: a line for each that failed, and the status
pub record SaysServed (fate : LineFate) (how : Option PassesEnd) (broken : Bool) (ends : List (Option DoorEnd))
    (old new : Streams) (code : Status) : Type 0 where
  pub out : new.out ≡ old.out
  pub err : Gets (flat_map end_line ends) old.err new.err
  pub status_is : code ≡ served_status (wants_line fate how) (has_cut fate how || (list_any ended_badly ends || broken))

-- what is said of the end of a server, and its status
abbrev pub SaysServeEnd : ServeEnd → List (Option DoorEnd) → Streams → Streams → Status → Type 0
SaysServeEnd (Refused fault) ends old new code = EndsWhole (refusal_saying fault) old new code
SaysServeEnd Unannounced ends old new code = (new ≡ old) × (code ≡ status.Fault)
SaysServeEnd Unlocked ends old new code = SaysMemory old new code
SaysServeEnd (Served fate how broken) ends old new code = SaysServed fate how broken ends old new code
