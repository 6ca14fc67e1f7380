-- The door in memory (this project's rule): it gives its connections in order, and then says that none comes any more.
use Rattle.std.specs.Prelude.{Bool, true, false, List, [], ◌∷◌, Option, Some}
use Rattle.http_wire.specs.Door.{DoorCall, ShownDoor, arrived, handed_back}
use Rattle.http_wire.specs.MemConn.{ConnFacts, shown_conn}
use Rattle.http_wire.specs.declared.door.DoorAnswer.{DoorAnswer}
use Rattle.http_wire.specs.declared.door.DoorAnswer.TheVariants.{Came, Closed}
use Rattle.http_wire.specs.declared.door.DoorSaid.{DoorSaid}
use Rattle.http_wire.specs.declared.door.DoorSaid.TheVariants as said

-- the connections to come, in order; those that were taken back, as they were then, where they are told; the calls, where they
-- are told; and the last answer, where one was given
pub record DoorFacts : Type 0 where
  pub waiting : List ConnFacts
  pub ended : Option (List ConnFacts)
  pub calls : Option (List DoorCall)
  pub last : Option DoorSaid

-- what it shows: it never fails
abbrev pub shown_door : DoorFacts → ShownDoor
shown_door door = record { last = door.last; calls = door.calls; faults = 0 }

-- what the next accept answers, where these are to come
abbrev pub next_conn : List ConnFacts → DoorAnswer ConnFacts
next_conn [] = Closed
next_conn (conn ∷ later) = Came conn

-- the door after the next accept, where these are to come, but for its calls
abbrev pub after_conn : DoorFacts → List ConnFacts → DoorFacts
after_conn door [] = record door { last = Some said.Closed }
after_conn door (conn ∷ later) = record door { waiting = later; last = Some said.Came }

-- a connection came or was taken back
abbrev pub door_call_of : Bool → ConnFacts → DoorCall
door_call_of true conn = arrived (shown_conn conn)
door_call_of false conn = handed_back (shown_conn conn)

-- whether a connection came
abbrev pub is_arrived : DoorCall → Bool
is_arrived (arrived conn) = true
is_arrived (handed_back conn) = false
