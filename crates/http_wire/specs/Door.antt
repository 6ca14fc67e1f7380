-- Doors (this project's rule): what one shows, and what its calls change.
use Rattle.std.specs.Prelude.{◌≡◌, ℕ, List, [], ◌∷◌, Option, Some}
use Rattle.row_types.specs.Faults.{HasCause}
use Rattle.http_wire.specs.Stream.{ShownStream}
use Rattle.http_wire.specs.Told.{Gains}
use Rattle.http_wire.specs.declared.door.DoorAnswer.{DoorAnswer}
use Rattle.http_wire.specs.declared.door.DoorAnswer.TheVariants.{Came, Closed, Failed}
use Rattle.http_wire.specs.declared.door.DoorSaid.{DoorSaid}
use Rattle.http_wire.specs.declared.door.DoorSaid.TheVariants as said

-- a connection came, as it was then, or was handed back, as it was then
pub data DoorCall : Type 0 where
  arrived : ShownStream → DoorCall
  handed_back : ShownStream → DoorCall

-- its last answer, where it gave one; the connections that came and those that were handed back, in one list in order, where
-- they are told; and the count of faults
pub record ShownDoor : Type 0 where
  pub last : Option DoorSaid
  pub calls : Option (List DoorCall)
  pub faults : ℕ

-- an answer without its connection
abbrev pub said_of : {C : Type 0} → DoorAnswer C → DoorSaid
said_of (Came conn) = said.Came
said_of Closed = said.Closed
said_of Failed = said.Failed

-- the connection that came, if one did
abbrev pub arrivals : {C : Type 0} → (C → ShownStream) → DoorAnswer C → List DoorCall
arrivals shows (Came conn) = arrived (shows conn) ∷ []
arrivals shows _ = []

-- an accept was answered: what came is told, and it failed only where the count rose
pub record Accepts {C : Type 0} (shows : C → ShownStream) (before : ShownDoor) (answer : DoorAnswer C) (after : ShownDoor)
    : Type 0 where
  pub last : after.last ≡ Some (said_of answer)
  pub told : Gains before.calls (arrivals shows answer) after.calls
  pub cause : HasCause before.faults after.faults (said_of answer ≡ said.Failed)

-- a connection was taken back, which is told
pub record TakesConnectionBack (conn : ShownStream) (before after : ShownDoor) : Type 0 where
  pub last : after.last ≡ before.last
  pub told : Gains before.calls (handed_back conn ∷ []) after.calls
  pub faults : after.faults ≡ before.faults
