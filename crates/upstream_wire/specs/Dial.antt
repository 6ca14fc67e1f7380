-- Dials (this project's rule): what one shows, and what its calls change.
use Rattle.std.specs.Prelude.{◌≡◌, ℕ, ◌≤◌, List, [], ◌∷◌, Option}
use Rattle.row_types.specs.Faults.{Rose, summed}
use Rattle.http_wire.specs.Stream.{ShownStream}
use Rattle.http_wire.specs.Told.{Gains}
use Rattle.upstream_wire.specs.declared.dial.DialAnswer.{DialAnswer}
use Rattle.upstream_wire.specs.declared.dial.DialAnswer.TheVariants.{Connected, Failed, OutOfMemory}

-- a connection that was given: the host and the port that were asked, and what it showed as it came
pub record GivenConn : Type 0 where
  pub host : List ℕ
  pub port : ℕ
  pub shown : ShownStream

-- the connections that were given, and those that were taken back, as they were then, in order, where they are told; and the
-- count of faults
pub record ShownDial : Type 0 where
  pub given : Option (List GivenConn)
  pub ended : Option (List ShownStream)
  pub faults : ℕ

-- an answer, with what its connection shows in the place of that
pub data Dialled : Type 0 where
  connected : ShownStream → Dialled
  failed : Dialled
  memory : Dialled

-- the same of the code's answer
abbrev pub dialled : {C : Type 0} → (C → ShownStream) → DialAnswer C → Dialled
dialled shows (Connected conn) = connected (shows conn)
dialled shows Failed = failed
dialled shows OutOfMemory = memory

-- a connection was given; or none was, and the count rose; or memory was refused and nothing changed
abbrev pub Connects : ShownDial → List ℕ → ℕ → Dialled → ShownDial → Type 0
Connects before host port (connected shown) after =
    Gains before.given (record { host = host; port = port; shown = shown } ∷ []) after.given
    × (after.ended ≡ before.ended) × (before.faults ≤ after.faults)
Connects before host port failed after =
    (after.given ≡ before.given) × (after.ended ≡ before.ended) × Rose before.faults after.faults
Connects before host port memory after = after ≡ before

-- a connection was taken back, and its faults were added to the count
pub record TakesDialledBack (before : ShownDial) (conn : ShownStream) (after : ShownDial) : Type 0 where
  pub given : after.given ≡ before.given
  pub ended : Gains before.ended (conn ∷ []) after.ended
  pub faults : after.faults ≡ summed (summed before.faults conn.read_faults) conn.write_faults
  pub later : before.faults ≤ after.faults
