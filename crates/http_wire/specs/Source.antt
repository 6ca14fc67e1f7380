-- Sources (this project's rule): what a read gives, and what is left since.
use Rattle.std.specs.Prelude.{◌≡◌, ℕ, ◌<◌, ◌≤◌, Bool, true, false, List, [], ◌++◌, Option, Some, IsSome}
use Rattle.std.specs.Prelude.{IsTrue, length, take}
use Rattle.std.specs.Option.{option_map}
use Rattle.row_types.specs.Faults.{HasCause}
use Rattle.http_wire.specs.Calls.{gave, one_call}
use Rattle.http_wire.specs.Stream.{LeavesWriting, ShownStream}
use Rattle.http_wire.specs.Told.{Gains}
use Rattle.http_wire.specs.declared.source.ReadAnswer.{ReadAnswer}
use Rattle.http_wire.specs.declared.source.ReadAnswer.TheVariants.{Bytes, End, Failed}

-- where it is told what was left to read, it was these bytes and what is left now
abbrev pub ComesFrom : Option (List ℕ) → List ℕ → Option (List ℕ) → Type 0
ComesFrom old came new = old ≡ option_map (λ left. came ++ left) new

-- where it is told what is left to read, it is nothing
abbrev pub HasEnded : Option (List ℕ) → Type 0
HasEnded left = IsSome left → left ≡ Some []

-- whether the read failed
abbrev pub read_failed : ReadAnswer → Bool
read_failed Failed = true
read_failed _ = false

-- the bytes that a read into this room gave
abbrev pub bytes_given : List ℕ → ReadAnswer → List ℕ
bytes_given room (Bytes n) = take n room
bytes_given room _ = []

-- a read gives at least one of the bytes left; or it gives none, at the end and where it failed
abbrev pub GivesBytes : List ℕ → Option (List ℕ) → Option (List ℕ) → ReadAnswer → Type 0
GivesBytes room old new (Bytes n) = (0 < n) × (n ≤ length room) × ComesFrom old (take n room) new
GivesBytes room old new End = (new ≡ old) × HasEnded new
GivesBytes room old new Failed = new ≡ old

-- a read into this room: what came, which is told; it failed only where the count rose, and the other side stays
pub record ReadsStream (room : List ℕ) (before after : ShownStream) (answer : ReadAnswer) : Type 0 where
  pub gives : GivesBytes room before.left after.left answer
  pub told : Gains before.calls (one_call gave (bytes_given room answer)) after.calls
  pub cause : HasCause before.read_faults after.read_faults (IsTrue (read_failed answer))
  pub writing : LeavesWriting before after
