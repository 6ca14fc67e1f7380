-- Sinks (this project's rule): what a write takes, and what was written since.
use Rattle.std.specs.Prelude.{◌≡◌, ℕ, ◌<◌, ◌≤◌, Bool, true, false, List, [], ◌++◌, Option, IsSome}
use Rattle.std.specs.Prelude.{IsTrue, length, take}
use Rattle.std.specs.Option.{option_map}
use Rattle.row_types.specs.Faults.{HasCause, Rose}
use Rattle.http_wire.specs.Calls.{AreCalls, one_call, took}
use Rattle.http_wire.specs.Stream.{LeavesReading, ShownStream}
use Rattle.http_wire.specs.Told.{Gains}
use Rattle.http_wire.specs.declared.sink.WriteAnswer.{WriteAnswer}
use Rattle.http_wire.specs.declared.sink.WriteAnswer.TheVariants.{Took, Failed}

-- a write takes at least one of the bytes, or fails
abbrev pub TakesSome : List ℕ → WriteAnswer → Type 0
TakesSome bytes (Took n) = (0 < n) × (n ≤ length bytes)
TakesSome bytes Failed = Unit {0}

-- the bytes that a write took
abbrev pub front : List ℕ → WriteAnswer → List ℕ
front bytes (Took n) = take n bytes
front bytes Failed = []

-- whether the write failed
abbrev pub write_failed : WriteAnswer → Bool
write_failed Failed = true
write_failed _ = false

-- where it is still told what was written, the bytes were added to it
abbrev pub Appends : Option (List ℕ) → List ℕ → Option (List ℕ) → Type 0
Appends old bytes new = IsSome new → new ≡ option_map (λ written. written ++ bytes) old

-- a write of these bytes: what it took was written and is told; it failed only where the count rose, and the other side stays
pub record WritesStream (bytes : List ℕ) (before after : ShownStream) (answer : WriteAnswer) : Type 0 where
  pub takes : TakesSome bytes answer
  pub appends : Appends before.written (front bytes answer) after.written
  pub told : Gains before.calls (one_call took (front bytes answer)) after.calls
  pub cause : HasCause before.write_faults after.write_faults (IsTrue (write_failed answer))
  pub reading : LeavesReading before after

-- all the bytes were written
pub record GetsAll (bytes : List ℕ) (before after : ShownStream) : Type 0 where
  pub appends : Appends before.written bytes after.written
  pub calls : AreCalls took bytes before.calls after.calls
  pub later : before.write_faults ≤ after.write_faults
  pub reading : LeavesReading before after

-- a write failed, and a proper prefix of the bytes was written
pub record GetsPart (bytes : List ℕ) (before after : ShownStream) : Type 0 where
  pub count : ℕ
  pub proper : count < length bytes
  pub appends : Appends before.written (take count bytes) after.written
  pub calls : AreCalls took (take count bytes) before.calls after.calls
  pub later : before.write_faults ≤ after.write_faults
  pub rose : Rose before.write_faults after.write_faults
  pub reading : LeavesReading before after
