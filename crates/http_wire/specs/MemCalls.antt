-- The calls of a stream in memory (this project's rule): which side each one is on, and its bytes.
use Rattle.std.specs.Prelude.{ℕ, Bool, true, false, List}
use Rattle.http_wire.specs.Calls.{StreamCall, gave, took}

-- a call on one side with these bytes
abbrev pub call_of : Bool → List ℕ → StreamCall
call_of true bytes = took bytes
call_of false bytes = gave bytes

-- whether a call is a write
abbrev pub is_took : StreamCall → Bool
is_took (took bytes) = true
is_took (gave bytes) = false

-- the bytes of a call
abbrev pub call_bytes : StreamCall → List ℕ
call_bytes (took bytes) = bytes
call_bytes (gave bytes) = bytes
