-- Questions over a dial (this project's rule).
use Rattle.std.specs.Prelude.{◌≡◌, ℕ, ◌≤◌, ◌⊎◌, List, [], ◌∷◌, ◌++◌, map}
use Rattle.std.specs.List.{concat}
use Rattle.row_types.specs.Faults.{Rose}
use Rattle.http_wire.specs.Calls.{gave, took}
use Rattle.http_wire.specs.Sink.{Appends}
use Rattle.http_wire.specs.Stream.{LeavesWriting, ShownStream}
use Rattle.http_wire.specs.Told.{Gains}
use Rattle.upstream_wire.specs.Dial.{ShownDial}
use Rattle.upstream_wire.specs.Reads.{IsOnlyResponse, OfLeft}
use Rattle.upstream_wire.specs.Takes.{OnlyGives}
use Rattle.upstream_wire.specs.Response.{HasNoWholeResponse, IsWholeResponse}
use Rattle.upstream_wire.specs.declared.exchange.Answer.{Answer}
use Rattle.upstream_wire.specs.declared.exchange.Answer.TheVariants.{Failed, OutOfMemory, Response}
use Rattle.upstream_wire.specs.declared.fault.ResponseFault.{ResponseFault}
use Rattle.upstream_wire.specs.declared.fault.ResponseFault.TheVariants as fault

-- what an answer says of what a connection held as it came: it begins with that response, and with no other; or something failed, or it begins
-- with none
abbrev pub SaysOfHeld : Answer → ShownStream → Type 0 → Type 0
SaysOfHeld (Response r) came Fails =
    OfLeft came (λ held. IsWholeResponse held r.status r.body.items × IsOnlyResponse held r.status r.body.items)
SaysOfHeld Failed came Fails = Fails ⊎ OfLeft came HasNoWholeResponse
SaysOfHeld OutOfMemory came Fails = Unit {0}

-- one of the counts of a connection rose
abbrev pub StreamFailed : ShownStream → ShownStream → Type 0
StreamFailed came gone = Rose came.read_faults gone.read_faults ⊎ Rose came.write_faults gone.write_faults

-- a request was written whole, and all of it was taken before the first byte that was given
pub record WritesFirst (request : List ℕ) (came gone : ShownStream) : Type 0 where
  pub written : Appends came.written request gone.written
  pub taken : List (List ℕ)
  pub given : List (List ℕ)
  pub all : request ≡ concat taken
  pub told : Gains came.calls (map took taken ++ map gave given) gone.calls

-- a request was written whole unless a write failed, and then an answer was read
pub record ExchangesOver (came : ShownStream) (request : List ℕ) (gone : ShownStream) (answer : Answer) : Type 0 where
  pub writes : WritesFirst request came gone ⊎ Rose came.write_faults gone.write_faults
  pub says : SaysOfHeld answer came (StreamFailed came gone)
  pub later : (came.read_faults ≤ gone.read_faults) × (came.write_faults ≤ gone.write_faults)

-- an answer was read
pub record ReadsAnswerOf (came : ShownStream) (answer : Answer) (gone : ShownStream) : Type 0 where
  pub says : SaysOfHeld answer came (Rose came.read_faults gone.read_faults)
  pub later : came.read_faults ≤ gone.read_faults
  pub given : OnlyGives came gone
  pub writing : LeavesWriting came gone

-- what came of a question whose response wasn't read
abbrev pub failed_by : ResponseFault → Answer
failed_by fault.NoResponse = Failed
failed_by fault.ReadFault = Failed
failed_by fault.OutOfMemory = OutOfMemory

-- a connection came and went: the request was written whole, before the response was read, unless the dial's count rose; and
-- the answer is that of what the connection held as it came
pub record AsksConn
    (before : ShownDial) (host : List ℕ) (port : ℕ) (request : List ℕ) (answer : Answer) (after : ShownDial) : Type 0 where
  pub came : ShownStream
  pub gone : ShownStream
  pub given : Gains before.given (record { host = host; port = port; shown = came } ∷ []) after.given
  pub ended : Gains before.ended (gone ∷ []) after.ended
  pub writes : WritesFirst request came gone ⊎ Rose before.faults after.faults
  pub says : SaysOfHeld answer came (Rose before.faults after.faults)
  pub later : before.faults ≤ after.faults

-- no connection came, and the count rose
pub record AsksNone (before : ShownDial) (answer : Answer) (after : ShownDial) : Type 0 where
  pub given : after.given ≡ before.given
  pub ended : after.ended ≡ before.ended
  pub fails : answer ≡ Failed
  pub rose : Rose before.faults after.faults

-- memory was refused, and nothing changed
pub record AsksMemory (before : ShownDial) (answer : Answer) (after : ShownDial) : Type 0 where
  pub same : after ≡ before
  pub memory : answer ≡ OutOfMemory

-- a question over a dial
abbrev pub AsksDial : ShownDial → List ℕ → ℕ → List ℕ → Answer → ShownDial → Type 0
AsksDial before host port request answer after =
    AsksConn before host port request answer after ⊎ (AsksNone before answer after ⊎ AsksMemory before answer after)
