-- What a command says on its two sinks, and how it ends (this project's rule).
use Rattle.std.specs.Prelude.{◌≡◌, ◌⊎◌, ℕ, List, [], ◌++◌, codes}
use Rattle.http_wire.specs.Sink.{GetsAll, GetsPart}
use Rattle.http_wire.specs.Stream.{ShownStream}
use Rattle.dbgd_commands.specs.Texts.{fed_line}
use Rattle.dbgd_commands.specs.declared.status.Status.{Status}
use Rattle.dbgd_commands.specs.declared.status.Status.TheVariants.{Fault, Absent, Limit, OutOfMemory}

-- what is to be written on the standard output and on the standard error, and the status
pub record Saying : Type 0 where
  pub out : List ℕ
  pub err : List ℕ
  pub status : Status

-- bytes on the standard output alone
abbrev pub out_saying : List ℕ → Status → Saying
out_saying bytes status = record { out = bytes; err = []; status = status }

-- a line on the standard error alone
abbrev pub error_saying : List ℕ → Status → Saying
error_saying text status = record { out = []; err = fed_line text; status = status }

-- of a failed call of an object of the outside
abbrev pub fault_saying : List ℕ → Saying
fault_saying what = error_saying (codes "dbgd: fault " ++ what) Fault

-- of a limit that was met
abbrev pub limit_saying : List ℕ → Saying
limit_saying what = error_saying (codes "dbgd: limit " ++ what) Limit

-- where no regular file or no folder is
abbrev pub gone_saying : List ℕ → Saying
gone_saying path = error_saying (codes "dbgd: gone " ++ path) Absent

-- where memory was refused
abbrev pub no_memory_saying : Saying
no_memory_saying = error_saying (codes "dbgd: out of memory") OutOfMemory

-- what the two sinks show at a moment
pub record Streams : Type 0 where
  pub out : ShownStream
  pub err : ShownStream

-- what these two sinks show
abbrev pub streams : {O : Type 0} → (O → ShownStream) → O → O → Streams
streams shows out err = record { out = shows out; err = shows err }

-- a sink got all of the bytes; or a proper prefix of them, and its count rose
abbrev pub Gets : List ℕ → ShownStream → ShownStream → Type 0
Gets bytes before after = GetsAll bytes before after ⊎ GetsPart bytes before after

-- the standard output got all that was to be said, and the command ends as it says
pub record EndsWhole (saying : Saying) (old new : Streams) (status : Status) : Type 0 where
  pub ends : status ≡ saying.status
  pub out : GetsAll saying.out old.out new.out
  pub err : Gets saying.err old.err new.err

-- a write to the standard output failed: it got a proper prefix of what was to be said, and that is said in its place
pub record EndsCut (saying : Saying) (old new : Streams) (status : Status) : Type 0 where
  pub ends : status ≡ Fault
  pub out : GetsPart saying.out old.out new.out
  pub err : Gets (fault_saying (codes "output")).err old.err new.err

-- what is to be said was said, or as much of it as the standard output took
abbrev pub EndsSaying : Saying → Streams → Streams → Status → Type 0
EndsSaying saying old new status = EndsWhole saying old new status ⊎ EndsCut saying old new status

-- memory was refused before anything was written, and that is said
abbrev pub SaysMemory : Streams → Streams → Status → Type 0
SaysMemory old new status = EndsWhole no_memory_saying old new status
