-- The sink in memory (this project's rule): it fails at listed writes, and takes each other piece whole.
use Rattle.std.specs.Prelude.{ℕ, ◌==◌, Bool, if◌then◌else◌, List, Option, None, length}
use Rattle.std.specs.List.{list_any}
use Rattle.row_types.specs.Faults.{raised}
use Rattle.http_wire.specs.Calls.{StreamCall}
use Rattle.http_wire.specs.Stream.{ShownStream}
use Rattle.http_wire.specs.declared.sink.WriteAnswer.{WriteAnswer}
use Rattle.http_wire.specs.declared.sink.WriteAnswer.TheVariants.{Took, Failed}

-- the bytes so far, where they are told, the writes that fail, the next write's number, the count of faults, and the calls,
-- where they are told
pub record SinkFacts : Type 0 where
  pub written : Option (List ℕ)
  pub bad_writes : List ℕ
  pub writes : ℕ
  pub faults : ℕ
  pub calls : Option (List StreamCall)

-- what it shows: it can't be read
abbrev pub shown_sink : SinkFacts → ShownStream
shown_sink sink = record {
  left = None;
  read_faults = 0;
  written = sink.written;
  write_faults = sink.faults;
  calls = sink.calls;
}

-- whether the next write's number is among those that fail
abbrev pub is_bad : SinkFacts → Bool
is_bad sink = list_any (λ n. n == sink.writes) sink.bad_writes

-- what the next write of this piece answers
abbrev pub next_answer : SinkFacts → List ℕ → WriteAnswer
next_answer sink bytes = if is_bad sink then Failed else Took (length bytes)

-- the count of faults after the next write
abbrev pub next_faults : SinkFacts → ℕ
next_faults sink = if is_bad sink then raised sink.faults else sink.faults
