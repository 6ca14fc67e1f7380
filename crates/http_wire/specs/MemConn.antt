-- The connection in memory (this project's rule): reads fail by number, and give what fits, up to a cut by number.
use Rattle.std.specs.Prelude.{ℕ, ◌==◌, Bool, if◌then◌else◌, List, Option, drop, length, min, slice_get, unwrap_or}
use Rattle.std.specs.List.{list_any}
use Rattle.row_types.specs.Faults.{raised}
use Rattle.http_wire.specs.Calls.{StreamCall}
use Rattle.http_wire.specs.MemSink.{SinkFacts}
use Rattle.http_wire.specs.Stream.{ShownStream}
use Rattle.http_wire.specs.declared.source.ReadAnswer.{ReadAnswer}
use Rattle.http_wire.specs.declared.source.ReadAnswer.TheVariants.{Bytes, End, Failed}
use Rattle.std.specs.Prelude.{Some}

-- the bytes left to read, the cuts by number, the reads that fail, the next read's number, the count of failed reads, the
-- written side, and the calls on both sides, where they are told
pub record ConnFacts : Type 0 where
  pub left : List ℕ
  pub cuts : List ℕ
  pub bad_reads : List ℕ
  pub reads : ℕ
  pub read_faults : ℕ
  pub sink : SinkFacts
  pub calls : Option (List StreamCall)

-- what it shows
abbrev pub shown_conn : ConnFacts → ShownStream
shown_conn conn = record {
  left = Some conn.left;
  read_faults = conn.read_faults;
  written = conn.sink.written;
  write_faults = conn.sink.faults;
  calls = conn.calls;
}

-- whether the next read's number is among those that fail
abbrev pub is_bad_read : ConnFacts → Bool
is_bad_read conn = list_any (λ n. n == conn.reads) conn.bad_reads

-- how many bytes the next read gives into so much room, where it doesn't fail
abbrev pub next_count : ConnFacts → ℕ → ℕ
next_count conn room =
    let fits = min room (length conn.left) in
    min fits (unwrap_or (slice_get conn.cuts conn.reads) fits)

-- what the next read into so much room answers
abbrev pub next_read : ConnFacts → ℕ → ReadAnswer
next_read conn room =
    if is_bad_read conn then Failed
    else if next_count conn room == 0 then End else Bytes (next_count conn room)

-- how many bytes the next read takes from those left
abbrev pub taken : ConnFacts → ℕ → ℕ
taken conn room = if is_bad_read conn then 0 else next_count conn room

-- the connection after the next read into so much room, but for its calls
abbrev pub after_read : ConnFacts → ℕ → ConnFacts
after_read conn room = record conn {
  left = drop (taken conn room) conn.left;
  reads = raised conn.reads;
  read_faults = if is_bad_read conn then raised conn.read_faults else conn.read_faults;
}
