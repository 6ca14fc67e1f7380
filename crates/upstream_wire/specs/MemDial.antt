-- The dial in memory (this project's rule): it gives its connections in order, and then fails.
use Rattle.std.specs.Prelude.{◌≡◌, ℕ, List, [], ◌∷◌, ◌++◌, map, Option, Some}
use Rattle.std.specs.Option.{option_map}
use Rattle.row_types.specs.Faults.{raised, summed}
use Rattle.http_wire.specs.MemConn.{ConnFacts}
use Rattle.http_wire.specs.Stream.{ShownStream}
use Rattle.upstream_wire.specs.Dial.{GivenConn, ShownDial}
use Rattle.upstream_wire.specs.declared.dial.DialAnswer.{DialAnswer}
use Rattle.upstream_wire.specs.declared.dial.DialAnswer.TheVariants.{Connected, Failed, OutOfMemory}

-- a connection in memory, and how many of its reads and writes have failed since it was given
pub record DialConnFacts : Type 0 where
  pub conn : ConnFacts
  pub reads : ℕ
  pub writes : ℕ

-- a connection that is given
abbrev pub fresh_conn : ConnFacts → DialConnFacts
fresh_conn conn = record { conn = conn; reads = 0; writes = 0 }

-- what it shows
abbrev pub shown_dialled : DialConnFacts → ShownStream
shown_dialled c = record {
  left = Some c.conn.left;
  read_faults = c.reads;
  written = c.conn.sink.written;
  write_faults = c.writes;
  calls = c.conn.calls;
}

-- a connection that was given to a host and a port
abbrev pub given_of : List ℕ → ℕ → ConnFacts → GivenConn
given_of host port conn = record { host = host; port = port; shown = shown_dialled (fresh_conn conn) }

-- the connections to come, in order; those that were given; those that were taken back, as they were then, where they are
-- told; and the count of faults
pub record DialFacts : Type 0 where
  pub waiting : List ConnFacts
  pub given : List GivenConn
  pub ended : Option (List DialConnFacts)
  pub faults : ℕ

-- what it shows
abbrev pub shown_dial : DialFacts → ShownDial
shown_dial dial = record {
  given = Some dial.given;
  ended = option_map (map shown_dialled) dial.ended;
  faults = dial.faults;
}

-- a count, and that of a connection
abbrev pub counted : ℕ → DialConnFacts → ℕ
counted faults conn = summed (summed faults conn.reads) conn.writes

-- the next connection was given; or memory was refused and nothing changed
abbrev pub GivesFirst : DialFacts → List ℕ → ℕ → DialAnswer DialConnFacts → DialFacts → ConnFacts → List ConnFacts → Type 0
GivesFirst old host port (Connected conn) new first later =
    (conn ≡ fresh_conn first)
    × (new ≡ record old { waiting = later; given = old.given ++ given_of host port first ∷ [] })
GivesFirst old host port Failed new first later = ⊥
GivesFirst old host port OutOfMemory new first later = new ≡ old

-- what the next connect answers, and what it leaves, where these are to come
abbrev pub GivesConn : DialFacts → List ℕ → ℕ → DialAnswer DialConnFacts → DialFacts → List ConnFacts → Type 0
GivesConn old host port answer new [] = (answer ≡ Failed) × (new ≡ record old { faults = raised old.faults })
GivesConn old host port answer new (first ∷ later) = GivesFirst old host port answer new first later
