-- A question over a dial.
use Rattle.std.proofs.Common.{◌≡◌, ℕ, ◌≤◌, ◌⊎◌, inl, inr, List, [], ◌∷◌, map, sym, subst, ◌∙◌, arith}
use Rattle.row_types.specs.Faults.{Rose}
use Rattle.http_wire.specs.Calls.{gave, took}
use Rattle.http_wire.specs.Sink.{Appends, GetsAll, GetsPart}
use Rattle.http_wire.specs.Stream.{LeavesWriting, ShownStream}
use Rattle.http_wire.specs.Told.{Gains}
use Rattle.upstream_wire.specs.Ask.{AsksDial, ExchangesOver, ReadsAnswerOf, SaysOfHeld, StreamFailed, WritesFirst, failed_by}
use Rattle.upstream_wire.specs.Dial.{Connects, ShownDial, TakesDialledBack, connected}
use Rattle.upstream_wire.specs.Reads.{FailsResponse}
use Rattle.upstream_wire.specs.Takes.{OnlyGives}
use Rattle.http_wire.proofs.CallLemmas.{gains_both}
use Rattle.upstream_wire.specs.declared.exchange.Answer.{Answer}
use Rattle.upstream_wire.specs.declared.exchange.Answer.TheVariants.{Failed, OutOfMemory, Response}
use Rattle.upstream_wire.specs.declared.fault.ResponseFault.{ResponseFault}
use Rattle.upstream_wire.specs.declared.fault.ResponseFault.TheVariants as fault

-- a fault of the connection raises the dial's count
rose_by : (before mid after : ShownDial) (came gone : ShownStream) → before.faults ≤ mid.faults → TakesDialledBack mid gone after
    → StreamFailed came gone → Rose before.faults after.faults
rose_by before mid after came gone later ends (inl reads) = let e = ends.faults in omega (arith, reads)
rose_by before mid after came gone later ends (inr writes) = let e = ends.faults in omega (arith, writes)

later_by : (before mid after : ShownDial) (gone : ShownStream) → before.faults ≤ mid.faults → TakesDialledBack mid gone after
    → before.faults ≤ after.faults
later_by before mid after gone later ends = let e = ends.later in omega arith

says_by : (answer : Answer) (came : ShownStream) (Fails More : Type 0) → (Fails → More) → SaysOfHeld answer came Fails
    → SaysOfHeld answer came More
says_by (Response r) came Fails More more says = says
says_by Failed came Fails More more (inl fails) = inl (more fails)
says_by Failed came Fails More more (inr none) = inr none
says_by OutOfMemory came Fails More more says = says

-- the whole question
pub asks_conn : (before mid after : ShownDial) (host : List ℕ) (port : ℕ) (request : List ℕ) (came gone : ShownStream)
    (answer : Answer) → Connects before host port (connected came) mid → ExchangesOver came request gone answer
    → TakesDialledBack mid gone after → AsksDial before host port request answer after
asks_conn before mid after host port request came gone answer connects exchanges ends = inl record {
  came = came;
  gone = gone;
  given = subst (λ told. Gains before.given (record { host = host; port = port; shown = came } ∷ []) told)
      (sym ends.given) connects.0;
  ended = subst (λ told. Gains told (gone ∷ []) after.ended) connects.1 ends.ended;
  writes = by_writes exchanges.writes;
  says = says_by answer came (StreamFailed came gone) (Rose before.faults after.faults)
      (rose_by before mid after came gone connects.2 ends) exchanges.says;
  later = later_by before mid after gone connects.2 ends;
}
  where
    by_writes : WritesFirst request came gone ⊎ Rose came.write_faults gone.write_faults
        → WritesFirst request came gone ⊎ Rose before.faults after.faults
    by_writes (inl all) = inl all
    by_writes (inr rose) = inr (rose_by before mid after came gone connects.2 ends (inr rose))

-- what was left before the request was written is what is left behind it
says_from : (answer : Answer) (came mid gone : ShownStream) → mid.left ≡ came.left → mid.read_faults ≡ came.read_faults
    → SaysOfHeld answer mid (Rose mid.read_faults gone.read_faults) → SaysOfHeld answer came (StreamFailed came gone)
says_from (Response r) came mid gone left count says = λ held tells. says held (left ∙ tells)
says_from Failed came mid gone left count (inl rose) = inl (inl (subst (λ n. Rose n gone.read_faults) count rose))
says_from Failed came mid gone left count (inr none) = inr (λ held tells. none held (left ∙ tells))
says_from OutOfMemory came mid gone left count says = tt

-- the request was written, and an answer read
pub exchanges : (came mid gone : ShownStream) (request : List ℕ) (answer : Answer) → GetsAll request came mid
    → ReadsAnswerOf mid answer gone → ExchangesOver came request gone answer
exchanges came mid gone request answer gets reads = record {
  writes = inl record {
    written = subst (λ w. Appends came.written request w) (sym reads.writing.written) gets.appends;
    taken = gets.calls.pieces;
    given = reads.given.reads.pieces;
    all = gets.calls.all;
    told = gains_both came.calls mid.calls gone.calls (map took gets.calls.pieces) (map gave reads.given.reads.pieces)
        gets.calls.told reads.given.reads.told;
  };
  says = says_from answer came mid gone gets.reading.left gets.reading.read_faults reads.says;
  later =
      let a = gets.later in
      let b = gets.reading.read_faults in
      let c = reads.later in
      let d = reads.writing.write_faults in
      (omega arith, omega arith);
}

-- the request wasn't written whole
pub exchanges_none : (came gone : ShownStream) (request : List ℕ) → GetsPart request came gone
    → ExchangesOver came request gone Failed
exchanges_none came gone request gets = record {
  writes = inr gets.rose;
  says = inl (inr gets.rose);
  later =
      let a = gets.later in
      let b = gets.reading.read_faults in
      (omega arith, omega arith);
}

-- no response was read
pub answers_failed : (came gone : ShownStream) (f : ResponseFault) → FailsResponse f came gone
    → came.read_faults ≤ gone.read_faults → OnlyGives came gone → LeavesWriting came gone
    → ReadsAnswerOf came (failed_by f) gone
answers_failed came gone fault.NoResponse fails later given writing =
    record { says = inr fails; later = later; given = given; writing = writing }
answers_failed came gone fault.ReadFault fails later given writing =
    record { says = inl fails; later = later; given = given; writing = writing }
answers_failed came gone fault.OutOfMemory fails later given writing =
    record { says = tt; later = later; given = given; writing = writing }
