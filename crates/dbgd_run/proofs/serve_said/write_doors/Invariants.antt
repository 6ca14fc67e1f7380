-- With what is written of the workers that are left, what was written so far is all of it, or a proper part where that is one.
use Rattle.std.proofs.Common.{drop}
use Rattle.std.specs.List.{flat_map}
use Rattle.http_wire.specs.Sink.{GetsAll, GetsPart}
use Rattle.http_wire.specs.Stream.{ShownStream}
use Rattle.dbgd_run.specs.ServeSaid.{end_line}
use Rattle.dbgd_run.specs.Workers.{ends_at}
use Rattle.dbgd_run.proofs.serve_said.write_doors.Given as goal

abbrev pub invariant-loop-worker : goal.invariant-loop-worker
invariant-loop-worker g l =
    (new : ShownStream)
    → (GetsAll (flat_map end_line (ends_at (drop l.worker-index l.workers))) (g.O.Stream.shows l.err) new
    → GetsAll (flat_map end_line (ends_at l.workers)) (g.O.Stream.shows l.fn.err) new)
    × (GetsPart (flat_map end_line (ends_at (drop l.worker-index l.workers))) (g.O.Stream.shows l.err) new
    → GetsPart (flat_map end_line (ends_at l.workers)) (g.O.Stream.shows l.fn.err) new)
