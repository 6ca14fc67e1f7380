-- So far the bytes in front were written.
use Rattle.std.proofs.Common.{◌-◌, ◌≤◌, length, take}
use Rattle.http_wire.specs.Sink.{GetsAll}
use Rattle.http_wire.proofs.sink.write_all.Given as goal

abbrev pub invariant-loop-at : goal.invariant-loop-at
invariant-loop-at g l =
    (l.at ≤ length l.bytes) × GetsAll (take l.at l.bytes) (g.S.Stream.shows l.fn.sink) (g.S.Stream.shows l.sink)

abbrev pub decreases-loop-at : goal.decreases-loop-at
decreases-loop-at g l = length l.bytes - l.at
