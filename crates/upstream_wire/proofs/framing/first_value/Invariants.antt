use Rattle.std.proofs.Common.{◌≡◌, ◌-◌, ◌≤◌, map, drop, length}
use Rattle.httparse.specs.Spans.{header_bytes}
use Rattle.upstream_wire.specs.Framing.{values_of}
use Rattle.upstream_wire.proofs.framing.first_value.Given as goal

abbrev pub invariant-loop-at : goal.invariant-loop-at
invariant-loop-at l =
    (l.at ≤ length l.headers)
    × (values_of l.name (map (header_bytes l.bytes) (drop l.at l.headers)) ≡ values_of l.name (map (header_bytes l.bytes) l.headers))

abbrev pub decreases-loop-at : goal.decreases-loop-at
decreases-loop-at l = length l.headers - l.at
