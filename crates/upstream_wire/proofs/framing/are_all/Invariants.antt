use Rattle.std.proofs.Common.{◌≡◌, ◌-◌, ◌≤◌, codes, map, drop, length}
use Rattle.std.specs.List.{list_all}
use Rattle.std.specs.Str.{bytes_eq}
use Rattle.httparse.specs.Spans.{header_bytes}
use Rattle.upstream_wire.specs.Framing.{values_of}
use Rattle.upstream_wire.proofs.framing.are_all.Given as goal

abbrev pub invariant-loop-at : goal.invariant-loop-at
invariant-loop-at l =
    (l.at ≤ length l.headers)
    × (list_all (bytes_eq l.value) (values_of (codes "content-length") (map (header_bytes l.bytes) (drop l.at l.headers)))
    ≡ list_all (bytes_eq l.value) (values_of (codes "content-length") (map (header_bytes l.bytes) l.headers)))

abbrev pub decreases-loop-at : goal.decreases-loop-at
decreases-loop-at l = length l.headers - l.at
