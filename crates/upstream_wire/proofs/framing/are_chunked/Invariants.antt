use Rattle.std.proofs.Common.{◌≡◌, ◌-◌, ◌≤◌, codes, map, drop, length}
use Rattle.std.specs.List.{list_all}
use Rattle.std.specs.Str.{str_eq_ignore_ascii_case}
use Rattle.httparse.specs.Spans.{header_bytes}
use Rattle.upstream_wire.specs.Framing.{values_of}
use Rattle.upstream_wire.proofs.framing.are_chunked.Given as goal

abbrev pub invariant-loop-at : goal.invariant-loop-at
invariant-loop-at l =
    (l.at ≤ length l.headers)
    × (list_all (λ v. str_eq_ignore_ascii_case v (codes "chunked")) (values_of (codes "transfer-encoding") (map (header_bytes l.bytes) (drop l.at l.headers)))
    ≡ list_all (λ v. str_eq_ignore_ascii_case v (codes "chunked")) (values_of (codes "transfer-encoding") (map (header_bytes l.bytes) l.headers)))

abbrev pub decreases-loop-at : goal.decreases-loop-at
decreases-loop-at l = length l.headers - l.at
