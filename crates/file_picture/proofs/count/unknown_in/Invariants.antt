use Rattle.std.proofs.Common.{◌≡◌, ◌+◌, ◌-◌, ◌≤◌}
use Rattle.file_picture.specs.Counts.{count_in, is_unknown}
use Rattle.file_picture.proofs.count.unknown_in.Given as goal

abbrev pub invariant-loop-run : goal.invariant-loop-run
invariant-loop-run l =
    (l.at + l.sum ≤ l.from) × (l.from ≤ l.end) × (l.sum + count_in (is_unknown l.picture) l.from (l.end - l.from) ≡ count_in (is_unknown l.picture) l.at l.len)

abbrev pub decreases-loop-run : goal.decreases-loop-run
decreases-loop-run l = l.end - l.from
