use Rattle.std.proofs.Common.{take}
use Rattle.file_picture.specs.Counts.{IsFirstRun, is_among}
use Rattle.file_picture.proofs.count.next_among.Given as goal

abbrev pub invariant-loop-range : goal.invariant-loop-range
invariant-loop-range l = IsFirstRun (is_among (take l.range-index l.ranges)) l.place l.first
