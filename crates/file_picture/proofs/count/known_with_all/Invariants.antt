use Rattle.std.proofs.Common.{◌≡◌, ◌+◌, ◌-◌, ◌≤◌}
use Rattle.file_picture.specs.Counts.{count_in}
use Rattle.file_picture.specs.Picture.{sum_of}
use Rattle.file_picture.proofs.AmongLemmas.{is_missed}
use Rattle.file_picture.proofs.count.known_with_all.Given as goal

abbrev pub invariant-loop-from : goal.invariant-loop-from
invariant-loop-from l =
    (l.place ≤ l.picture.size) × (l.sum ≡ sum_of l.picture.pieces + count_in (is_missed l.picture l.ranges) 0 l.place)

abbrev pub decreases-loop-from : goal.decreases-loop-from
decreases-loop-from l = l.picture.size - l.place
