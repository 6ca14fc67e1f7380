-- The first ones and those so far.
use Rattle.std.proofs.Common.{◌≡◌, ◌+◌, ◌≤◌, ◌++◌, length, vec_capacity, vec_len}
use Rattle.std.specs.Vec.Iter.{into_iter_items}
use Rattle.dbgd_run.proofs.crew.joined.Given as goal

abbrev pub invariant-loop-other : goal.invariant-loop-other
invariant-loop-other g l =
    (l.yielded ++ into_iter_items l.other-iterator ≡ into_iter_items l.fn.others)
    × (l.all.items ≡ l.fn.first.items ++ l.yielded)
    × (vec_len l.all + length (into_iter_items l.other-iterator) ≡ vec_len l.fn.first + length (into_iter_items l.fn.others))
    × (vec_len l.all + length (into_iter_items l.other-iterator) ≤ vec_capacity l.all)
