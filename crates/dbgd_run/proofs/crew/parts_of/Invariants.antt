-- The hands, the doors and the rows of links so far are those that were there, and those of the workers so far.
use Rattle.std.proofs.Common.{◌≡◌, ◌+◌, ◌++◌, length, vec_capacity, vec_len}
use Rattle.std.specs.Vec.Iter.{into_iter_items, into_iter_len}
use Rattle.dbgd_run.specs.Workers.{doors_at, hands_at, links_at}
use Rattle.dbgd_run.proofs.crew.parts_of.Given as goal

abbrev pub invariant-loop-worker : goal.invariant-loop-worker
invariant-loop-worker g l =
    (l.yielded ++ into_iter_items l.worker-iterator ≡ into_iter_items l.initial.worker-iterator)
    × (into_iter_len l.worker-iterator ≡ length (into_iter_items l.worker-iterator))
    × (l.hands.items ≡ l.fn.hands.items ++ hands_at l.yielded)
    × (l.doors.items ≡ l.fn.doors.items ++ doors_at l.yielded)
    × (l.rows.items ≡ l.fn.rows.items ++ links_at l.yielded)
    × (vec_len l.hands + into_iter_len l.worker-iterator ≡ vec_len l.fn.hands + vec_len l.fn.workers)
    × (vec_len l.doors + into_iter_len l.worker-iterator ≡ vec_len l.fn.doors + vec_len l.fn.workers)
    × (vec_len l.rows + into_iter_len l.worker-iterator ≡ vec_len l.fn.rows + vec_len l.fn.workers)
    × (vec_capacity l.hands ≡ vec_capacity l.fn.hands)
    × (vec_capacity l.doors ≡ vec_capacity l.fn.doors)
    × (vec_capacity l.rows ≡ vec_capacity l.fn.rows)
