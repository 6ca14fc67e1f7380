-- The workers so far have the hands, the shares, the rows of links and the doors so far.
use Rattle.std.proofs.Common.{◌≡◌, ◌+◌, ◌≤◌, ◌++◌, length, vec_capacity, vec_len}
use Rattle.std.specs.Vec.Iter.{into_iter_items, into_iter_len}
use Rattle.dbgd_run.specs.Workers.{doors_at, hands_at, links_at, shares_at}
use Rattle.dbgd_run.proofs.crew.workers_of.Given as goal

abbrev pub invariant-loop-door : goal.invariant-loop-door
invariant-loop-door g l =
    (l.yielded ++ into_iter_items l.door-iterator ≡ into_iter_items l.initial.door-iterator)
    × (into_iter_len l.door-iterator ≡ length (into_iter_items l.door-iterator))
    × (hands_at l.workers.items ++ into_iter_items l.hands ≡ l.fn.hands.items)
    × (shares_at l.workers.items ++ into_iter_items l.shares ≡ l.fn.shares.items)
    × (links_at l.workers.items ++ into_iter_items l.rows ≡ l.fn.rows.items)
    × (doors_at l.workers.items ≡ l.yielded)
    × (vec_len l.workers + length (into_iter_items l.hands) ≡ vec_len l.fn.hands)
    × (length (into_iter_items l.shares) ≡ into_iter_len l.door-iterator)
    × (vec_len l.workers + length (into_iter_items l.rows) ≡ vec_len l.fn.rows)
    × (vec_len l.workers + into_iter_len l.door-iterator ≡ vec_len l.fn.doors)
    × (vec_len l.workers + into_iter_len l.door-iterator ≤ vec_capacity l.workers)
