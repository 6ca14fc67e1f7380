-- The helpers so far are the hands so far.
use Rattle.std.proofs.Common.{◌≡◌, ◌+◌, ◌≤◌, ◌++◌, length, vec_capacity, vec_len}
use Rattle.std.specs.Vec.Iter.{into_iter_items, into_iter_len}
use Rattle.pass_runner.specs.Helped.{BeginsWithLook, hands_in}
use Rattle.pass_runner.proofs.parts.helpers_of.Given as goal

abbrev pub invariant-loop-hand : goal.invariant-loop-hand
invariant-loop-hand g l =
    (l.yielded ++ into_iter_items l.hand-iterator ≡ into_iter_items l.initial.hand-iterator)
    × (into_iter_len l.hand-iterator ≡ length (into_iter_items l.hand-iterator))
    × (hands_in l.helpers.items ≡ l.yielded)
    × BeginsWithLook l.helpers.items
    × (vec_len l.helpers + into_iter_len l.hand-iterator ≡ vec_len l.fn.hands)
    × (vec_len l.helpers + into_iter_len l.hand-iterator ≤ vec_capacity l.helpers)
