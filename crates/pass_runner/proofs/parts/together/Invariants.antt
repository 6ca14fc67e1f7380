-- The hands so far are those of the helpers so far, and no more loads are counted than theirs.
use Rattle.std.proofs.Common.{◌≡◌, ◌+◌, ◌≤◌, ◌++◌, ◌∷◌, length, vec_capacity, vec_len}
use Rattle.std.specs.List.{sum_by}
use Rattle.std.specs.Vec.Iter.{into_iter_items, into_iter_len}
use Rattle.pass_runner.specs.Helped.{loads_counted, hands_in}
use Rattle.pass_runner.proofs.parts.together.Given as goal

abbrev pub invariant-loop-helper : goal.invariant-loop-helper
invariant-loop-helper g l =
    (l.yielded ++ into_iter_items l.helper-iterator ≡ into_iter_items l.initial.helper-iterator)
    × (into_iter_len l.helper-iterator ≡ length (into_iter_items l.helper-iterator))
    × (l.hands.items ≡ l.fn.first ∷ hands_in l.yielded)
    × (l.asked ≤ sum_by loads_counted l.yielded)
    × (vec_len l.hands + into_iter_len l.helper-iterator ≤ vec_capacity l.hands)
