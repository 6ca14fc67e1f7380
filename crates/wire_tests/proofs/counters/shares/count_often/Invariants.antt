use Rattle.std.proofs.Common.{◌≡◌}
use Rattle.std.specs.Prelude.{IsSome}
use Rattle.wire_tests.proofs.counters.shares.count_often.Given as goal

abbrev pub invariant-loop : goal.invariant-loop
invariant-loop l = (l.share.book ≡ l.fn.book.id) × IsSome l.share.row
