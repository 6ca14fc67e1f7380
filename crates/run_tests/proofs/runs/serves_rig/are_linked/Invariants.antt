-- The rows so far have so many links.
use Rattle.std.proofs.Common.{◌≡◌, All, length, take}
use Rattle.run_tests.proofs.runs.serves_rig.are_linked.Given as goal

abbrev pub invariant-loop-row : goal.invariant-loop-row
invariant-loop-row g l = All (λ row. length row.items ≡ l.count) (take l.row-index l.rows)
