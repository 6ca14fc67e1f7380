-- No number so far had a row.
use Rattle.std.proofs.Common.{◌≡◌, length}
use Rattle.std.specs.Map.{values_of}
use Rattle.index_rows.specs.Shelf.{rows_under}
use Rattle.index_rows.proofs.row_iter.next_after.Given as goal

abbrev pub invariant-loop-number : goal.invariant-loop-number
invariant-loop-number l = rows_under l.held (values_of l.fn.numbers) ≡ rows_under l.held (values_of l.numbers)

abbrev pub decreases-loop-number : goal.decreases-loop-number
decreases-loop-number l = length l.numbers
