-- No path so far has a row that is lent.
use Rattle.std.proofs.Common.{◌≡◌, filter, length}
use Rattle.index_rows.specs.Left.{is_wanted}
use Rattle.index_rows.specs.Slots.{rows_in_slots}
use Rattle.index_rows.specs.Table.{walked}
use Rattle.index_rows.proofs.row_iter.first_found.Given as goal

abbrev pub invariant-loop-entry : goal.invariant-loop-entry
invariant-loop-entry l = filter (λ row. is_wanted l.kind row.reading) (walked l.entries (rows_in_slots l.rows)) ≡ filter (λ row. is_wanted l.kind row.reading) (walked l.left (rows_in_slots l.rows))

abbrev pub decreases-loop-entry : goal.decreases-loop-entry
decreases-loop-entry l = length l.left
