-- The names so far, and those of the rows that are left, are those of all rows.
use Rattle.std.proofs.Common.{◌≡◌, ◌++◌}
use Rattle.index_rows.specs.Rows.{row_names}
use Rattle.index_rows.proofs.rows.row_names.Given as goal

abbrev pub invariant-loop-row : goal.invariant-loop-row
invariant-loop-row l = l.names.items ++ row_names l.row-iterator ≡ row_names l.fn.rows
