-- The lines so far, and those of the rows that are left, are those of the rows that were found.
use Rattle.std.proofs.Common.{◌≡◌, ◌++◌}
use Rattle.std.specs.List.{filter}
use Rattle.index_rows.specs.Classes.{has_id}
use Rattle.dbgd_commands.specs.Query.{row_lines}
use Rattle.dbgd_commands.proofs.query.id_lines.Given as goal

abbrev pub invariant-loop-row : goal.invariant-loop-row
invariant-loop-row g l = l.text.items ++ row_lines l.row-iterator ≡ row_lines (filter (λ row. has_id l.fn.id row.reading) l.fn.state.rows)
