-- The paths so far, and those of the rows that are left, are those of the rows that were found.
use Rattle.std.proofs.Common.{◌≡◌, ◌++◌, map}
use Rattle.std.specs.List.{filter}
use Rattle.index_rows.specs.Classes.{has_class}
use Rattle.index_rows.specs.Rows.{row_path}
use Rattle.index_events.proofs.one_event.look.Given as goal

abbrev pub invariant-loop-row : goal.invariant-loop-row
invariant-loop-row g l = l.paths.items ++ map row_path l.row-iterator ≡ map row_path (filter (λ row. has_class l.fn.id l.fn.kind row.reading) l.fn.state.rows)
