use Rattle.std.proofs.Common.{◌≤◌, ◌*◌}
use Rattle.dbgd_metrics.specs.Columns.{AddsUp}
use Rattle.dbgd_metrics.proofs.book.Book.total.Given as goal

abbrev pub invariant-loop-row : goal.invariant-loop-row
invariant-loop-row l = AddsUp l.row l.place l.fn.token l.token l.total × (l.total ≤ l.row * 18446744073709551615)
