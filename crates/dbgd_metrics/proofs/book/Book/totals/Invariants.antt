use Rattle.dbgd_metrics.specs.Columns.{AddUp}
use Rattle.dbgd_metrics.proofs.book.Book.totals.Given as goal

abbrev pub invariant-loop-place : goal.invariant-loop-place
invariant-loop-place l = AddUp l.fn.self.rows l.place l.fn.token l.token l.totals.items
