use Rattle.std.proofs.Common.{List}
use Rattle.dbgd_metrics.specs.declared.view.Load.{Load}
use Rattle.dbgd_metrics.specs.Draws.{FindRoom}
use Rattle.dbgd_metrics.specs.Rule.{Looked}
use Rattle.dbgd_metrics.proofs.book.Book.draw_row.Given as goal

abbrev pub invariant-loop : goal.invariant-loop
invariant-loop g l = (tries : List Load) × FindRoom l.fn.self.rows tries × Looked l.fn.token l.token tries
