use Rattle.std.proofs.Common.{rules, ◌≡◌, ◌++◌, ◌∷◌, []}
use Rattle.dbgd_metrics.proofs.Loads.{add_up_more}
use Rattle.dbgd_metrics.proofs.book.Book.totals.Goals as goal

pub loop-place-preserved : goal.loop-place-preserved
loop-place-preserved c =
    let items : c.push.new.self.items ≡ c.loop-place.totals.items ++ c.total.result ∷ [] = search rules in
    rw items (add_up_more c.loop-place.invariant c.total.ensures)
