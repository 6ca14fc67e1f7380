use Rattle.std.proofs.Common.{◌≡◌, rules, refl, arith}
use Rattle.dbgd_metrics.proofs.Loads.{adds_up_more}
use Rattle.dbgd_metrics.proofs.Steps.{notices}
use Rattle.dbgd_metrics.proofs.book.Book.total.Goals as goal

pub load-requires : goal.load-requires
load-requires c = (search rules, search rules, notices _ _ _ _ _)

pub loop-row-preserved : goal.loop-row-preserved
loop-row-preserved c =
    let same : c.from-total.result ≡ c.load.result = search rules in
    rw same (adds_up_more c.loop-row.invariant.0 c.requires.place refl c.load.ensures.0 c.load.ensures.2, omega (arith, c.loop-row.invariant.1, c.load.type_inv))
