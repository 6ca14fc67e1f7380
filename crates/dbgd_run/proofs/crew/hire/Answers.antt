-- Each worker has a share that is fresh, so it has a row.
use Rattle.std.proofs.Common.{All, subst, sym}
use Rattle.dbgd_run.specs.Workers.{IsFreshShare}
use Rattle.dbgd_run.proofs.ServeRuns.{places_have_rows}
use Rattle.dbgd_run.proofs.crew.hire.Goals as goal

pub invariant_of-workers-clause-rows : goal.invariant_of-workers-clause-rows
invariant_of-workers-clause-rows g c =
    places_have_rows c.args.book.now c.workers_of-all.result.0.items
    (subst (All (IsFreshShare c.args.book.now)) (sym c.workers_of-all.ensures.shares) c.requires.others)
