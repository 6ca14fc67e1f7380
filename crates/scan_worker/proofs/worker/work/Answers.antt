-- One name after the other.
use Rattle.std.proofs.Common.{Option, sym, subst}
use Rattle.index_desk.specs.Ends.{EndsShow}
use Rattle.scan_worker.specs.Ends.{uncounted}
use Rattle.scan_worker.specs.Turns.{no_tally}
use Rattle.scan_worker.specs.Works.{Works, WorksOn}
use Rattle.scan_worker.specs.declared.tally.Tally.{Tally}
use Rattle.scan_worker.specs.declared.tally.WorkReport.{WorkReport}
use Rattle.index_desk.specs.declared.work_end.WorkEnd.{WorkEnd}
use Rattle.scan_worker.proofs.WorkLemmas.{works_none, works_report, works_then}
use Rattle.scan_worker.proofs.worker.work.Goals as goal

pub loop-init : goal.loop-init
loop-init g c =
    subst (λ (t : Tally). WorksOn g.T.Tree.told g.W.Truth.version c.args.seat (g.T.Tree.shows c.args.hand) no_tally c.args.seat
    (g.T.Tree.shows c.args.hand) t 0) (sym c.new-tally.ensures) (works_none no_tally)

pub returns-in-Some-end : goal.returns-in-Some-end
returns-in-Some-end g c =
    subst (λ (r : WorkReport). Works g.T.Tree.told g.W.Truth.version c.args.seat (g.T.Tree.shows c.args.hand)
    c.work_once-desk.result.0.seat (g.T.Tree.shows c.work_once-desk.new.hand) r) (sym c.report.ensures)
    (works_report c.in-Some-end.end
    (subst (λ (e : Option WorkEnd). WorksOn g.T.Tree.told g.W.Truth.version c.args.seat (g.T.Tree.shows c.args.hand) no_tally
    c.work_once-desk.result.0.seat (g.T.Tree.shows c.work_once-desk.new.hand) c.work_once-desk.new.tally (uncounted e))
    c.in-Some-end.is (works_then c.loop.invariant c.work_once-desk.ensures.works))
    (subst (λ (e : Option WorkEnd). EndsShow e c.work_once-desk.result.0.seat.seen) c.in-Some-end.is
    c.work_once-desk.ensures.ends))

pub loop-preserved : goal.loop-preserved
loop-preserved g c =
    subst (λ (e : Option WorkEnd). WorksOn g.T.Tree.told g.W.Truth.version c.args.seat (g.T.Tree.shows c.args.hand) no_tally
    c.work_once-desk.result.0.seat (g.T.Tree.shows c.work_once-desk.new.hand) c.work_once-desk.new.tally (uncounted e))
    c.in_default.is (works_then c.loop.invariant c.work_once-desk.ensures.works)
