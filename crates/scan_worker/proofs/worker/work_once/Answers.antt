-- A name is taken, loaded and handed in.
use Rattle.std.proofs.Common.{◌≡◌, Option, None, sym, subst}
use Rattle.std.specs.Prelude.{IfSome}
use Rattle.row_types.specs.Name.{NameFacts, stamp_at}
use Rattle.scan_worker.specs.Ends.{uncounted}
use Rattle.scan_worker.specs.Works.{WorksOn}
use Rattle.index_desk.specs.declared.work_end.WorkEnd.{WorkEnd}
use Rattle.scan_worker.proofs.WorkLemmas.{works_later, works_turn}
use Rattle.scan_worker.proofs.worker.work_once.Goals as goal

pub returns-in_default-clause-works : goal.returns-in_default-clause-works
returns-in_default-clause-works g c = works_later c.args.tally.now c.take-desk.ensures.holds.later

pub returns-clause-works : goal.returns-clause-works
returns-clause-works g c =
    let new : stamp_at c.args.desk.seat.origin.spared c.in-Some.name.path ≡ None =
    subst (λ (o : Option NameFacts). IfSome o (λ name. stamp_at c.args.desk.seat.origin.spared name.path ≡ None)) c.in-Some.is
    c.take-desk.ensures.spares in
    subst (λ (e : Option WorkEnd). WorksOn g.T.Tree.told g.W.Truth.version c.args.desk.seat (g.T.Tree.shows c.args.hand.now)
    c.args.tally.now c.hand_in-desk.result.0.seat (g.T.Tree.shows c.ask_for-read.new.hand) c.count_turn.new.self (uncounted e))
    (sym c.count_turn.ensures.end)
    (works_turn c.ask_for-read.result c.hand_in-desk.result.1 c.take-desk.ensures.holds.later new c.ask_for-read.ensures
    c.hand_in-desk.ensures.later c.hand_in-desk.ensures.counted c.hand_in-desk.ensures.fits c.count_turn.ensures.counts)
