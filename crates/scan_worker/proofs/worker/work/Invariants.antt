-- The work so far.
use Rattle.scan_worker.specs.Turns.{no_tally}
use Rattle.scan_worker.specs.Works.{WorksOn}
use Rattle.scan_worker.proofs.worker.work.Given as goal

abbrev pub invariant-loop : goal.invariant-loop
invariant-loop g l =
    WorksOn g.T.Tree.told g.W.Truth.version l.fn.seat (g.T.Tree.shows l.fn.hand) no_tally l.seat (g.T.Tree.shows l.hand)
    l.tally 0
