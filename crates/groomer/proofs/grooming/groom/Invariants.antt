-- The work so far.
use Rattle.groomer.specs.Grooms.{GroomsOn}
use Rattle.groomer.proofs.grooming.groom.Given as goal

abbrev pub invariant-loop : goal.invariant-loop
invariant-loop g l =
    GroomsOn g.T.Tree.told g.W.Truth.version l.fn.seat (g.T.Tree.shows l.fn.hand) (record { dropped = 0; missed = 0 })
    l.seat (g.T.Tree.shows l.hand) l.tally
