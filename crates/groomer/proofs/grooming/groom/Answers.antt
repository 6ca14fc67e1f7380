-- One name after the other.
use Rattle.groomer.proofs.GroomLemmas.{grooms_none, grooms_then, grooms_whole}
use Rattle.groomer.proofs.grooming.groom.Goals as goal

pub loop-init : goal.loop-init
loop-init g c = grooms_none

pub loop-preserved : goal.loop-preserved
loop-preserved g c = grooms_then c.loop.invariant c.groom_once-desk.ensures.grooms

pub returns-in-Some-end : goal.returns-in-Some-end
returns-in-Some-end g c =
    grooms_whole c.in-Some-end.end c.in-Some-end.is c.groom_once-desk.ensures.ends
    (grooms_then c.loop.invariant c.groom_once-desk.ensures.grooms)
