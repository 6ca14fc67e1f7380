-- A name is taken, and handed in.
use Rattle.groomer.proofs.GroomLemmas.{grooms_empty, grooms_then}
use Rattle.groomer.proofs.grooming.groom_once.Goals as goal

pub returns-in-Some-clause-grooms : goal.returns-in-Some-clause-grooms
returns-in-Some-clause-grooms g c = grooms_then (grooms_empty c.groom_take-desk.ensures.later) c.look_for.ensures.grooms

pub returns-in-None-clause-grooms : goal.returns-in-None-clause-grooms
returns-in-None-clause-grooms g c = grooms_empty c.groom_take-desk.ensures.later
