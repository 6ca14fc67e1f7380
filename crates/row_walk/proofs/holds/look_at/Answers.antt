-- Both clauses of a look.
use Rattle.row_walk.proofs.HoldLemmas.{looks_on}
use Rattle.row_walk.proofs.holds.look_at.Goals as goal

pub returns : goal.returns
returns g c = looks_on g.W.Truth.told g.W.Truth.true_row c.args.index.now c.args.walk.now c.look.result c.look.ensures.step c.look.ensures.walk
