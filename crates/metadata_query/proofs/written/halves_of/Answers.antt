use Rattle.metadata_query.proofs.CutLemmas.{no_halves, not_halved}
use Rattle.metadata_query.proofs.written.halves_of.Goals as goal

pub returns-in-None : goal.returns-in-None
returns-in-None c = not_halved c.args.query.now c.in-None.ensures

pub returns-in-Some-cut_at : goal.returns-in-Some-cut_at
returns-in-Some-cut_at c = no_halves c.in-Some.ensures c.in-Some-cut_at.ensures
