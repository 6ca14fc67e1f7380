use Rattle.metadata_query.proofs.CutLemmas.{not_there}
use Rattle.metadata_query.proofs.written.query_of.Goals as goal

pub returns-in-None : goal.returns-in-None
returns-in-None c = not_there c.args.target.now c.in-None.ensures
