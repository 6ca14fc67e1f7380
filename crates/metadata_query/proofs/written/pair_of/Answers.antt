use Rattle.metadata_query.proofs.AskedLemmas.{no_parts, pair_behind}
use Rattle.metadata_query.proofs.written.pair_of.Goals as goal

pub returns-in_default : goal.returns-in_default
returns-in_default c = no_parts c.args.query.now c.in_default.ensures

pub returns-in-None : goal.returns-in-None
returns-in-None c = pair_behind c.ordered-in-None.result c.in-Some.ensures c.in-None.ensures c.ordered-in-None.ensures
