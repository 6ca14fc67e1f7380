use Rattle.metadata_query.proofs.CutLemmas.{strips}
use Rattle.metadata_query.proofs.written.behind.Goals as goal

pub returns : goal.returns
returns c = strips c.args.bytes.now c.args.front.now c.strip_prefix.result c.strip_prefix.ensures.cases
