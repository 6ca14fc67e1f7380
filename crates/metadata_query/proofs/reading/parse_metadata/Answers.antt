-- A target asks for one thing.
use Rattle.metadata_query.proofs.AskedLemmas.{only_that}
use Rattle.metadata_query.proofs.reading.parse_metadata.Goals as goal

pub returns-clause-only : goal.returns-clause-only
returns-clause-only c asked asks = only_that c.args.target.now c.read_query.result asked c.read_query.ensures asks
