use Rattle.std.proofs.lemmas.Iterator.{items_from_collect}
use Rattle.std.proofs.lemmas.Iterator.Consumers.{YieldsList-from_rest}
use Rattle.source_paths.proofs.AddLemmas.{ascends-sorted}
use Rattle.source_paths.proofs.paths.in_order.Goals as goal

pub returns-clause-ascends : goal.returns-clause-ascends
returns-clause-ascends c =
    ascends-sorted c.collect.result c.args.paths.keys c.into_iter.ensures.into_iter_gives.4
    (items_from_collect c.collect.result c.collect.ensures.ran (YieldsList-from_rest c.args.paths.keys c.into_iter.ensures.into_iter_gives.0))
