use Rattle.index_keeper.proofs.KeeperLemmas.{true_torn}
use Rattle.index_keeper.proofs.mem_keeper.MemKeeper.fail.Goals as goal

pub invariant_of-self : goal.invariant_of-self
invariant_of-self g c =
    true_torn g.W.Truth.true_row c.self.inside.shelf c.tear.new.self c.args.edit c.self.invariant c.requires c.in-Ok.ensures.ok
