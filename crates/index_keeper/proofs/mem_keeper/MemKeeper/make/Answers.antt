use Rattle.std.proofs.Common.{ap}
use Rattle.index_keeper.specs.Shelf.{ShelfFacts}
use Rattle.index_keeper.proofs.KeeperLemmas.{true_made}
use Rattle.index_keeper.proofs.mem_keeper.MemKeeper.make.Goals as goal

pub invariant_of-self : goal.invariant_of-self
invariant_of-self g c =
    true_made g.W.Truth.true_row c.self.inside.shelf.tables c.make.new.self.tables c.args.edit c.self.invariant c.requires
    (ap (λ (s : ShelfFacts). s.tables) c.in-Ok.ensures.ok)
