use Rattle.index_keeper.proofs.KeeperLemmas.{true_put}
use Rattle.index_keeper.proofs.mem_keeper.MemKeeperKeeper.put.Goals as goal

pub change-requires : goal.change-requires
change-requires g c = true_put g.W.Truth.true_row c.args.path.now c.args.bytes.now c.in-Ok.edit c.requires c.in-Ok.ensures
