use Rattle.index_keeper.specs.Tables.{removal_of}
use Rattle.sqlite.specs.Steps.{over_memory}
use Rattle.sqlite_keeper.specs.Keeper.{keeper_shown}
use Rattle.store_tests.proofs.StoppingLemmas.{passed_on}
use Rattle.store_tests.proofs.stopping.StoppingKeeperKeeperOpenWorld.remove.Goals as goal

-- the keeper below answered
pub returns : goal.returns
returns c =
    let edit = removal_of c.args.path.now in
    passed_on (keeper_shown over_memory c.args.self.now.keeper) (keeper_shown over_memory c.remove-answer.new.self) _ _ edit c.remove-answer.result c.is_unmade.result
    c.remove-answer.ensures.asks (c.is_unmade.ensures edit) c.count-2.ensures
