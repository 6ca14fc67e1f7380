use Rattle.index_keeper.specs.Tables.{put_bytes}
use Rattle.sqlite.specs.Steps.{over_memory}
use Rattle.sqlite_keeper.specs.Keeper.{keeper_shown}
use Rattle.store_tests.proofs.StoppingLemmas.{passed_on}
use Rattle.store_tests.proofs.stopping.StoppingKeeperKeeperOpenWorld.put.Goals as goal

-- the keeper below answered
pub returns : goal.returns
returns c =
    let edit = put_bytes c.args.path.now c.args.bytes.now in
    passed_on (keeper_shown over_memory c.args.self.now.keeper) (keeper_shown over_memory c.put-answer.new.self) _ _ edit c.put-answer.result c.is_unmade.result
    c.put-answer.ensures.asks (c.is_unmade.ensures edit) c.count-2.ensures
