-- The log goes on.
use Rattle.index_desk.proofs.Goes.{judge_goes}
use Rattle.index_desk.proofs.held.judge_held.Goals as goal

pub returns-clause-goes_on : goal.returns-clause-goes_on
returns-clause-goes_on g c =
    judge_goes g.K.Keeper.told g.K.Keeper.shows c.args.name.now c.args.seen c.judge-answer.result c.judge-answer.ensures
