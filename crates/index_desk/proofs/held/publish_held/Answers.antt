-- The log goes on.
use Rattle.index_desk.proofs.Goes.{publish_goes}
use Rattle.index_desk.proofs.held.publish_held.Goals as goal

pub returns-clause-goes_on : goal.returns-clause-goes_on
returns-clause-goes_on g c =
    publish_goes g.K.Keeper.told g.K.Keeper.shows c.args.row c.publish-answer.result c.publish-answer.ensures.step
