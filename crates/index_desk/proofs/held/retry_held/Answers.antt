-- The log goes on.
use Rattle.index_desk.proofs.Goes.{retry_goes}
use Rattle.index_desk.proofs.held.retry_held.Goals as goal

pub returns-clause-goes_on : goal.returns-clause-goes_on
returns-clause-goes_on g c =
    retry_goes g.K.Keeper.told g.K.Keeper.shows c.retry_all-answer.result c.retry_all-answer.ensures
