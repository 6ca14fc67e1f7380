use Rattle.dbgd_commands.proofs.QueryLemmas.{looks_by}
use Rattle.dbgd_commands.proofs.StoreLemmas.{refused_by}
use Rattle.dbgd_commands.proofs.query.look_keeper.Goals as goal

pub returns-in-Ok-clause-ends : goal.returns-in-Ok-clause-ends
returns-in-Ok-clause-ends g c = λ from mid into has back.
    looks_by g.K.Keeper.told g.K.Keeper.shows c.args.id.now c.look_index-end.result c.look_index-end.ensures.lines c.in-Ok.ensures.ok
    c.into_keeper.ensures.value has back

pub returns-in-Err-clause-ends : goal.returns-in-Err-clause-ends
returns-in-Err-clause-ends g c = λ from mid into has back.
    refused_by g.K.Keeper.told g.K.Keeper.shows has back c.in-Err.fault c.in-Err.ensures.err c.in-Err.ensures.left
