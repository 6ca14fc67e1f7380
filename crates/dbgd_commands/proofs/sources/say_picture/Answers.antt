-- What decides the sources decides the identity.
use Rattle.dbgd_commands.proofs.FileLemmas.{sources_decide}
use Rattle.dbgd_commands.proofs.sources.say_picture.Goals as goal

pub identity_found-requires-clause-decides : goal.identity_found-requires-clause-decides
identity_found-requires-clause-decides g c = sources_decide c.args.picture.now c.requires.decides
