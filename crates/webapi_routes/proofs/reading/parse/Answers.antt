-- A target says one thing.
use Rattle.std.proofs.Common.{subst}
use Rattle.webapi_routes.specs.Targets.{PathSays, UnlessMemory}
use Rattle.webapi_routes.proofs.TargetLemmas.{only_that}
use Rattle.webapi_routes.proofs.reading.parse.Goals as goal

pub returns-clause-only : goal.returns-clause-only
returns-clause-only c answer says =
    only_that c.args.target.now c.parse_path.result answer
    (subst (λ p. UnlessMemory c.parse_path.result (PathSays p c.parse_path.result)) c.before_query.ensures c.parse_path.ensures) says
