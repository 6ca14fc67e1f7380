-- What was printed says the route, and nothing else is answered.
use Rattle.std.proofs.Common.{Ok, subst, sym}
use Rattle.webapi_routes.specs.Targets.{TargetSays}
use Rattle.wire_tests.proofs.routes.printed.said_again.Goals as goal

pub returns : goal.returns
returns c asked =
    c.parse.ensures.only (Ok c.args.route.now)
    (subst (λ t. TargetSays t (Ok c.args.route.now)) (sym c.as_slice.ensures.value) (c.in_ok-target.ensures.back asked))
