-- What is decided by the page of the counters, and by the local answer.
use Rattle.std.proofs.Common.{sym, subst}
use Rattle.webapi_routes.specs.declared.route.Route.{Route}
use Rattle.webapi_routes.specs.declared.route.Route.TheVariants.{Metrics}
use Rattle.conn_server.specs.Bodies.{DecidedFacts, decided_facts}
use Rattle.conn_server.specs.Decided.{DecidesRoute}
use Rattle.conn_server.specs.Objects.{setting_by, stage_by}
use Rattle.conn_server.specs.Stage.{with_share}
use Rattle.conn_server.proofs.DecideLemmas.{decides_page}
use Rattle.conn_server.proofs.decide.decide_route.Goals as goal

pub returns-in-Metrics-clause-decided : goal.returns-in-Metrics-clause-decided
returns-in-Metrics-clause-decided g c =
    let setting = setting_by g.W.Truth.true_row g.T.Tree.told g.W.Truth.version g.T.Tree.shows c.args.service.now.folders.now c.args.objects.now in
    let a = stage_by g.L.Link.shows c.args.desk.seat c.args.objects.now in
    let b = with_share a c.text-page.new.share in
    subst (λ (r : Route). DecidesRoute setting a r c.args.hops (decided_facts g.T.Tree.opened c.by_page.result) b) (sym c.in-Metrics.is)
    (subst (λ (d : DecidedFacts). DecidesRoute setting a Metrics c.args.hops d b) (sym (c.by_page.ensures g.T.Tree.opened))
    (decides_page setting a c.text-page.new.share c.text-page.result c.args.hops c.text-page.ensures.same c.text-page.ensures.page))
