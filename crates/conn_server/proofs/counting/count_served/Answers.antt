-- The request is counted by what it asked, and the share keeps its row.
use Rattle.std.proofs.Common.{ℕ, Option, sym, ◌∙◌, subst}
use Rattle.std.specs.Option.{IsSome}
use Rattle.dbgd_metrics.specs.Counts.{Counts}
use Rattle.dbgd_metrics.specs.declared.count.Count.TheVariants.{Request}
use Rattle.dbgd_metrics.specs.declared.number.RouteName.{RouteName}
use Rattle.conn_server.proofs.counting.count_served.Goals as goal

pub returns-clause-share : goal.returns-clause-share
returns-clause-share c = (
  c.count.ensures.same.0 ∙ c.requires.share.0,
  subst (λ (row : Option ℕ). IsSome row) (sym c.count.ensures.same.1) c.requires.share.1,
)

pub returns-clause-counts : goal.returns-clause-counts
returns-clause-counts c = (
  c.count.result,
  subst (λ (route : RouteName). Counts (Request route c.args.served.now.status c.args.served.now.len) c.args.share.now
      c.count.new.share c.count.result) c.counted_route-route.ensures c.count.ensures.counts,
)
