use Rattle.std.proofs.Common.{sym, subst}
use Rattle.federation.specs.Rows.{AsksOneLink}
use Rattle.federation.proofs.LinkLemmas.{one_only}
use Rattle.federation.proofs.one_link.ask_once.Goals as goal

pub returns : goal.returns
returns g c =
    subst (λ told. AsksOneLink (g.L.Link.shows c.args.link.now) c.args.route.now c.args.hops (g.L.Link.shows c.ask_one.new.link) told)
    (sym c.link_end.ensures)
    (one_only (g.L.Link.shows c.args.link.now) (g.L.Link.shows c.ask_one.new.link) c.args.route.now c.args.hops
    c.ask_one.result c.requires c.ask_one.ensures)
