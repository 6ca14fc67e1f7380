use Rattle.std.proofs.Common.{sym, subst}
use Rattle.federation.specs.Rows.{AsksOneLink}
use Rattle.federation.proofs.LinkLemmas.{one_memory, one_passed, two_failed, two_refused}
use Rattle.federation.proofs.one_link.ask_twice.Goals as goal
use Rattle.webapi_routes.specs.declared.route.Route.TheVariants.{Debuginfo, Executable}

pub returns-in-Passed : goal.returns-in-Passed
returns-in-Passed g c =
    one_passed (g.L.Link.shows c.args.link.now) (g.L.Link.shows c.ask_one.new.link) c.args.route.now (Debuginfo c.args.id.now)
    (Executable c.args.id.now) c.args.hops c.in-Passed.given c.requires c.in-Passed.ensures

pub returns-in-OutOfMemory : goal.returns-in-OutOfMemory
returns-in-OutOfMemory g c =
    one_memory (g.L.Link.shows c.args.link.now) (g.L.Link.shows c.ask_one.new.link) c.args.route.now (Debuginfo c.args.id.now)
    (Executable c.args.id.now) c.args.hops c.requires c.in-OutOfMemory.ensures

pub returns-in-Refused : goal.returns-in-Refused
returns-in-Refused g c =
    subst (λ told. AsksOneLink (g.L.Link.shows c.args.link.now) c.args.route.now c.args.hops
    (g.L.Link.shows c.ask_one-in-Refused.new.link) told) (sym c.link_end.ensures)
    (two_refused (g.L.Link.shows c.args.link.now) (g.L.Link.shows c.ask_one.new.link)
    (g.L.Link.shows c.ask_one-in-Refused.new.link) c.args.route.now (Debuginfo c.args.id.now) (Executable c.args.id.now)
    c.args.hops c.ask_one-in-Refused.result c.requires c.in-Refused.ensures c.ask_one-in-Refused.ensures)

pub returns : goal.returns
returns g c =
    subst (λ told. AsksOneLink (g.L.Link.shows c.args.link.now) c.args.route.now c.args.hops
    (g.L.Link.shows c.ask_one-in-Failed.new.link) told) (sym c.link_end-in-Failed.ensures)
    (two_failed (g.L.Link.shows c.args.link.now) (g.L.Link.shows c.ask_one.new.link)
    (g.L.Link.shows c.ask_one-in-Failed.new.link) c.args.route.now (Debuginfo c.args.id.now) (Executable c.args.id.now)
    c.args.hops c.ask_one-in-Failed.result c.requires c.in-Failed.ensures c.ask_one-in-Failed.ensures)
