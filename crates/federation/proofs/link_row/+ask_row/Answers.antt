use Rattle.std.proofs.Common.{◌∷◌, map, sym, subst}
use Rattle.federation.specs.Rows.{AsksRow, with_more}
use Rattle.federation.specs.declared.link_row.RowEnd.TheVariants.{OutOfMemory, Passed}
use Rattle.federation.proofs.RowLemmas.{row_memory, row_more, row_passed}
use Rattle.federation.proofs.link_row.+ask_row.Goals as goal

pub returns-in-Passed : goal.returns-in-Passed
returns-in-Passed g t c =
    subst (λ ls. AsksRow (map g.L.Link.shows ls) c.args.route.now c.args.hops
    (g.L.Link.shows c.ask_link.new.link ∷ map g.L.Link.shows c.in-Some.rest.now) (Passed c.in-Passed.given))
    (sym c.in-Some.ensures.cases.0)
    (row_passed (g.L.Link.shows c.in-Some.link.now) (g.L.Link.shows c.ask_link.new.link) (map g.L.Link.shows c.in-Some.rest.now)
    c.args.route.now c.args.hops c.in-Passed.given c.in-Passed.ensures)

pub returns-in-OutOfMemory : goal.returns-in-OutOfMemory
returns-in-OutOfMemory g t c =
    subst (λ ls. AsksRow (map g.L.Link.shows ls) c.args.route.now c.args.hops
    (g.L.Link.shows c.ask_link.new.link ∷ map g.L.Link.shows c.in-Some.rest.now) OutOfMemory)
    (sym c.in-Some.ensures.cases.0)
    (row_memory (g.L.Link.shows c.in-Some.link.now) (g.L.Link.shows c.ask_link.new.link) (map g.L.Link.shows c.in-Some.rest.now)
    c.args.route.now c.args.hops c.in-OutOfMemory.ensures)

pub returns-in-Nothing : goal.returns-in-Nothing
returns-in-Nothing g t c =
    subst (λ told. AsksRow (map g.L.Link.shows c.args.links.now) c.args.route.now c.args.hops
    (g.L.Link.shows c.ask_link.new.link ∷ map g.L.Link.shows c.ask_row.new.links) told)
    (sym c.with_more.ensures)
    (subst (λ ls. AsksRow (map g.L.Link.shows ls) c.args.route.now c.args.hops
    (g.L.Link.shows c.ask_link.new.link ∷ map g.L.Link.shows c.ask_row.new.links) (with_more c.ask_row.result c.in-Nothing.refused c.in-Nothing.failed))
    (sym c.in-Some.ensures.cases.0)
    (row_more (g.L.Link.shows c.in-Some.link.now) (g.L.Link.shows c.ask_link.new.link) (map g.L.Link.shows c.in-Some.rest.now)
    (map g.L.Link.shows c.ask_row.new.links) c.args.route.now c.args.hops c.in-Nothing.refused c.in-Nothing.failed
    c.ask_row.result c.in-Nothing.ensures c.ask_row.ensures))
