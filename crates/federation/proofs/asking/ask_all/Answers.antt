use Rattle.std.proofs.Common.{inl, map, sym, subst}
use Rattle.federation.specs.AskAll.{AsksLinks}
use Rattle.federation.proofs.RowLemmas.{all_asked, hop_limit_of, no_links}
use Rattle.federation.proofs.asking.ask_all.Goals as goal

pub returns-then-hops-lt-HOP_LIMIT-clause-asks : goal.returns-then-hops-lt-HOP_LIMIT-clause-asks
returns-then-hops-lt-HOP_LIMIT-clause-asks g c =
    subst (λ told. AsksLinks (map g.L.Link.shows c.args.links.now) c.args.route.now c.args.hops
    (map g.L.Link.shows c.ask_row.new.links) told) (sym c.upstream_of_row.ensures)
    (all_asked (map g.L.Link.shows c.args.links.now) (map g.L.Link.shows c.ask_row.new.links) c.args.route.now c.args.hops
    c.ask_row.result c.ask_row.ensures (inl c.if-hops-lt-HOP_LIMIT.true))

pub returns-then-links-gt0-clause-asks : goal.returns-then-links-gt0-clause-asks
returns-then-links-gt0-clause-asks g c =
    hop_limit_of g.L.Link.shows c.args.links.now c.args.route.now c.args.hops c.if-links-gt0.true c.if-hops-lt-HOP_LIMIT.false

pub returns-clause-asks : goal.returns-clause-asks
returns-clause-asks g c =
    no_links g.L.Link.shows c.args.links.now c.args.route.now c.args.hops c.if-links-gt0.false
