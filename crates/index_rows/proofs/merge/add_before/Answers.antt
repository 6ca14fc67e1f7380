-- A path that is added comes next; from one that isn't before the entry's on, none is.
use Rattle.std.proofs.Common.{List, ◌∷◌, ◌++◌, [], map, rules, sym, ◌∙◌, ap}
use Rattle.std.proofs.lemmas.Map.Lookups.{exact_bytes}
use Rattle.index_rows.specs.Tally.{fresh}
use Rattle.index_rows.specs.declared.tally.Tallied.{Tallied}
use Rattle.index_rows.proofs.MergeLemmas.{front, here_added, here_left, more_added, more_left, past_added, past_left, rest_ascends}
use Rattle.index_rows.proofs.PathLemmas.{before_after}
use Rattle.index_rows.proofs.merge.add_before.Goals as goal

pub returns-in-Equal-clause-added : goal.returns-in-Equal-clause-added
returns-in-Equal-clause-added c =
    here_added c.args.all.now.items c.loop-path.all.items c.args.own.now c.in-Some.path.now c.args.paths.now c.loop-path.left.now c.in-Some.rest.now
    (search rules) c.loop-path.invariant.added c.loop-path.invariant.left c.loop-path.invariant.ascends
    (exact_bytes c.in-Some.path.now c.args.own.now (sym c.cmp.ensures ∙ c.in-Equal.is))

pub returns-in-Equal-clause-left : goal.returns-in-Equal-clause-left
returns-in-Equal-clause-left c =
    here_left c.args.all.now.items c.loop-path.all.items c.args.own.now c.in-Some.path.now c.args.paths.now c.loop-path.left.now c.in-Some.rest.now
    (search rules) c.loop-path.invariant.added c.loop-path.invariant.left c.loop-path.invariant.ascends
    (exact_bytes c.in-Some.path.now c.args.own.now (sym c.cmp.ensures ∙ c.in-Equal.is))

pub returns-in-Equal-clause-ascends : goal.returns-in-Equal-clause-ascends
returns-in-Equal-clause-ascends c =
    rest_ascends c.args.all.now.items c.loop-path.all.items c.args.own.now c.in-Some.path.now c.args.paths.now c.loop-path.left.now c.in-Some.rest.now
    (search rules) c.loop-path.invariant.added c.loop-path.invariant.left c.loop-path.invariant.ascends

pub returns-in-Greater-clause-added : goal.returns-in-Greater-clause-added
returns-in-Greater-clause-added c =
    past_added c.args.all.now.items c.loop-path.all.items c.args.own.now c.in-Some.path.now c.args.paths.now c.loop-path.left.now c.in-Some.rest.now
    (search rules) c.loop-path.invariant.added c.loop-path.invariant.left c.loop-path.invariant.ascends
    (before_after c.in-Some.path.now c.args.own.now (sym c.cmp.ensures ∙ c.in-Greater.is))

pub returns-in-Greater-clause-left : goal.returns-in-Greater-clause-left
returns-in-Greater-clause-left c =
    past_left c.args.all.now.items c.loop-path.all.items c.args.own.now c.in-Some.path.now c.args.paths.now c.loop-path.left.now c.in-Some.rest.now
    (search rules) c.loop-path.invariant.added c.loop-path.invariant.left c.loop-path.invariant.ascends
    (before_after c.in-Some.path.now c.args.own.now (sym c.cmp.ensures ∙ c.in-Greater.is))

pub loop-path-preserved : goal.loop-path-preserved
loop-path-preserved c = record {
  added = ap (λ (l : List Tallied). l ++ map fresh (front c.args.own.now c.in-Some.rest.now))
      (c.in_ok-push-in-Less.ensures.items ∙ ap (λ (t : Tallied). c.loop-path.all.items ++ t ∷ []) c.in_ok-fresh-in-Less.ensures)
      ∙ more_added c.args.all.now.items c.loop-path.all.items c.args.own.now c.in-Some.path.now c.args.paths.now c.loop-path.left.now c.in-Some.rest.now
      (search rules) c.loop-path.invariant.added c.loop-path.invariant.left c.loop-path.invariant.ascends
      (sym c.cmp.ensures ∙ c.in-Less.is);
  left = more_left c.args.all.now.items c.loop-path.all.items c.args.own.now c.in-Some.path.now c.args.paths.now c.loop-path.left.now c.in-Some.rest.now
      (search rules) c.loop-path.invariant.added c.loop-path.invariant.left c.loop-path.invariant.ascends
      (sym c.cmp.ensures ∙ c.in-Less.is);
  ascends = rest_ascends c.args.all.now.items c.loop-path.all.items c.args.own.now c.in-Some.path.now c.args.paths.now c.loop-path.left.now c.in-Some.rest.now
      (search rules) c.loop-path.invariant.added c.loop-path.invariant.left c.loop-path.invariant.ascends;
}
