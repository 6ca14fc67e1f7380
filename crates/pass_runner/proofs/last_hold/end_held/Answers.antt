-- What the last hold leaves and shows.
use Rattle.std.proofs.Common.{ℕ, Bool, List, subst}
use Rattle.std.specs.Prelude.{IfSome}
use Rattle.path_scope.specs.Scope.{scope_of}
use Rattle.row_types.specs.Rules.{rules}
use Rattle.pass_runner.specs.Leading.{BeginsLast}
use Rattle.pass_runner.specs.SharedPass.{IsOfPass}
use Rattle.pass_runner.proofs.LastLemmas.{last_goes, last_shows}
use Rattle.pass_runner.proofs.last_hold.end_held.Goals as goal

pub returns-clause-goes_on : goal.returns-clause-goes_on
returns-clause-goes_on g c =
    last_goes (rules g.W.Truth.version g.W.Truth.true_row g.W.Truth.told) g.K.Keeper.told g.K.Keeper.shows c.args.listing
    (scope_of c.args.roots.items (g.P.Selection.takes c.own_miss-own.new.select)) c.args.plan.now c.own_miss-own.result c.requires.spared
    (c.rows-rows.ensures.holds.skipped_names_stand.none c.requires.spared) c.begin_last-end.result c.begin_last-end.ensures.begins

pub returns-clause-shows : goal.returns-clause-shows
returns-clause-shows g c =
    last_shows (rules g.W.Truth.version g.W.Truth.true_row g.W.Truth.told) g.K.Keeper.told g.K.Keeper.shows c.args.listing
    (scope_of c.args.roots.items (g.P.Selection.takes c.args.select.now)) c.args.plan.now c.own_miss-own.result c.args.met.now c.args.state.now c.show_index.ensures
    c.own_miss-own.ensures.among
    (subst (λ (roots : List (List ℕ)). IfSome c.own_miss-own.result (λ miss. IsOfPass c.args.listing
    (scope_of roots (g.P.Selection.takes c.args.select.now)) miss.name miss.cause))
    c.as_slice.ensures.value c.own_miss-own.ensures.of_pass) c.own_miss-own.ensures.stands
    c.begin_last-end.result
    (subst (λ (takes : List ℕ → Bool). BeginsLast (rules g.W.Truth.version g.W.Truth.true_row g.W.Truth.told) g.K.Keeper.told
    g.K.Keeper.shows c.args.listing (scope_of c.args.roots.items takes) c.args.plan.now c.own_miss-own.result c.args.state.now
    c.begin_last-end.new.state c.begin_last-end.result) c.own_miss-own.ensures.same c.begin_last-end.ensures.begins)
