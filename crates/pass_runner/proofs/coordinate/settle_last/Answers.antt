-- The settling, and then the last hold.
use Rattle.std.proofs.Common.{ℕ, Bool, List, [], ap, subst, ◌∙◌}
use Rattle.path_scope.specs.Scope.{scope_of}
use Rattle.row_types.specs.Rules.{rules}
use Rattle.index_lock.proofs.Later.{later_trans}
use Rattle.index_state.specs.State.{Origin}
use Rattle.scan_queue.specs.declared.miss.Miss.{Miss}
use Rattle.pass_runner.specs.Leading.{LastShows, LeadsInSettling}
use Rattle.pass_runner.proofs.PlannedLemmas.{settles_last}
use Rattle.pass_runner.proofs.coordinate.settle_last.Goals as goal

pub end_one-requires-after_bounds : goal.end_one-requires-after_bounds
end_one-requires-after_bounds g c κs within =
    ap (λ (o : Origin). o.sparing) c.settle_shared-desk.ensures.leads.later.origin ∙ c.requires

pub returns-clause-later : goal.returns-clause-later
returns-clause-later g c = later_trans c.settle_shared-desk.ensures.leads.later c.end_one.ensures.later

pub returns-clause-over : goal.returns-clause-over
returns-clause-over g c =
    settles_last (rules g.W.Truth.version g.W.Truth.true_row g.W.Truth.told) c.end_one.result.0.seat.seen
    (subst (λ (roots : List (List ℕ)). LeadsInSettling g.T.Tree.told g.W.Truth.version
    (scope_of roots (g.P.Selection.takes c.args.select.now)) c.args.desk.seat
    (g.T.Tree.shows c.args.hand.now) c.settle_shared-desk.result.0.seat (g.T.Tree.shows c.settle_shared-desk.new.hand) []
    c.settle_shared-desk.result.1.items) c.as_slice.ensures.value c.settle_shared-desk.ensures.leads)
    c.end_one.ensures.later.log c.end_one.result.1
    (subst (λ (met : List Miss). LastShows (rules g.W.Truth.version g.W.Truth.true_row g.W.Truth.told) c.args.listing
    (scope_of c.args.roots.items (g.P.Selection.takes c.args.select.now)) c.args.plan.now met c.end_one.result.0.seat.seen c.end_one.result.1) c.as_slice-2.ensures.value
    (subst (λ (takes : List ℕ → Bool). LastShows (rules g.W.Truth.version g.W.Truth.true_row g.W.Truth.told) c.args.listing
    (scope_of c.args.roots.items takes) c.args.plan.now c.as_slice-2.result.now c.end_one.result.0.seat.seen c.end_one.result.1)
    c.settle_shared-desk.ensures.same c.end_one.ensures.shows))
