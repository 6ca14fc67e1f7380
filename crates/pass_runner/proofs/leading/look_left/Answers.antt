-- One name after the other.
use Rattle.std.proofs.Common.{ℕ, Bool, List, refl, ◌∙◌, subst}
use Rattle.path_scope.specs.Scope.{scope_of}
use Rattle.pass_runner.specs.Leading.{LeadsInSettling}
use Rattle.pass_runner.proofs.LeadLemmas.{leads_none, leads_then}
use Rattle.pass_runner.proofs.leading.look_left.Goals as goal

pub loop-init : goal.loop-init
loop-init g c = (refl, leads_none)

pub loop-preserved : goal.loop-preserved
loop-preserved g c = (
  c.look_next-desk.ensures.same ∙ c.loop.invariant.0,
  leads_then c.loop.invariant.1
      (subst (λ (takes : List ℕ → Bool). LeadsInSettling g.T.Tree.told g.W.Truth.version (scope_of c.args.roots.now takes)
      c.loop.seat (g.T.Tree.shows c.loop.hand) c.look_next-desk.result.0.seat (g.T.Tree.shows c.look_next-desk.new.hand)
      c.loop.met.items c.look_next-desk.new.met.items) c.loop.invariant.0 c.look_next-desk.ensures.leads),
)

pub returns-then-not-goes_on-clause-leads : goal.returns-then-not-goes_on-clause-leads
returns-then-not-goes_on-clause-leads g c =
    leads_then c.loop.invariant.1
    (subst (λ (takes : List ℕ → Bool). LeadsInSettling g.T.Tree.told g.W.Truth.version (scope_of c.args.roots.now takes)
    c.loop.seat (g.T.Tree.shows c.loop.hand) c.look_next-desk.result.0.seat (g.T.Tree.shows c.look_next-desk.new.hand)
    c.loop.met.items c.look_next-desk.new.met.items) c.loop.invariant.0 c.look_next-desk.ensures.leads)

pub returns-then-not-goes_on-clause-same : goal.returns-then-not-goes_on-clause-same
returns-then-not-goes_on-clause-same g c = c.look_next-desk.ensures.same ∙ c.loop.invariant.0
