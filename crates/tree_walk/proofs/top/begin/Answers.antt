-- One root after the other is looked at.
use Rattle.path_scope.specs.Scope.{Scope, scope_of}
use Rattle.std.proofs.Common.{◌∙◌, ℕ, ◌+◌, ◌<◌, List, length, take, drop, inr, subst, arith}
use Rattle.tree_trait.proofs.HandLemmas.{hands_then}
use Rattle.tree_walk.specs.Underway.{AreFirstRootsSeen}
use Rattle.tree_walk.proofs.GoesLemmas.{goes_then, goes_then_up, split_at, take_one}
use Rattle.tree_walk.proofs.top.begin.Goals as goal

pub returns-in_err-look_at_root-clause-goes : goal.returns-in_err-look_at_root-clause-goes
returns-in_err-look_at_root-clause-goes g c =
    let roots : List (List ℕ) = c.args.roots.now in
    let scope : Scope = scope_of roots (g.S.Selection.takes c.args.select.now) in
    let i : ℕ = c.loop-root.root-index in
    let within : i < length roots = omega arith in
    goes_then_up c.from_residual.ensures.1 c.loop-root.invariant.goes c.loop-root.invariant.hands.still
    (λ heard b. c.in_err-look_at_root.ensures.goes heard scope (take i roots) (drop (i + 1) roots)
    c.loop-root.invariant.same (split_at roots i within c.root-item.is) b)

pub loop-root-preserved : goal.loop-root-preserved
loop-root-preserved g c =
    let roots : List (List ℕ) = c.args.roots.now in
    let scope : Scope = scope_of roots (g.S.Selection.takes c.args.select.now) in
    let i : ℕ = c.loop-root.root-index in
    let within : i < length roots = omega arith in
    record {
      goes = goes_then c.loop-root.invariant.goes c.loop-root.invariant.hands.still
          (λ heard b. c.in_ok-look_at_root.ensures.goes heard scope (take i roots) (drop (i + 1) roots)
          c.loop-root.invariant.same (split_at roots i within c.root-item.is) b)
          (λ heard b. subst (λ (seen : List (List ℕ)). AreFirstRootsSeen heard scope seen c.look_at_root.new.search)
          (take_one roots i within c.root-item.is) b);
      hands = hands_then c.loop-root.invariant.hands c.look_at_root.ensures.hands (λ _. inr tt)
          (λ none. absurd none);
      same = c.look_at_root.ensures.same ∙ c.loop-root.invariant.same;
    }
