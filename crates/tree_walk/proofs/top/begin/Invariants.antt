-- The roots so far were looked at.
use Rattle.path_scope.specs.Scope.{Scope, scope_of}
use Rattle.std.proofs.Common.{◌≡◌, ◌<◌, [], take, Ok}
use Rattle.tree_trait.specs.Shown.{HandsOn}
use Rattle.tree_walk.specs.Ends.{GoesByAnswers, IsCause}
use Rattle.tree_walk.specs.Underway.{AreFirstRootsSeen}
use Rattle.tree_walk.proofs.top.begin.Given as goal

abbrev pub invariant-loop-root : goal.invariant-loop-root
invariant-loop-root g l = record {
  goes : GoesByAnswers g.T.Tree.told (g.T.Tree.shows l.initial.hand) (g.T.Tree.shows l.hand) []
      (λ heard search. AreFirstRootsSeen heard (scope_of l.roots (g.S.Selection.takes l.initial.select)) (take l.root-index l.roots) search)
      (λ heard. IsCause heard (scope_of l.roots (g.S.Selection.takes l.initial.select))) (Ok l.search);
  same : g.S.Selection.takes l.select ≡ g.S.Selection.takes l.initial.select;
  hands : HandsOn g.T.Tree.told g.W.Truth.version (g.T.Tree.shows l.initial.hand) (g.T.Tree.shows l.hand)
      (0 < l.root-index) ⊥;
}
