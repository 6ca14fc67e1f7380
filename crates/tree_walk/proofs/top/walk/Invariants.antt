-- The walk is underway, and each folder is paid from what may still be read.
use Rattle.path_scope.specs.Scope.{Scope, scope_of}
use Rattle.std.proofs.Common.{◌≡◌, ◌+◌, ◌<◌, [], length, Ok}
use Rattle.tree_trait.specs.Shown.{HandsOn}
use Rattle.tree_walk.specs.Ends.{GoesByAnswers, IsCause}
use Rattle.tree_walk.specs.Underway.{IsUnderway}
use Rattle.tree_walk.proofs.top.walk.Given as goal

abbrev pub invariant-loop-folder : goal.invariant-loop-folder
invariant-loop-folder g l = record {
  goes : GoesByAnswers g.T.Tree.told (g.T.Tree.shows l.fn.hand) (g.T.Tree.shows l.hand) []
      (λ heard search. IsUnderway heard (scope_of l.fn.roots (g.S.Selection.takes l.fn.select)) search [] []) (λ heard. IsCause heard (scope_of l.fn.roots (g.S.Selection.takes l.fn.select)))
      (Ok l.search);
  same : g.S.Selection.takes l.select ≡ g.S.Selection.takes l.fn.select;
  hands : HandsOn g.T.Tree.told g.W.Truth.version (g.T.Tree.shows l.fn.hand) (g.T.Tree.shows l.hand)
      (0 < length l.fn.roots) ⊥;
}

abbrev pub decreases-loop-folder : goal.decreases-loop-folder
decreases-loop-folder g l = l.search.left + length l.search.todo
