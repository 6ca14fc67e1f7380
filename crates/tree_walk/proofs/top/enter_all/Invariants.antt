-- The entries so far were seen to.
use Rattle.path_scope.specs.Scope.{Scope}
use Rattle.std.proofs.Common.{◌≡◌, ℕ, ◌+◌, ◌≤◌, List, drop, length, Ok}
use Rattle.tree_trait.specs.Heard.{Heard}
use Rattle.tree_trait.specs.Shown.{HandsOn}
use Rattle.tree_walk.specs.Ends.{GoesByAnswers, IsCause}
use Rattle.tree_walk.specs.Underway.{IsEntered, IsUnderway}
use Rattle.tree_walk.proofs.top.enter_all.Given as goal

abbrev pub invariant-loop-entry : goal.invariant-loop-entry
invariant-loop-entry g l = record {
  goes : (answers : List Heard) (scope : Scope) → g.S.Selection.takes l.initial.select ≡ scope.takes
      → IsEntered answers scope l.initial.search l.folder l.entries
      → GoesByAnswers g.T.Tree.told (g.T.Tree.shows l.initial.hand) (g.T.Tree.shows l.hand) answers
      (λ heard search. IsUnderway heard scope search l.folder (drop l.entry-index l.entries))
      (λ heard. IsCause heard scope) (Ok l.search);
  same : g.S.Selection.takes l.select ≡ g.S.Selection.takes l.initial.select;
  left : l.search.left ≡ l.initial.search.left;
  todo : length l.search.todo ≤ length l.initial.search.todo + l.entry-index;
  hands : HandsOn g.T.Tree.told g.W.Truth.version (g.T.Tree.shows l.initial.hand) (g.T.Tree.shows l.hand) ⊥ ⊥;
}
