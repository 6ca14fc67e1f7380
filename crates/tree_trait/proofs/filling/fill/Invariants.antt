-- The runs so far were read and put, and the file keeps its name.
use Rattle.std.proofs.Common.{◌≡◌, ◌-◌}
use Rattle.tree_trait.specs.Opened.{opened_name}
use Rattle.tree_trait.proofs.FillLemmas.{FillsSoFar}
use Rattle.tree_trait.proofs.filling.fill.Given as goal

abbrev pub invariant-loop-done : goal.invariant-loop-done
invariant-loop-done g l =
    FillsSoFar g.T.Tree.told g.W.Truth.version (g.T.Tree.shows l.fn.hand) (g.T.Tree.shows l.hand) (opened_name l.fn.opened)
    l.fn.opened.picture l.opened.picture l.at l.len l.done
    × (opened_name l.opened ≡ opened_name l.fn.opened)
    × (g.T.Tree.opened l.opened.file ≡ opened_name l.opened)

abbrev pub decreases-loop-done : goal.decreases-loop-done
decreases-loop-done g l = l.len - l.done
