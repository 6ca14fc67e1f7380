-- All rows are still there.
use Rattle.std.proofs.Common.{◌≡◌, ◌++◌, length}
use Rattle.index_keeper.specs.Tree.{kept_in}
use Rattle.index_keeper.proofs.tables.settle.Given as goal

abbrev pub invariant-loop-row : goal.invariant-loop-row
invariant-loop-row l = l.given.items ++ kept_in l.tree.entries ≡ l.fn.given.items ++ kept_in l.fn.tree.entries

abbrev pub decreases-loop-row : goal.decreases-loop-row
decreases-loop-row l = length l.given.items
