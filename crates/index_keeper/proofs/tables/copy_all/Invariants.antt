-- The rows of the list are there, and those of the entries so far.
use Rattle.std.proofs.Common.{◌≡◌, ◌++◌}
use Rattle.index_keeper.specs.Tree.{kept_in}
use Rattle.index_keeper.proofs.tables.copy_all.Given as goal

abbrev pub invariant-loop-path : goal.invariant-loop-path
invariant-loop-path l = l.copies.items ++ kept_in l.path-iterator ≡ l.given ++ kept_in l.tree.entries
