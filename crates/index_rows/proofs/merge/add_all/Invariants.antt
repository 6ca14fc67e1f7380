-- What was added, and the paths that are left, are all.
use Rattle.std.proofs.Common.{◌≡◌, ◌++◌, drop, map}
use Rattle.index_rows.specs.Tally.{fresh}
use Rattle.index_rows.proofs.merge.add_all.Given as goal

abbrev pub invariant-loop-path : goal.invariant-loop-path
invariant-loop-path l = l.all.items ++ map fresh (drop l.path-index l.paths) ≡ l.fn.all.items ++ map fresh l.paths
