-- The copies so far are those of the paths so far.
use Rattle.std.proofs.Common.{◌≡◌, take}
use Rattle.row_types.proofs.sources.copy_paths.Given as goal

abbrev pub invariant-loop-path : goal.invariant-loop-path
invariant-loop-path l = l.copies.items ≡ take l.path-index l.paths
