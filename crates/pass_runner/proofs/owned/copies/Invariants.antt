-- The copies so far are those of the paths so far.
use Rattle.std.proofs.Common.{◌≡◌, take}
use Rattle.pass_runner.proofs.owned.copies.Given as goal

abbrev pub invariant-loop-path : goal.invariant-loop-path
invariant-loop-path l = l.copies.items ≡ take l.path-index l.paths
