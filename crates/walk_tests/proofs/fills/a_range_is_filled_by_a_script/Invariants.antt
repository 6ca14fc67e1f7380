-- The file keeps the name with which it was opened.
use Rattle.std.proofs.Common.{◌≡◌}
use Rattle.tree_trait.specs.Found.{found_name}
use Rattle.tree_trait.specs.Opened.{opened_name}
use Rattle.walk_tests.proofs.fills.a_range_is_filled_by_a_script.Given as goal

abbrev pub invariant-loop-len : goal.invariant-loop-len
invariant-loop-len g l = found_name l.file.file ≡ opened_name l.file
