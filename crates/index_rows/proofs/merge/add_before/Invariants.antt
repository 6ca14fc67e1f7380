-- What was added, and what is left to add, is what was to be added.
use Rattle.std.proofs.Common.{◌≡◌, ◌++◌, length, map}
use Rattle.std.specs.List.{filter}
use Rattle.row_types.specs.Ascends.{Ascends, is_before}
use Rattle.index_rows.specs.Tally.{fresh}
use Rattle.index_rows.proofs.merge.add_before.Given as goal

abbrev pub invariant-loop-path : goal.invariant-loop-path
invariant-loop-path l = record {
  added : l.all.items ++ map fresh (filter (λ path. is_before path l.own) l.left) ≡ l.fn.all.items ++ map fresh (filter (λ path. is_before path l.own) l.paths);
  left : filter (is_before l.own) l.left ≡ filter (is_before l.own) l.paths;
  ascends : Ascends l.left;
}

abbrev pub decreases-loop-path : goal.decreases-loop-path
decreases-loop-path l = length l.left
