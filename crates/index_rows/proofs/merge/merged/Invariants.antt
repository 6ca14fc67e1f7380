-- What stands so far, and what the entries that are left give with the paths that are left, is all.
use Rattle.std.proofs.Common.{◌≡◌, ◌++◌, drop}
use Rattle.row_types.specs.Ascends.{Ascends}
use Rattle.index_rows.specs.Tally.{merged}
use Rattle.index_rows.proofs.merge.merged.Given as goal

abbrev pub invariant-loop-entry : goal.invariant-loop-entry
invariant-loop-entry l = record {
  whole : l.all.items ++ merged (drop l.entry-index l.entries) l.left ≡ merged l.entries l.paths;
  ascends : Ascends l.left;
}
