-- The copies so far are those of the entries so far.
use Rattle.std.proofs.Common.{◌≡◌, take}
use Rattle.tree_trait.proofs.dir.copy_entries.Given as goal

abbrev pub invariant-loop-entry : goal.invariant-loop-entry
invariant-loop-entry l = l.copies.items ≡ take l.entry-index l.entries
