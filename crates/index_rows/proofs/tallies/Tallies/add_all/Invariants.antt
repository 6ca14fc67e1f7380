-- What was counted, and the paths that are left, are all of them.
use Rattle.std.proofs.Common.{◌≡◌, ℕ, ◌+◌, List, drop}
use Rattle.index_rows.specs.Tallies.{KeepsKeys, tally_of, times_of}
use Rattle.index_rows.proofs.tallies.Tallies.add_all.Given as goal

abbrev pub invariant-loop-path : goal.invariant-loop-path
invariant-loop-path l = record {
  counts : (id path : List ℕ) → tally_of id path l.self.ids.entries + times_of l.id (drop l.path-index l.paths) id path ≡ tally_of id path l.fn.self.ids.entries + times_of l.id l.paths id path;
  keeps : KeepsKeys l.fn.self.ids.entries l.self.ids.entries;
}
