-- The paths that were read stand in order, and those that are left follow.
use Rattle.std.proofs.Common.{◌≡◌, None}
use Rattle.row_codec.specs.Read.{paths_at}
use Rattle.row_codec.proofs.OneSpelling.{Follows}
use Rattle.row_codec.proofs.Sources.{behind, last_of}
use Rattle.row_codec.proofs.read.read_sources.Given as goal

abbrev pub invariant-loop-count : goal.invariant-loop-count
invariant-loop-count l = record {
  follow : Follows None l.paths.items;
  so_far : paths_at l.initial.count None l.initial.left ≡ behind l.paths.items (paths_at l.count (last_of None l.paths.items) l.left);
}

abbrev pub decreases-loop-count : goal.decreases-loop-count
decreases-loop-count l = l.count
