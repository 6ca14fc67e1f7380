use Rattle.std.proofs.Common.{◌≡◌, ℕ, ◌<◌, ◌++◌, List, slice_index_or, take}
use Rattle.std.specs.List.{flat_map}
use Rattle.row_codec.specs.Spelled.{IsPathText}
use Rattle.row_codec.specs.RowBytes.{spelled_text}
use Rattle.row_codec.proofs.write.push_paths.Given as goal

abbrev pub invariant-loop-path : goal.invariant-loop-path
invariant-loop-path l = record {
  texts : (k : ℕ) (d : List ℕ) → k < l.path-index → IsPathText (slice_index_or l.paths k d);
  added : l.bytes.items ≡ l.initial.bytes.items ++ flat_map spelled_text (take l.path-index l.paths);
}
