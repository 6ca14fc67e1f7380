-- The entries so far are those of the files so far.
use Rattle.std.proofs.Common.{◌≡◌, [], map, take}
use Rattle.tree_trait.specs.Folder.{with_pieces}
use Rattle.tree_trait.specs.Found.{found_name}
use Rattle.tree_trait.proofs.folder.collected.Given as goal

abbrev pub invariant-loop-file : goal.invariant-loop-file
invariant-loop-file g l = l.entries.items ≡ with_pieces l.folder [] (map found_name (take l.file-index l.files))
