-- The paths so far are those of the folders so far.
use Rattle.std.proofs.Common.{◌≡◌, map, take}
use Rattle.row_types.specs.Canon.{canon}
use Rattle.dbgd_words.proofs.roots.paths_of.Given as goal

abbrev pub invariant-loop-folder : goal.invariant-loop-folder
invariant-loop-folder l = l.paths.items ≡ map (λ folder. canon folder.now) (take l.folder-index l.folders)
