-- The files so far are known.
use Rattle.std.proofs.Common.{All, take}
use Rattle.tree_trait.specs.Found.{IsFound}
use Rattle.tree_trait.proofs.script.know_files.Given as goal

abbrev pub invariant-loop-file : goal.invariant-loop-file
invariant-loop-file g l = All (IsFound g.W.Truth.version) (take l.file-index l.files)
