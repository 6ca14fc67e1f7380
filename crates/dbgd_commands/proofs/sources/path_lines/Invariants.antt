-- The lines of the paths so far.
use Rattle.std.proofs.Common.{◌≡◌, take}
use Rattle.dbgd_commands.specs.Sources.{path_lines}
use Rattle.dbgd_commands.proofs.sources.path_lines.Given as goal

abbrev pub invariant-loop-path : goal.invariant-loop-path
invariant-loop-path l = l.text.items ≡ path_lines (take l.path-index l.paths)
