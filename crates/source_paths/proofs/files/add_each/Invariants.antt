use Rattle.std.proofs.Common.{map, take}
use Rattle.std.specs.Option.{option_copied}
use Rattle.dwarf_lines.specs.Entries.{file_facts}
use Rattle.source_paths.specs.Adds.{AddsPaths, IsFileFrom}
use Rattle.row_types.specs.Sources.{IsOfOne}
use Rattle.source_paths.proofs.files.add_each.Given as goal

abbrev pub invariant-loop-file : goal.invariant-loop-file
invariant-loop-file l =
    AddsPaths (IsOfOne (IsFileFrom l.version (option_copied l.first) (map option_copied l.dirs)) (map file_facts (take l.file-index l.files)))
    l.initial.paths l.paths
