use Rattle.std.proofs.Common.{◌≡◌, map, take}
use Rattle.std.specs.Option.{option_copied}
use Rattle.dwarf_forms.specs.TextBytes.{text_said}
use Rattle.source_paths.specs.Adds.{short}
use Rattle.source_paths.proofs.joined.short_texts.Given as goal

abbrev pub invariant-loop-text : goal.invariant-loop-text
invariant-loop-text l = map option_copied l.found.items ≡ map short (map text_said (take l.text-index l.texts))
