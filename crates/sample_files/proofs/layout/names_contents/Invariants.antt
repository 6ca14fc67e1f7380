use Rattle.std.proofs.Common.{◌≡◌, ◌∷◌, take}
use Rattle.std.specs.List.{flat_map}
use Rattle.sample_files.specs.Layout.{name_bytes}
use Rattle.sample_files.proofs.layout.names_contents.Given as goal

abbrev pub invariant-loop-section : goal.invariant-loop-section
invariant-loop-section l = l.names.items ≡ 0 ∷ flat_map name_bytes (take l.section-index l.sections)
