use Rattle.std.proofs.Common.{◌≡◌, ◌+◌, ◌≤◌, drop}
use Rattle.sample_files.specs.Layout.{parts_end, parts_room}
use Rattle.sample_files.proofs.layout.parts_end.Given as goal

abbrev pub invariant-loop-section : goal.invariant-loop-section
invariant-loop-section l =
    (parts_end l.place (drop l.section-index l.sections) ≡ parts_end l.initial.place l.sections)
    × (l.place + parts_room
    (drop l.section-index l.sections) ≤ l.initial.place + parts_room l.sections)
