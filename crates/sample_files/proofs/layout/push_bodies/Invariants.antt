use Rattle.std.proofs.Common.{◌≡◌, ◌+◌, ◌≤◌, ◌++◌, drop}
use Rattle.sample_files.specs.Layout.{bodies, parts_room}
use Rattle.sample_files.proofs.layout.push_bodies.Given as goal

abbrev pub invariant-loop-section : goal.invariant-loop-section
invariant-loop-section l =
    (l.out.items ++ bodies l.place (drop l.section-index l.sections)
    ≡ l.initial.out.items ++ bodies l.initial.place l.sections)
    × (l.place + parts_room
    (drop l.section-index l.sections) ≤ l.initial.place + parts_room l.sections)
