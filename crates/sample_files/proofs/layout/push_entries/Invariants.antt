use Rattle.std.proofs.Common.{◌≡◌, ◌+◌, ◌≤◌, ◌++◌, drop}
use Rattle.sample_files.specs.Layout.{entries, parts_room}
use Rattle.sample_files.proofs.layout.push_entries.Given as goal

abbrev pub invariant-loop-section : goal.invariant-loop-section
invariant-loop-section l =
    (l.out.items ++ entries l.shape l.place l.name (drop l.section-index l.sections)
    ≡ l.initial.out.items ++ entries l.shape l.initial.place l.initial.name l.sections)
    × (l.place + parts_room
    (drop l.section-index l.sections) ≤ l.initial.place + parts_room l.sections)
    × (l.name + parts_room
    (drop l.section-index l.sections) ≤ l.initial.name + parts_room l.sections)
