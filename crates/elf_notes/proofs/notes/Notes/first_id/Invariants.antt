use Rattle.std.proofs.Common.{length, ◌-◌}
use Rattle.elf_notes.proofs.NoteLemmas.{IsUnderWay}
use Rattle.elf_notes.proofs.notes.Notes.first_id.Given as goal

abbrev pub invariant-loop-note : goal.invariant-loop-note
invariant-loop-note l = IsUnderWay l.self l.at

abbrev pub decreases-loop-note : goal.decreases-loop-note
decreases-loop-note l = length l.self.bytes - l.at
