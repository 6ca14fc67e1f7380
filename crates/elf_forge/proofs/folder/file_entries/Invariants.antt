-- The entries so far are those of the numbers so far.
use Rattle.std.proofs.Common.{◌≡◌, map}
use Rattle.elf_forge.specs.Place.{file_entry, numbers_below}
use Rattle.elf_forge.proofs.folder.file_entries.Given as goal

abbrev pub invariant-loop-k : goal.invariant-loop-k
invariant-loop-k l = l.entries.items ≡ map file_entry (numbers_below l.k)
