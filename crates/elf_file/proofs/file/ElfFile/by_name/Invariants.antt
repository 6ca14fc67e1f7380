use Rattle.std.proofs.Common.{◌≡◌, Some}
use Rattle.file_formats.specs.Table.{name_at}
use Rattle.elf_file.proofs.SectionLemmas.{NoneBelow}
use Rattle.elf_file.proofs.file.ElfFile.by_name.Given as goal

abbrev pub invariant-loop-index : goal.invariant-loop-index
invariant-loop-index l =
    NoneBelow l.self.table (λ i. name_at l.self.bytes l.self.table i ≡ Some l.name) l.index
