use Rattle.std.proofs.Common.{ℕ, List}
use Rattle.file_formats.specs.Table.{HasSection}
use Rattle.file_picture.specs.Agrees.{filled_with_zeros}
use Rattle.elf_file.proofs.SectionLemmas.{NoneBelow}
use Rattle.elf_classify.proofs.named.first_named.Given as goal

abbrev pub invariant-loop-index : goal.invariant-loop-index
invariant-loop-index l =
    NoneBelow l.file.table
    (λ i. (bytes : List ℕ) × HasSection (filled_with_zeros l.file.file) l.file.table l.name i bytes) l.index
