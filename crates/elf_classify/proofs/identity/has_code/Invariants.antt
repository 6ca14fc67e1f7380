use Rattle.file_picture.specs.Agrees.{filled_with_zeros}
use Rattle.std.proofs.Common.{◌≡◌, true}
use Rattle.file_formats.specs.Identity.{is_code}
use Rattle.file_formats.specs.Table.{section_at}
use Rattle.elf_file.proofs.SectionLemmas.{NoneBelow}
use Rattle.elf_classify.proofs.identity.has_code.Given as goal

abbrev pub invariant-loop-index : goal.invariant-loop-index
invariant-loop-index l =
    NoneBelow l.file.table (λ i. is_code (section_at (filled_with_zeros l.file.file) l.file.table i) ≡ true) l.index
