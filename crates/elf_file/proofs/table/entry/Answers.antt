use Rattle.std.proofs.Common.{◌∙◌, ap, ◌*◌}
use Rattle.file_picture.specs.Agrees.{filled_with_zeros}
use Rattle.file_formats.specs.Sections.{section_header}
use Rattle.elf_file.proofs.TestLemmas.{entry_read}
use Rattle.elf_file.proofs.table.entry.Goals as goal

pub returns : goal.returns
returns c =
    c.header_at.ensures
    ∙ ap (λ n. section_header c.args.table.now.encoding c.args.entries.now (c.args.index * n)) c.shdr_size.ensures.value
    ∙ entry_read (filled_with_zeros c.args.view.now) c.args.table.now c.args.entries.now c.args.index c.requires.entries c.requires.below
