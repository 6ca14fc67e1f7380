use Rattle.file_formats.proofs.TableLemmas.{numbers_same}
use Rattle.file_picture.specs.Agrees.{filled_with_zeros}
use Rattle.elf_file.proofs.StartLemmas.{names_read}
use Rattle.elf_file.proofs.start.describe.Goals as goal

pub returns : goal.returns
returns c =
    numbers_same c.args.head.now c.requires.count
    (names_read (filled_with_zeros c.args.view.now) c.args.head.now c.args.zero.now _ c.requires.zero.is c.requires.reached c.names_by.ensures)
