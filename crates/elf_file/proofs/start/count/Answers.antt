use Rattle.elf_file.proofs.StartLemmas.{count_read}
use Rattle.file_picture.specs.Agrees.{filled_with_zeros}
use Rattle.elf_file.proofs.start.count.Goals as goal

pub returns : goal.returns
returns c =
    count_read (filled_with_zeros c.args.view.now) c.args.head.now c.args.zero.now _ c.requires.zero.is c.requires.reached c.count_by.ensures
