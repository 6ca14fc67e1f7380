use Rattle.file_picture.proofs.PassedLaws.{passed-first}
use Rattle.elf_classify.proofs.named.section_view.Goals as goal

pub section_from-requires : goal.section_from-requires
section_from-requires c = passed-first c.args.picture.now

pub returns-in-Need : goal.returns-in-Need
returns-in-Need c = c.in-Need.ensures.0
