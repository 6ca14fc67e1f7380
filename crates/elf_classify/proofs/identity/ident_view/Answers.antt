use Rattle.file_picture.proofs.PassedLaws.{passed-first}
use Rattle.elf_classify.proofs.identity.ident_view.Goals as goal

pub ident_from-requires : goal.ident_from-requires
ident_from-requires c = passed-first c.args.picture.now

pub returns-in-Need : goal.returns-in-Need
returns-in-Need c = c.in-Need.ensures.0
