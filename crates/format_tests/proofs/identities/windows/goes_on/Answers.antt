-- No section stands before the first.
use Rattle.file_picture.proofs.PassedLaws.{passed-first}
use Rattle.format_tests.proofs.identities.windows.goes_on.Goals as goal

pub ident_from-requires : goal.ident_from-requires
ident_from-requires g c = passed-first c.args.picture.now
