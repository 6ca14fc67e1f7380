-- A part is as long as was asked.
use Rattle.file_picture.proofs.DifferenceLemmas.{stretch_long}
use Rattle.file_picture.proofs.difference.stretch.Goals as goal

pub returns-clause-long : goal.returns-clause-long
returns-clause-long c =
    stretch_long c.args.bytes.now c.in-Some.found.now c.args.from c.args.len c.in-Some.ensures.1 c.requires
