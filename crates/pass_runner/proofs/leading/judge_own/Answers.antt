-- A row whose own file was seen is noted.
use Rattle.pass_runner.proofs.OwnMisses.{noted_there}
use Rattle.pass_runner.proofs.leading.judge_own.Goals as goal

pub returns-in-Strange-clause-noted : goal.returns-in-Strange-clause-noted
returns-in-Strange-clause-noted g c = noted_there (c.judge_one-desk.ensures.stands c.in-Strange.is) c.note.ensures
