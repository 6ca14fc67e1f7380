-- A name is missed in one hold.
use Rattle.pass_runner.proofs.leading.miss_own.Goals as goal

pub returns-clause-later : goal.returns-clause-later
returns-clause-later g c = c.miss-desk.ensures.later
