-- What was added up of an index, which is let go.
use Rattle.dbgd_commands.proofs.trial.totals_left.Goals as goal

pub returns : goal.returns
returns c = c.totals_in.ensures
