-- A whole pass is counted.
use Rattle.dbgd_run.proofs.rounds.count_pass.Goals as goal

pub returns-in-Whole-clause-counts : goal.returns-in-Whole-clause-counts
returns-in-Whole-clause-counts c = rw c.in-Whole.is (c.count.result, c.count.ensures.counts)
