-- The digest holds the bytes of the rows so far.
use Rattle.dbgd_commands.proofs.TrialLemmas.{Completes}
use Rattle.dbgd_commands.proofs.trial_sum.sum_of.Given as goal

abbrev pub invariant-loop-row : goal.invariant-loop-row
invariant-loop-row g l = Completes l.digest l.row-iterator l.fn.state.rows
