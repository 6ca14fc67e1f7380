use Rattle.dbgd_run.proofs.RunLemmas.{runs_words}
use Rattle.dbgd_run.proofs.outside.run.Goals as goal

pub returns-clause-run : goal.returns-clause-run
returns-clause-run g c = runs_words _ _ _ _ c.run_words.result _ c.code.ensures.code c.run_words.ensures.law
