-- The server is run by the selection of its patterns.
use Rattle.std.proofs.Common.{subst}
use Rattle.path_canon.specs.Selected.{AreTaken}
use Rattle.dbgd_run.specs.Selecting.{selecting}
use Rattle.dbgd_run.proofs.selecting.serve_selected.Goals as goal

pub returns-clause-runs : goal.returns-clause-runs
returns-clause-runs g c = λ upstream linked.
    selecting (subst AreTaken c.in-Ok.ensures.ok c.in-Ok.ensures.taken) (c.run_serve.ensures.runs upstream linked)
