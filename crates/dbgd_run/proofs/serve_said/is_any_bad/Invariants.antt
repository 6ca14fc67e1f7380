-- Whether one of the workers so far failed, or one of those that are left.
use Rattle.std.proofs.Common.{◌≡◌, ◌||◌, drop}
use Rattle.std.specs.List.{list_any}
use Rattle.dbgd_run.specs.ServeSaid.{ended_badly}
use Rattle.dbgd_run.specs.Workers.{ends_at}
use Rattle.dbgd_run.proofs.serve_said.is_any_bad.Given as goal

abbrev pub invariant-loop-worker : goal.invariant-loop-worker
invariant-loop-worker g l =
    (l.failed || list_any ended_badly (ends_at (drop l.worker-index l.workers))) ≡ list_any ended_badly (ends_at l.workers)
