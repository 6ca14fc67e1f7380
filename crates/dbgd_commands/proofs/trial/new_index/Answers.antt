use Rattle.std.proofs.Common.{sym, ◌∙◌}
use Rattle.std.proofs.lemmas.Bool.{true≢false}
use Rattle.dbgd_commands.proofs.TrialLemmas.{only_memory}
use Rattle.dbgd_commands.proofs.trial.new_index.Goals as goal
use Rattle.dbgd_commands.proofs.trial.new_index.Goals.{in-OutOfMemory, in_default}

pub prove-unreachable-requires : goal.prove-unreachable-requires
prove-unreachable-requires c =
    let is = only_memory c.in_ok-open.field-0 c.in-Err.field-0-1 c.in-Err.fault c.in_ok-open.ensures c.in-Err.ensures.err c.in-Err.ensures.cause in
    elim c.match-matches.branch [
      | in-OutOfMemory w ↦ absurd (true≢false (sym w.matches-is ∙ c.if-prove.true))
      | in_default w ↦ absurd (w.in_default.not-OutOfMemory is)
    ]
