-- When each pass of a server writes its line (this project's rule): where nothing stands against it.
use Rattle.std.specs.Prelude.{◌≡◌, ℕ, ◌≤◌, ◌<◌, List, ◌∷◌, All, length, IsTrue}
use Rattle.path_scope.specs.Scope.{Scope}
use Rattle.row_types.specs.Faults.{Rose}
use Rattle.row_types.specs.Row.{RowFacts}
use Rattle.index_rows.specs.declared.rows.TheConstants.{LOG_LIMIT}
use Rattle.index_state.specs.Opening.{AreRows, current}
use Rattle.index_state.specs.declared.open_fault.OpenFault.TheVariants as refusal
use Rattle.tree_walk.specs.declared.fault.WalkFault.TheVariants as stop
use Rattle.pass_runner.specs.declared.pass_end.PassEnd.{PassEnd}
use Rattle.pass_runner.specs.declared.pass_end.PassEnd.TheVariants as pass
use Rattle.dbgd_commands.specs.CommandCauses.{IsFreeHand}
use Rattle.dbgd_commands.specs.Stage.{OfFirst, ProgramStage, Setting}
use Rattle.dbgd_commands.specs.declared.status.Status.{Status}
use Rattle.dbgd_commands.specs.declared.status.Status.TheVariants.{OutOfMemory}
use Rattle.dbgd_run.specs.Rounds.{Round}
use Rattle.dbgd_run.specs.Serve.{RunsServe, ServeWords, scope_in, served, unopened, unserved}
use Rattle.dbgd_run.specs.ServeCauses.{rounds_behind}
use Rattle.dbgd_run.specs.declared.line_fate.LineFate.{LineFate}
use Rattle.dbgd_run.specs.declared.line_fate.LineFate.TheVariants.{Written, Unmade}

-- nothing stands against the passes of a server: so it is of the first hand, the store tells that each of its values is a
-- row, not too many of them of the edition, and neither the store's count nor that of the standard output rose
pub record IsFreeServe {T : Type 0} (s : Setting T) (scope : Scope) (before after : ProgramStage T) : Type 0 where
  pub hand : OfFirst s (IsFreeHand s.tells_files scope) before.command.hands after.command.hands
  pub tells : IsTrue s.tells_tables
  pub rows : List RowFacts
  pub held : AreRows rows before.command.store.tables
  pub few : length (current rows) ≤ LOG_LIMIT
  pub store : ¬ Rose before.command.store.faults after.command.store.faults
  pub out : ¬ Rose before.command.streams.out.write_faults after.command.streams.out.write_faults

-- the pass was whole and its line was written; or memory was refused, for that line or for the pass
abbrev pub WritesPassLine : PassEnd → LineFate → Type 0
WritesPassLine (pass.Whole summary) Written = Unit {0}
WritesPassLine (pass.Whole summary) Unmade = Unit {0}
WritesPassLine (pass.Walk stop.OutOfMemory) Written = Unit {0}
WritesPassLine pass.OutOfMemory Written = Unit {0}
WritesPassLine _ _ = ⊥

-- what comes of a server that nothing stands against: it served, and each of its passes wrote its line, unless the log that
-- the index has in the end has no room; or memory was refused before anything was served
abbrev pub CompletesServe : {T : Type 0} (s : Setting T) (words : ServeWords) (before after : ProgramStage T) (status : Status)
    → RunsServe s words before after status → Type 0
CompletesServe s words before after status (unopened fault run) = fault ≡ refusal.OutOfMemory
CompletesServe s words before after status (unserved run) = status ≡ OutOfMemory
CompletesServe {T} s words before after status (served run) =
    length run.log < LOG_LIMIT
    → All (λ (round : Round T). WritesPassLine round.end round.fate)
    (run.first ∷ rounds_behind s (scope_in words) words.secs run.first run.how run.last run.passes)
