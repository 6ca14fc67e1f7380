-- When a status comes (this project's rule): what each says, by the line.
use Rattle.std.specs.Prelude.{ℕ, List, IsTrue}
use Rattle.row_types.specs.Faults.{Rose}
use Rattle.dbgd_words.specs.Words.{Line, asks_find, asks_help, asks_ident, asks_query, asks_scan, asks_section, asks_serve}
use Rattle.dbgd_words.specs.Words.{asks_sources, asks_trial, has_options, unreadable}
use Rattle.dbgd_commands.specs.CommandCauses.{FileStatus, ScanStatus, TrialStatus}
use Rattle.dbgd_commands.specs.QueryCauses.{QueryStatus}
use Rattle.dbgd_commands.specs.Stage.{CommandStage, ProgramStage, Setting}
use Rattle.dbgd_commands.specs.declared.status.Status.{Status}
use Rattle.dbgd_commands.specs.declared.status.Status.TheVariants.{Done, Fault, Usage, OutOfMemory}
use Rattle.dbgd_run.specs.Find.{FindStatus}
use Rattle.dbgd_run.specs.Selecting.{SelectStatus, scope_by}
use Rattle.dbgd_run.specs.Serve.{serve_words}
use Rattle.dbgd_run.specs.ServeCauses.{ServeStatus}

-- of a help or version: only the standard output can fail
abbrev pub HelpStatus : {T : Type 0} → CommandStage T → CommandStage T → Status → Type 0
HelpStatus before after Done = Unit {0}
HelpStatus before after Fault = Rose before.streams.out.write_faults after.streams.out.write_faults
HelpStatus before after OutOfMemory = Unit {0}
HelpStatus before after _ = ⊥

-- of words that can't be read: the usage, or where they are read as options, want of memory
abbrev pub UsageStatus : List (List ℕ) → Status → Type 0
UsageStatus words Usage = Unit {0}
UsageStatus words OutOfMemory = IsTrue (has_options words)
UsageStatus words _ = ⊥

-- what the status says, by the line; words that can't be read alone end with the usage
abbrev pub HasStatus : {T : Type 0} → Setting T → List (List ℕ) → Line → ProgramStage T → ProgramStage T → Status → Type 0
HasStatus s words (asks_ident path) before after status = FileStatus s before.command after.command status
HasStatus s words (asks_sources path) before after status = FileStatus s before.command after.command status
HasStatus s words (asks_section path name) before after status = FileStatus s before.command after.command status
HasStatus s words (asks_query path id) before after status = QueryStatus s id before.command after.command status
HasStatus s words (asks_scan path workers patterns roots) before after status =
    SelectStatus patterns status (ScanStatus s (scope_by patterns roots) before.command after.command status)
HasStatus s words (asks_trial seed files workers) before after status =
    TrialStatus seed files before.command after.command status
HasStatus s words asks_help before after status = HelpStatus before.command after.command status
HasStatus s words (asks_serve path workers port secs sources upstream patterns roots) before after status =
    SelectStatus patterns status
    (ServeStatus s (serve_words path workers port secs sources upstream patterns roots) before after status)
HasStatus s words (asks_find cache route upstream) before after status = FindStatus route before after status
HasStatus s words unreadable before after status = UsageStatus words status
