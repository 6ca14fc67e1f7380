-- What a run does, by its words (this project's rule).
use Rattle.std.specs.Prelude.{◌≡◌, ◌⊎◌, ℕ, Bool, true, false, List, IsTrue}
use Rattle.federation.specs.Server.{ServerFacts}
use Rattle.file_formats.specs.Parts.{IsSomePart, IsSomeSection}
use Rattle.file_formats.specs.Windows.{IsSomeWindow}
use Rattle.path_scope.specs.Scope.{Scope}
use Rattle.dbgd_words.specs.Patterns.{PatternTexts}
use Rattle.webapi_routes.specs.declared.route.Route.{Route}
use Rattle.dbgd_words.specs.Words.{Line, asks_find, asks_help, asks_ident, asks_query, asks_scan, asks_section}
use Rattle.dbgd_words.specs.Words.{asks_serve, asks_sources, asks_trial, has_options, line_of, unreadable}
use Rattle.dbgd_commands.specs.CommandCauses.{ScanEnds}
use Rattle.dbgd_commands.specs.Endings.{EndsSaying, SaysMemory, no_memory_saying, out_saying}
use Rattle.dbgd_commands.specs.File.{RunsFile}
use Rattle.dbgd_commands.specs.Ident.{SaysIdent}
use Rattle.dbgd_commands.specs.Query.{RunsQuery}
use Rattle.dbgd_commands.specs.QueryCauses.{QueryEnds}
use Rattle.dbgd_commands.specs.Scan.{RunsScan}
use Rattle.dbgd_commands.specs.Stage.{CommandStage, LeavesRest, ProgramStage, Setting}
use Rattle.dbgd_commands.specs.Section.{SaysSection}
use Rattle.dbgd_commands.specs.Sources.{SaysSources}
use Rattle.dbgd_commands.specs.Statuses.{code_of}
use Rattle.dbgd_commands.specs.Trial.{RunsTrial}
use Rattle.dbgd_commands.specs.declared.status.Status.{Status}
use Rattle.dbgd_commands.specs.declared.status.Status.TheVariants.{Done}
use Rattle.dbgd_run.specs.Causes.{HasStatus}
use Rattle.dbgd_run.specs.Find.{RunsFind}
use Rattle.dbgd_run.specs.Needs.{asks_others}
use Rattle.dbgd_run.specs.Selecting.{SaysAlone, Selects, scope_by, usage_saying}
use Rattle.dbgd_run.specs.Serve.{RunsServe, ServeWords, scope_in, serve_words}
use Rattle.dbgd_run.specs.ServeCauses.{ServeEnds}
use Rattle.dbgd_run.specs.ServeComplete.{CompletesServe, IsFreeServe}

-- a help or version: its text was said on the standard output, or memory was refused; hands and store weren't looked at
pub record SaysHelp {T : Type 0} (before after : CommandStage T) (status : Status) : Type 0 where
  pub text : List ℕ
  pub says :
      EndsSaying (out_saying text Done) before.streams after.streams status
      ⊎ SaysMemory before.streams after.streams status
  pub hands : after.hands ≡ before.hands
  pub store : after.store ≡ before.store

-- a query: what it does, and how it ends when
pub record IsQueryRun {T : Type 0} (s : Setting T) (path id : List ℕ)
    (before after : CommandStage T) (status : Status) : Type 0 where
  pub does : RunsQuery s path id before after status
  pub ends : QueryEnds s before after status

-- a scan: what it does, and how it ends when
pub record IsScanRun {T : Type 0} (s : Setting T) (path : List ℕ) (workers : ℕ) (scope : Scope)
    (before after : CommandStage T) (status : Status) : Type 0 where
  pub does : RunsScan s path workers scope before after status
  pub ends : ScanEnds s scope before after status

-- a server: what it does, how it ends when, and that each of its passes writes its line where nothing stands against it
pub record IsServeRun {T : Type 0} (s : Setting T) (words : ServeWords) (before after : ProgramStage T) (status : Status)
    : Type 0 where
  pub does : RunsServe s words before after status
  pub ends : ServeEnds s before after status
  pub complete : IsFreeServe s (scope_in words) before after → CompletesServe s words before after status does

-- whether a line waits for others, for threads or for other servers: a scan, of folders or of generated files, a server or a search
abbrev pub waits_for_others : Line → Bool
waits_for_others (asks_scan path workers patterns roots) = true
waits_for_others (asks_serve path workers port secs sources upstream patterns roots) = true
waits_for_others (asks_trial seed files workers) = true
waits_for_others (asks_find cache route upstream) = true
waits_for_others _ = false

-- what a line of words does that selects no files and is no search, by what it asks
abbrev pub Runs : {T : Type 0} → Setting T → Line → CommandStage T → CommandStage T → Status → Type 0
Runs s (asks_ident path) before after status =
    RunsFile s path (SaysIdent path) IsSomeWindow before after status
Runs s (asks_sources path) before after status =
    RunsFile s path (SaysSources path) IsSomePart before after status
Runs s (asks_section path name) before after status =
    RunsFile s path (SaysSection path name) (IsSomeSection name) before after status
Runs s (asks_query path id) before after status = RunsQuery s path id before after status
Runs s (asks_scan path workers patterns roots) before after status = ⊥
Runs s (asks_trial seed files workers) before after status = RunsTrial seed files before after status
Runs s asks_help before after status = SaysHelp before after status
Runs s (asks_serve path workers port secs sources upstream patterns roots) before after status = ⊥
Runs s (asks_find cache route upstream) before after status = ⊥
Runs s unreadable before after status = SaysAlone usage_saying before after status

-- such a line, on all that there is: doors, links, clock and cache are as they were
pub record RunsApart {T : Type 0} (s : Setting T) (line : Line) (before after : ProgramStage T) (status : Status)
    : Type 0 where
  pub runs : Runs s line before.command after.command status
  pub rest : LeavesRest before after

-- what a line of words does, by what it asks
abbrev pub DoesLine : {T : Type 0} → Setting T → Line → ProgramStage T → ProgramStage T → Status → Type 0
DoesLine s (asks_scan path workers patterns roots) before after status =
    Selects patterns before after status
    (RunsScan s path workers (scope_by patterns roots) before.command after.command status × LeavesRest before after)
DoesLine s (asks_serve path workers port secs sources upstream patterns roots) before after status =
    Selects patterns before after status
    (RunsServe s (serve_words path workers port secs sources upstream patterns roots) before after status)
DoesLine s (asks_find cache route upstream) before after status = RunsFind route before after status
DoesLine s line before after status = RunsApart s line before after status

-- the words are read as options, and memory was refused for that
pub record LacksRoom {T : Type 0} (words : List (List ℕ)) (before after : ProgramStage T)
    (status : Status) : Type 0 where
  pub options : IsTrue (has_options words)
  pub alone : SaysAlone no_memory_saying before.command after.command status
  pub rest : LeavesRest before after

-- what words do: as their line says, or there was no room for their options
abbrev pub DoesWords : {T : Type 0} → Setting T → List (List ℕ) → ProgramStage T → ProgramStage T → Status → Type 0
DoesWords s words before after status =
    DoesLine s (line_of words) before after status ⊎ LacksRoom words before after status

-- all that is promised of a run: the status and its number, what it does, a part for each command, and what its status
-- says
pub record IsProgramRun {T : Type 0} (s : Setting T) (words : List (List ℕ)) (before after : ProgramStage T)
    (code : ℕ) : Type 0 where
  pub status : Status
  pub number : code ≡ code_of status
  pub ident : (path : List ℕ) → line_of words ≡ asks_ident path
      → RunsFile s path (SaysIdent path) IsSomeWindow before.command after.command status
  pub sources : (path : List ℕ) → line_of words ≡ asks_sources path
      → RunsFile s path (SaysSources path) IsSomePart before.command after.command status
  pub section : (path name : List ℕ) → line_of words ≡ asks_section path name
      → RunsFile s path (SaysSection path name) (IsSomeSection name) before.command after.command status
  pub query : (path id : List ℕ) → line_of words ≡ asks_query path id
      → IsQueryRun s path id before.command after.command status
  pub scan : (path : List ℕ) (workers : ℕ) (patterns : PatternTexts) (roots : List (List ℕ))
      → line_of words ≡ asks_scan path workers patterns roots
      → Selects patterns before after status
      (IsScanRun s path workers (scope_by patterns roots) before.command after.command status)
  pub trial : (seed files workers : ℕ) → line_of words ≡ asks_trial seed files workers
      → RunsTrial seed files before.command after.command status
  pub help : line_of words ≡ asks_help → SaysHelp before.command after.command status
  pub serve : (path : List ℕ) (workers port secs : ℕ) (sources : List (List ℕ)) (upstream : List ServerFacts)
      (patterns : PatternTexts) (roots : List (List ℕ))
      → line_of words ≡ asks_serve path workers port secs sources upstream patterns roots
      → Selects patterns before after status
      (IsServeRun s (serve_words path workers port secs sources upstream patterns roots) before after status)
  pub find : (cache : List ℕ) (route : Route) (upstream : List ServerFacts) → line_of words ≡ asks_find cache route upstream
      → RunsFind route before after status ⊎ LacksRoom words before after status
  pub usage : line_of words ≡ unreadable
      → SaysAlone usage_saying before.command after.command status ⊎ LacksRoom words before after status
  pub causes : HasStatus s words (line_of words) before after status
  pub rest : asks_others (line_of words) ≡ false → LeavesRest before after
