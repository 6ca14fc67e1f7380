-- The command `serve` (this project's rule): the store is opened, the index on it makes a first pass, and then the doors are
-- served while passes are made between waits. What each door and the passes did is said at beginnings of the one log that the
-- index has in the end.
use Rattle.std.specs.Prelude.{◌≡◌, ◌⊎◌, ℕ, ◌+◌, ◌*◌, ◌<◌, ◌||◌, Bool, true, false, List, ◌++◌, All, drop, length, take, Option, Some, None}
use Rattle.std.specs.List.{AllZip}
use mathlib.Core.List.{IsPrefix}
use Rattle.row_types.specs.Faults.{HasCause, Rose}
use Rattle.row_types.specs.Row.{RowFacts}
use Rattle.index_keeper.specs.Store.{ShownStore, with_opened_path}
use Rattle.index_rows.specs.Log.{replay}
use Rattle.index_rows.specs.Rows.{row_names}
use Rattle.index_rows.specs.declared.change.Change.{Change}
use Rattle.index_state.specs.Changes.{TellsSince, VoidWhere}
use Rattle.index_state.specs.Invariant.{AreTrueRows}
use Rattle.index_state.specs.Opening.{current, made_swept, puts_of}
use Rattle.index_state.specs.State.{lasting}
use Rattle.index_state.specs.declared.open_fault.OpenFault.{OpenFault}
use Rattle.path_scope.specs.Scope.{Scope}
use Rattle.federation.specs.Server.{ServerFacts}
use Rattle.dbgd_words.specs.Patterns.{PatternTexts}
use Rattle.dbgd_metrics.specs.Shares.{BookFacts, ShareFacts}
use Rattle.conn_server.specs.Stage.{ConnSetting, conn_setting}
use Rattle.dbgd_commands.specs.Endings.{EndsCut, EndsWhole, Gets, Streams, SaysMemory}
use Rattle.dbgd_commands.specs.Kept.{HasRows, MayHaveRows, StoreHoldsRows}
use Rattle.dbgd_commands.specs.Scan.{Scans}
use Rattle.dbgd_commands.specs.ScanSaid.{refusal_saying}
use Rattle.dbgd_commands.specs.Stage.{LeavesRest, ProgramStage, Setting}
use Rattle.dbgd_commands.specs.declared.scan_end.ScanEnd.TheVariants.{Refused}
use Rattle.dbgd_commands.specs.declared.status.Status.{Status}
use Rattle.dbgd_commands.specs.declared.status.Status.TheVariants.{Done}
use Rattle.dbgd_run.specs.Selecting.{scope_by}
use Rattle.dbgd_run.specs.RoundSaid.{CountsPass, TellsPass}
use Rattle.dbgd_run.specs.Rounds.{KeepsPassing, PassesShared, PassStage, Round, pass_stage}
use Rattle.dbgd_run.specs.ServeSaid.{door_lines, has_cut, is_any_failed, served_status, serving_saying, wants_line}
use Rattle.dbgd_run.specs.Workers.{AreWorkers, IsFreshShare, ServedBy, WorkerFacts}
use Rattle.dbgd_run.specs.declared.line_fate.LineFate.TheVariants.{Unmade}
use Rattle.dbgd_run.specs.declared.passes_end.PassesEnd.{PassesEnd}

-- what the words of a server ask
pub record ServeWords : Type 0 where
  pub path : List ℕ
  pub workers : ℕ
  pub port : ℕ
  pub secs : ℕ
  pub sources : List (List ℕ)
  pub upstream : List ServerFacts
  pub patterns : PatternTexts
  pub roots : List (List ℕ)

-- the words of these
abbrev pub serve_words : List ℕ → ℕ → ℕ → ℕ → List (List ℕ) → List ServerFacts → PatternTexts → List (List ℕ)
    → ServeWords
serve_words path workers port secs sources upstream patterns roots = record {
  path = path;
  workers = workers;
  port = port;
  secs = secs;
  sources = sources;
  upstream = upstream;
  patterns = patterns;
  roots = roots;
}

-- the roots of a server's passes, and the paths that its patterns select
abbrev pub scope_in : ServeWords → Scope
scope_in words = scope_by words.patterns words.roots

-- what stays while doors are served: what a run rests on, the folders of sources, and how many rows the counter table has
abbrev pub doors_setting : {T : Type 0} → Setting T → List (List ℕ) → ℕ → ConnSetting T
doors_setting s folders rows = conn_setting s.world.true_row s.tells_files s.world.version s.sees folders rows

-- that of a server: sources come from the folders that are scanned and from those for sources alone, and the counter table has
-- a row for each worker and one for the passes
abbrev pub served_setting : {T : Type 0} → Setting T → ServeWords → ConnSetting T
served_setting s words = doors_setting s (words.roots ++ words.sources) (words.workers + 1)

-- no index was opened on the store, which is said as a scan says it; no door, no link and no wait was asked for
pub record IsUnopened {T : Type 0} (s : Setting T) (words : ServeWords) (before after : ProgramStage T) (fault : OpenFault)
    (status : Status) : Type 0 where
  pub scans :
      Scans s words.path (scope_in words) before.command.hands after.command.hands before.command.store after.command.store (Refused fault)
  pub said : EndsWhole (refusal_saying fault) before.command.streams after.command.streams status
  pub rest : LeavesRest before after

-- the store was opened once, by the path, and had its keeper back; its count rose where the index that was opened on it broke
pub record StoreServes (path : List ℕ) (broken : Bool) (old new : ShownStore) : Type 0 where
  pub cause : HasCause old.faults new.faults (broken ≡ true)
  pub opened : Rose old.epoch new.epoch
  pub opens : new.paths ≡ with_opened_path path old.paths

-- the first line was said, and then that memory was refused
pub record SaysUnlocked (words : ServeWords) (old new : Streams) (status : Status) : Type 0 where
  pub told : Streams
  pub line : EndsWhole (serving_saying words.port words.workers) old told Done
  pub wants : SaysMemory told new status

-- before anything was served: the standard output refused the first line, or behind it memory was refused
abbrev pub SaysUnserved : ServeWords → Streams → Streams → Status → Type 0
SaysUnserved words old new status =
    EndsCut (serving_saying words.port words.workers) old new status ⊎ SaysUnlocked words old new status

-- an index was opened on the store, and nothing was served: the store has the rows of the edition that it held, and no hand, no
-- door, no link and no wait was asked for
pub record IsUnserved {T : Type 0} (s : Setting T) (words : ServeWords) (before after : ProgramStage T) (status : Status)
    : Type 0 where
  pub found : List RowFacts
  pub held : StoreHoldsRows s.tells_tables before.command.store found
  pub has : HasRows s.tells_tables after.command.store (current found)
  pub made : after.command.store.made ≡ made_swept found before.command.store.made
  pub store : StoreServes words.path false before.command.store after.command.store
  pub hands : after.command.hands ≡ before.command.hands
  pub said : SaysUnserved words before.command.streams after.command.streams status
  pub rest : LeavesRest before after

-- the log that the index has in the end, and what the store has then: first the puts of the rows of the edition that it held, by
-- path; then one change for each that it made since; and then a void one where a put or a removal failed, else nothing. The rows
-- that the log leaves are true, and the store has them and nothing else, but for what the void change stands for
pub record HasServedLog (true_row : RowFacts → Type 0) (told : Bool) (found : List RowFacts) (old new : ShownStore)
    (broken : Bool) (log : List Change) : Type 0 where
  pub since : List Change
  pub parts : lasting broken log ≡ puts_of (current found) ++ since
  pub void : VoidWhere broken log
  pub made : TellsSince true_row since (made_swept found old.made) new.made
  pub rows : List RowFacts
  pub names : row_names rows ≡ replay log
  pub sound : AreTrueRows true_row rows
  pub has : broken ≡ false → HasRows told new rows
  pub may_have : broken ≡ true → MayHaveRows true_row told new rows

-- one pass was made, said and counted, without a wait
pub record MakesRound {T : Type 0} (s : Setting T) (scope : Scope) (before : PassStage T) (round : Round T)
    : Type 0 where
  pub passes : PassesShared s scope round.end before round.after
  pub tells : TellsPass round.end before.streams round.after.streams round.fate
  pub counts : CountsPass round.end before.share round.after.share
  pub woke : round.after.woke ≡ before.woke

-- the passes behind the first one: none where no time between them is given, or where the line of the first one could not be
-- made; else those of the clock
abbrev pub PassesOn : {T : Type 0} → Setting T → Scope → ℕ → Round T → Option PassesEnd → PassStage T → Type 0
PassesOn s scope secs first None after = ((secs ≡ 0) ⊎ (first.fate ≡ Unmade)) × (after ≡ first.after)
PassesOn s scope secs first (Some end) after = (0 < secs) × KeepsPassing s scope secs first.after end after

-- the doors were served beside the passes. The first line was written whole, a first pass was made with the first hands, two and
-- one for each worker, and what it was is said of the log of the opening and of the one that its token had seen then. Each door
-- was served once, with the hand behind those and the row of links at its place, one link for each server of the words, by a
-- token that had seen that log; the passes behind the first one go on from it; and all of them ended at beginnings of the log that the index has in the end. The passes and
-- the workers count in one table, which has a row for each of them. The lines of the doors that failed stand behind all others:
-- all of them, or a proper part, where the count rose
pub record HasServed {T : Type 0} (s : Setting T) (words : ServeWords) (before after : ProgramStage T) (status : Status)
    : Type 0 where
  pub found : List RowFacts
  pub held : StoreHoldsRows s.tells_tables before.command.store found
  pub broken : Bool
  pub log : List Change
  pub logs :
      HasServedLog s.world.true_row s.tells_tables found before.command.store after.command.store broken log
  pub store : StoreServes words.path broken before.command.store after.command.store
  pub told : Streams
  pub line : EndsWhole (serving_saying words.port words.workers) before.command.streams told Done
  pub book : BookFacts
  pub sized : book.rows ≡ words.workers + 1
  pub share : ShareFacts
  pub fresh : IsFreshShare book share
  pub first : Round T
  pub made :
      MakesRound s (scope_in words)
      (pass_stage (puts_of (current found)) (take (words.workers + 2) before.command.hands) before.woke told share) first
  pub passed : IsPrefix first.after.log log
  pub workers : List (WorkerFacts T)
  pub workers_are :
      AreWorkers (take words.workers (drop (words.workers + 2) before.command.hands)) before.doors
      (take words.workers before.links) workers
  pub shares : All (λ worker. IsFreshShare book worker.share) workers
  pub linked : All (λ worker. length worker.links ≡ length words.upstream) workers
  pub left : List (WorkerFacts T)
  pub left_are :
      AreWorkers (take words.workers (drop (words.workers + 2) after.command.hands)) after.doors
      (take words.workers after.links) left
  pub doors : AllZip (ServedBy (served_setting s words) first.after.log log) workers left
  pub how : Option PassesEnd
  pub last : PassStage T
  pub passes : PassesOn s (scope_in words) words.secs first how last
  pub within : IsPrefix last.log log
  pub hands : take (words.workers + 2) after.command.hands ≡ last.hands
  pub others : drop (words.workers * 2 + 2) after.command.hands ≡ drop (words.workers * 2 + 2) before.command.hands
  pub other_links : drop words.workers after.links ≡ drop words.workers before.links
  pub woke : after.woke ≡ last.woke
  pub cache : after.cache ≡ before.cache
  pub out : after.command.streams.out ≡ last.streams.out
  pub err : Gets (door_lines after.doors) last.streams.err after.command.streams.err
  pub ends :
      status
      ≡ served_status (wants_line first.fate how)
      (has_cut first.fate how || (is_any_failed after.doors || broken))

-- what a server does, by how far it comes
pub data RunsServe {T : Type 0} (s : Setting T) (words : ServeWords) (before after : ProgramStage T) (status : Status)
    : Type 0 where
  unopened : (fault : OpenFault) → IsUnopened s words before after fault status → RunsServe s words before after status
  unserved : IsUnserved s words before after status → RunsServe s words before after status
  served : HasServed s words before after status → RunsServe s words before after status
