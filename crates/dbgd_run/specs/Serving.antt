-- What serving makes of an index, of hands and of workers (this crate's bookkeeping, which no public clause cites).
use Rattle.std.specs.Prelude.{◌≡◌, ℕ, ◌<◌, nat_lt, Bool, true, false, List, Option, Some, None}
use Rattle.std.specs.List.{AllZip}
use mathlib.Core.List.{IsPrefix}
use Rattle.federation.specs.Link.{ShownLink}
use Rattle.http_wire.specs.Door.{ShownDoor}
use Rattle.path_scope.specs.Scope.{Scope}
use Rattle.row_types.specs.Row.{RowFacts}
use Rattle.index_keeper.specs.Keeper.{ShownKeeper}
use Rattle.index_keeper.specs.Store.{ShownStore}
use Rattle.index_rows.specs.declared.change.Change.{Change}
use Rattle.index_state.specs.Invariant.{IndexInvariant}
use Rattle.index_state.specs.Opening.{LeavesRows, Opens, RefusesOpening, current, made_swept, puts_of}
use Rattle.index_state.specs.State.{StateFacts}
use Rattle.index_state.specs.declared.open_fault.OpenFault.{OpenFault}
use Rattle.index_state.specs.declared.open_fault.OpenFault.TheVariants as refusal
use Rattle.conn_server.specs.Stage.{ConnSetting}
use Rattle.tree_trait.specs.declared.clock.Waited.{Waited}
use Rattle.dbgd_commands.specs.Endings.{Streams}
use Rattle.dbgd_commands.specs.Kept.{HasRows, StoreHoldsRows}
use Rattle.dbgd_commands.specs.Scan.{Scans}
use Rattle.dbgd_commands.specs.Stage.{Setting}
use Rattle.dbgd_commands.specs.declared.scan_end.ScanEnd.TheVariants as scanned
use Rattle.dbgd_run.specs.Rounds.{KeepsPassing, PassStage, Round}
use Rattle.dbgd_run.specs.ServeSaid.{Announces}
use Rattle.dbgd_run.specs.Serve.{HasServedLog, MakesRound, PassesOn, StoreServes}
use Rattle.dbgd_run.specs.Workers.{WorkerServed}
use Rattle.dbgd_run.specs.declared.line_fate.LineFate.{LineFate}
use Rattle.dbgd_run.specs.declared.line_fate.LineFate.TheVariants.{Unmade}
use Rattle.dbgd_run.specs.declared.passes_end.PassesEnd.{PassesEnd}
use Rattle.dbgd_run.specs.declared.worker.Worker.{Worker}
use Rattle.dbgd_run.specs.declared.serve_end.ServeEnd.{ServeEnd}
use Rattle.dbgd_run.specs.declared.serve_end.ServeEnd.TheVariants.{Refused, Unannounced, Unlocked, Served}

-- what stays while a server runs: the setting, the scope of its passes, the seconds between passes, what doors are served with, and what
-- a door and a link show
pub record ServeSetting (T D L : Type 0) : Type 1 where
  pub setting : Setting T
  pub scope : Scope
  pub secs : ℕ
  pub doors : ConnSetting T
  pub sees : D → ShownDoor
  pub views : L → ShownLink

-- the same, field by field
abbrev pub serve_setting : {T D L : Type 0} → Setting T → Scope → ℕ → ConnSetting T → (D → ShownDoor) → (L → ShownLink)
    → ServeSetting T D L
serve_setting setting scope secs doors sees views =
    record { setting = setting; scope = scope; secs = secs; doors = doors; sees = sees; views = views }

-- what is worked with, at a moment: the hands of passes, the waits, the sinks, and the workers
pub record ServeStage (T D L : Type 0) : Type 0 where
  pub hands : List T
  pub woke : Option (List Waited)
  pub streams : Streams
  pub workers : List (Worker T D L)

-- the same, field by field
abbrev pub serve_stage : {T D L : Type 0} → List T → Option (List Waited) → Streams → List (Worker T D L) → ServeStage T D L
serve_stage hands woke streams workers = record { hands = hands; woke = woke; streams = streams; workers = workers }

-- nothing was worked with: hands, waits and workers are as they were
abbrev pub LeavesCrew : {T D L : Type 0} → PassStage T → List (Worker T D L) → ServeStage T D L → Type 0
LeavesCrew before workers after = (after.hands ≡ before.hands) × (after.woke ≡ before.woke) × (after.workers ≡ workers)

-- whether passes are to be made behind the first one, by the seconds between them and by what came of its line
abbrev pub goes_on : ℕ → LineFate → Bool
goes_on secs Unmade = false
goes_on secs fate = nat_lt 0 secs

-- the passes beside the doors: they end at a beginning of the log
pub record PassesBeside {T D L : Type 0} (s : Setting T) (scope : Scope) (secs : ℕ) (before : PassStage T)
    (end : PassesEnd) (joined : List Change) (after : ServeStage T D L) : Type 0 where
  pub last : PassStage T
  pub within : IsPrefix last.log joined
  pub keeps : KeepsPassing s scope secs before end last
  pub hands : after.hands ≡ last.hands
  pub woke : after.woke ≡ last.woke
  pub streams : after.streams ≡ last.streams

-- the same, or none where none were to be made
abbrev pub GoesOn : {T D L : Type 0} → Setting T → Scope → ℕ → Bool → PassStage T → Option PassesEnd → List Change
    → ServeStage T D L → Type 0
GoesOn s scope secs passing before None joined after =
    (passing ≡ false) × (after.hands ≡ before.hands) × (after.woke ≡ before.woke) × (after.streams ≡ before.streams)
GoesOn s scope secs passing before (Some end) joined after =
    (passing ≡ true) × PassesBeside s scope secs before end joined after

-- a first pass was made, and then the doors were served, with passes beside them where there were any; all of it at beginnings
-- of this log
pub record ServesFrom {T D L : Type 0} (r : ServeSetting T D L) (before : PassStage T) (workers : List (Worker T D L))
    (fate : LineFate) (how : Option PassesEnd) (joined : List Change) (after : ServeStage T D L) : Type 0 where
  pub first : Round T
  pub fate_is : first.fate ≡ fate
  pub made : MakesRound r.setting r.scope before first
  pub passed : IsPrefix first.after.log joined
  pub doors : AllZip (WorkerServed r.doors r.sees r.views first.after.log joined) workers after.workers
  pub last : PassStage T
  pub passes : PassesOn r.setting r.scope r.secs first how last
  pub within : IsPrefix last.log joined
  pub hands : after.hands ≡ last.hands
  pub woke : after.woke ≡ last.woke
  pub streams : after.streams ≡ last.streams

-- the index was served and taken out again: it stands as the invariant says, from the same opening, and its log goes on from all
-- that was served
pub record ServesLog {K T D L : Type 0} (r : ServeSetting T D L) (shows : K → ShownKeeper) (old : StateFacts K)
    (before : PassStage T) (workers : List (Worker T D L)) (fate : LineFate) (how : Option PassesEnd) (broken : Bool)
    (keeper : K) (after : ServeStage T D L) : Type 0 where
  pub new : StateFacts K
  pub value : keeper ≡ new.keeper
  pub holds : IndexInvariant r.setting.world.true_row r.setting.tells_tables shows new
  pub origin : new.origin ≡ old.origin
  pub broken_is : new.broken ≡ broken
  pub begins : IsPrefix old.log new.log
  pub serves : ServesFrom r before workers fate how new.log after

-- memory for the lock of the index was refused, and nothing was done
pub record StopsUnlocked {K T D L : Type 0} (r : ServeSetting T D L) (shows : K → ShownKeeper) (old : StateFacts K)
    (before : PassStage T) (workers : List (Worker T D L)) (keeper : K) (after : ServeStage T D L) : Type 0 where
  pub value : keeper ≡ old.keeper
  pub holds : IndexInvariant r.setting.world.true_row r.setting.tells_tables shows old
  pub quiet : after.streams ≡ before.streams
  pub same : LeavesCrew before workers after

-- what came of an index that was opened, by how the server ended
abbrev pub ServesIndex : {K T D L : Type 0} → ServeSetting T D L → (K → ShownKeeper) → StateFacts K → PassStage T
    → List (Worker T D L) → ServeEnd → K → ServeStage T D L → Type 0
ServesIndex r shows old before workers Unlocked keeper after = StopsUnlocked r shows old before workers keeper after
ServesIndex r shows old before workers (Served fate how broken) keeper after =
    ServesLog r shows old before workers fate how broken keeper after
ServesIndex r shows old before workers _ keeper after = ⊥

-- an index was opened on the keeper, the first line was said, and what came of the index
pub record ServesOpened {K T D L : Type 0} (r : ServeSetting T D L) (shows : K → ShownKeeper) (line : List ℕ) (opened : K)
    (before : PassStage T) (workers : List (Worker T D L)) (end : ServeEnd) (keeper : K) (after : ServeStage T D L)
    : Type 0 where
  pub old : StateFacts K
  pub opens : Opens r.setting.tells_tables shows opened old
  pub told : Streams
  pub says : Announces line true before.streams told
  pub serves :
      ServesIndex r shows old (record before { log = old.log; streams = told }) workers end keeper after

-- an index was opened on the keeper, and the first line was refused
pub record StopsUnannounced {K T D L : Type 0} (r : ServeSetting T D L) (shows : K → ShownKeeper) (line : List ℕ) (opened : K)
    (before : PassStage T) (workers : List (Worker T D L)) (keeper : K) (after : ServeStage T D L) : Type 0 where
  pub old : StateFacts K
  pub opens : Opens r.setting.tells_tables shows opened old
  pub holds : IndexInvariant r.setting.world.true_row r.setting.tells_tables shows old
  pub value : keeper ≡ old.keeper
  pub says : Announces line false before.streams after.streams
  pub same : LeavesCrew before workers after

-- no index was opened on the keeper: why, what a crash may leave of what it had, and that a fault was counted where it failed
pub record RefusesKeeper {K T D L : Type 0} (r : ServeSetting T D L) (shows : K → ShownKeeper) (opened : K) (before : PassStage T)
    (workers : List (Worker T D L)) (fault : OpenFault) (keeper : K) (after : ServeStage T D L) : Type 0 where
  pub refuses : RefusesOpening r.setting.tells_tables shows opened fault keeper
  pub left : LeavesRows r.setting.tells_tables (shows opened) (shows keeper)
  pub counted : fault ≡ refusal.KeeperFault → 0 < (shows keeper).faults
  pub quiet : after.streams ≡ before.streams
  pub same : LeavesCrew before workers after

-- what came of a keeper, by how the server ended
abbrev pub ServesKeeper : {K T D L : Type 0} → ServeSetting T D L → (K → ShownKeeper) → List ℕ → K → PassStage T
    → List (Worker T D L) → ServeEnd → K → ServeStage T D L → Type 0
ServesKeeper r shows line opened before workers (Refused fault) keeper after =
    RefusesKeeper r shows opened before workers fault keeper after
ServesKeeper r shows line opened before workers Unannounced keeper after =
    StopsUnannounced r shows line opened before workers keeper after
ServesKeeper r shows line opened before workers end keeper after =
    ServesOpened r shows line opened before workers end keeper after

-- what came of a store, by how the server ended; a scan that no index was opened for says the same of the store
pub record RefusesStore {T D L : Type 0} (r : ServeSetting T D L) (path : List ℕ) (old new : ShownStore) (before : PassStage T)
    (workers : List (Worker T D L)) (fault : OpenFault) (after : ServeStage T D L) : Type 0 where
  pub scans : Scans r.setting path r.scope before.hands after.hands old new (scanned.Refused fault)
  pub quiet : after.streams ≡ before.streams
  pub same : LeavesCrew before workers after

-- an index was opened on the store, which had its keeper back; the first line was refused, or behind it memory for the lock was
pub record StopsStore {T D L : Type 0} (r : ServeSetting T D L) (path line : List ℕ) (told : Bool) (old new : ShownStore)
    (before : PassStage T) (workers : List (Worker T D L)) (after : ServeStage T D L) : Type 0 where
  pub found : List RowFacts
  pub held : StoreHoldsRows r.setting.tells_tables old found
  pub has : HasRows r.setting.tells_tables new (current found)
  pub made : new.made ≡ made_swept found old.made
  pub store : StoreServes path false old new
  pub says : Announces line told before.streams after.streams
  pub same : LeavesCrew before workers after

-- an index was opened on the store, which had its keeper back, and was served
pub record ServesHeld {T D L : Type 0} (r : ServeSetting T D L) (path line : List ℕ) (old new : ShownStore) (before : PassStage T)
    (workers : List (Worker T D L)) (fate : LineFate) (how : Option PassesEnd) (broken : Bool) (after : ServeStage T D L)
    : Type 0 where
  pub found : List RowFacts
  pub held : StoreHoldsRows r.setting.tells_tables old found
  pub log : List Change
  pub logs : HasServedLog r.setting.world.true_row r.setting.tells_tables found old new broken log
  pub store : StoreServes path broken old new
  pub told : Streams
  pub says : Announces line true before.streams told
  pub serves : ServesFrom r (record before { log = puts_of (current found); streams = told }) workers fate how log after

-- what a server does with its store, by how it ends
abbrev pub ServesStore : {T D L : Type 0} → ServeSetting T D L → List ℕ → List ℕ → ShownStore → ShownStore → PassStage T
    → List (Worker T D L) → ServeEnd → ServeStage T D L → Type 0
ServesStore r path line old new before workers (Refused fault) after = RefusesStore r path old new before workers fault after
ServesStore r path line old new before workers Unannounced after = StopsStore r path line false old new before workers after
ServesStore r path line old new before workers Unlocked after = StopsStore r path line true old new before workers after
ServesStore r path line old new before workers (Served fate how broken) after =
    ServesHeld r path line old new before workers fate how broken after
