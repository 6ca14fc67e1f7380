-- The command `scan` (this project's rule): the store is opened, the index on it makes one pass over the scope, which is the
-- selected files under the folders, and the store has its keeper back. The rows that the store held and those that it has in the
-- end are what the pass is said of.
use Rattle.std.specs.Prelude.{◌≡◌, ◌≢◌, ◌⊎◌, ℕ, ◌+◌, ◌≤◌, Bool, true, List, ◌++◌, drop, length, IsTrue, Ok}
use Rattle.path_scope.specs.Scope.{Scope, is_in_scope}
use Rattle.row_types.specs.Canon.{IsCanonPath}
use Rattle.row_types.specs.Faults.{HasCause, Rose}
use Rattle.row_types.specs.Name.{NameFacts}
use Rattle.row_types.specs.Row.{RowFacts}
use Rattle.row_types.specs.Rules.{Rules}
use Rattle.scan_queue.specs.declared.miss.Miss.{Miss}
use Rattle.index_keeper.specs.Store.{ShownStore, with_opened_path}
use Rattle.index_keeper.specs.Tables.{KeptFacts}
use Rattle.index_rows.specs.Log.{replay}
use Rattle.index_rows.specs.Rows.{row_names}
use Rattle.index_rows.specs.declared.change.Change.{Change}
use Rattle.index_rows.specs.declared.rows.TheConstants.{LOG_LIMIT}
use Rattle.index_state.specs.Changes.{ArePuts}
use Rattle.index_state.specs.Complete.{IsScan}
use Rattle.index_state.specs.Invariant.{AreTrueRows}
use Rattle.index_state.specs.Opening.{IsFirstBad, IsOverfull, current, made_swept}
use Rattle.index_state.specs.Plan.{most_changes, plan_of}
use Rattle.index_state.specs.declared.open_fault.OpenFault.{OpenFault}
use Rattle.index_state.specs.declared.open_fault.OpenFault.TheVariants as refusal
use Rattle.tree_trait.specs.Heard.{Heard}
use Rattle.tree_trait.specs.Shown.{HandsOn, ShownTree}
use Rattle.tree_walk.specs.Ends.{WalksTree}
use Rattle.tree_walk.specs.declared.walked.Walk.{Walk}
use Rattle.pass_runner.specs.Numbers.{summary_of}
use Rattle.pass_runner.specs.Owned.{HandsGo, HearsPass, Helps, IsMissTold, LoadsBeside, WalksInto}
use Rattle.pass_runner.specs.Settled.{KeepsListed, MovesRows}
use Rattle.pass_runner.specs.declared.pass_end.PassEnd.{PassEnd}
use Rattle.pass_runner.specs.declared.pass_end.PassEnd.TheVariants as pass
use Rattle.pass_runner.specs.declared.summary.Summary.{Summary}
use Rattle.dbgd_commands.specs.Kept.{GivesValues, HasRows, StoreHoldsRows, KeepsStore, LacksFirst, MakesChanges}
use Rattle.dbgd_commands.specs.Kept.{MayHaveRows}
use Rattle.dbgd_commands.specs.ScanSaid.{SaysEnd, is_first_hand_fault, is_open, is_store_fault}
use Rattle.dbgd_commands.specs.Stage.{CommandStage, FirstGoes, FirstRose, Setting}
use Rattle.dbgd_commands.specs.declared.scan_end.ScanEnd.{ScanEnd}
use Rattle.dbgd_commands.specs.declared.scan_end.ScanEnd.TheVariants.{Refused, Passed}
use Rattle.dbgd_commands.specs.declared.status.Status.{Status}

-- the store gave these values, no index is opened on them, and all is as it was
pub record RefusesValues (told : Bool) (old new : ShownStore)
    (Why : List KeptFacts → Type 0) : Type 0 where
  pub values : List KeptFacts
  pub gave : GivesValues told old values
  pub why : Why values
  pub keeps : KeepsStore told old new

-- why no index was opened, and what the store has then
abbrev pub RefusesBy : Bool → ShownStore → ShownStore → OpenFault → Type 0
RefusesBy told old new refusal.KeeperFault = LacksFirst told old new
RefusesBy told old new (refusal.BadRow kept fault) =
    RefusesValues told old new (λ values. IsFirstBad values kept fault)
RefusesBy told old new refusal.LogFull = RefusesValues told old new IsOverfull
RefusesBy told old new refusal.OutOfMemory = LacksFirst told old new

-- the scan ended before a folder was looked at
pub record EndsScanEarly {T : Type 0} (s : Setting T) (before after : List T) (old new : ShownStore)
    (fault : OpenFault) : Type 0 where
  pub hands : after ≡ before
  pub store : RefusesBy s.tells_tables old new fault

-- the walk ended so, and the store has the rows of the edition that it held
pub record EndsInWalk {T : Type 0} (s : Setting T) (before after : List T) (old new : ShownStore)
    (Walked : ShownTree → ShownTree → Type 0) : Type 0 where
  pub found : List RowFacts
  pub held : StoreHoldsRows s.tells_tables old found
  pub hands : FirstGoes (λ hand later. Walked (s.sees hand) (s.sees later)) before after
  pub has : HasRows s.tells_tables new (current found)
  pub made : new.made ≡ made_swept found old.made

-- another hand heard nothing but openings and reads of parts, or looks, and none of a path of a listed name that had a row of
-- the edition
abbrev pub HelpsWith : {T : Type 0} → Setting T → List NameFacts → List RowFacts → T → T → Type 0
HelpsWith s listing rows hand later =
    Helps s.tells_files s.world.version listing (row_names rows) (s.sees hand) (s.sees later)

-- the walk was whole, and memory was refused before the pass began: the store has the rows of the edition that it held
pub record EndsUnbegun {T : Type 0} (s : Setting T) (scope : Scope) (before after : List T)
    (old new : ShownStore) : Type 0 where
  pub found : List RowFacts
  pub held : StoreHoldsRows s.tells_tables old found
  pub walk : Walk
  pub hands :
      HandsGo (λ hand later. WalksTree s.tells_files (s.sees hand) (s.sees later) scope (Ok walk))
      (HelpsWith s walk.listing (current found)) before after
  pub has : HasRows s.tells_tables new (current found)
  pub made : new.made ≡ made_swept found old.made

-- the other hands helped with a pass, and the first one heard a whole walk and no more. The rows that are left are true,
-- and no row of a listed name went
pub record EndsScanHelped {T : Type 0} (s : Setting T) (scope : Scope) (before after : List T)
    (old new : ShownStore) (Ends : List RowFacts → Type 0) : Type 0 where
  pub found : List RowFacts
  pub held : StoreHoldsRows s.tells_tables old found
  pub left : List RowFacts
  pub sound : AreTrueRows s.world.true_row left
  pub made : MakesChanges s.world.true_row found old.made new.made
  pub walk : Walk
  pub hands :
      HandsGo (λ hand later. WalksTree s.tells_files (s.sees hand) (s.sees later) scope (Ok walk))
      (HelpsWith s walk.listing (current found)) before after
  pub stays : KeepsListed walk.listing (current found) left
  pub ends : Ends left

-- the pass was made: the store held the rows that were found, and those that are left are true. The other hands helped:
-- each heard nothing but openings and reads of parts, or looks, and none of a path of a listed name that had a row; the rows
-- that were met stood then, and no row of a listed name had gone. The first hand heard a whole walk, and then nothing but
-- openings and reads of listed files whose names had no row by then and looks at paths of the scope; from then on the rows went
-- and came as in a pass, by what it heard. With one hand the rows that were met are those of the edition that were found. How
-- it ended may speak of the changes that the store made, too
pub record MakesPass {T : Type 0} (s : Setting T) (scope : Scope) (before after : List T)
    (old new : ShownStore)
    (Ends : List NameFacts → List Heard → List Change → List RowFacts → List RowFacts → List RowFacts → Type 0)
    : Type 0 where
  pub found : List RowFacts
  pub held : StoreHoldsRows s.tells_tables old found
  pub met : List RowFacts
  pub alone : length before ≤ 1 → met ≡ current found
  pub left : List RowFacts
  pub sound : AreTrueRows s.world.true_row left
  pub made : MakesChanges s.world.true_row found old.made new.made
  pub walk : Walk
  pub walked : List Heard
  pub more : List Heard
  pub hands :
      HandsGo
      (λ hand later. HearsPass s.tells_files s.world.version scope (row_names met) walk
      walked more (s.sees hand) (s.sees later))
      (HelpsWith s walk.listing (current found)) before after
  pub kept : KeepsListed walk.listing (current found) met
  pub moves : MovesRows walk.listing (is_in_scope scope) more met left
  pub ends : Ends walk.listing more made.changes (current found) met left

-- the scan is whole: the rows have the listed names, in a told world they are one scan of the listing, the store has
-- them and nothing else, and the numbers are those of the plan against the rows of the edition that it held
pub record IsWholeScan (world : Rules) (told : Bool) (new : ShownStore) (summary : Summary)
    (listing : List NameFacts) (found left : List RowFacts) : Type 0 where
  pub names : row_names left ≡ listing
  pub scan : world.told ≡ true → IsScan world.true_row listing left
  pub has : HasRows told new left
  pub numbers : summary ≡ summary_of (plan_of listing (row_names found)) left

-- a name was missed and is told, by what the first hand heard, and the store has the rows that are left
pub record ScanMissesName (told : Bool) (new : ShownStore) (Failed : Type 0) (miss : Miss)
    (listing : List NameFacts) (more : List Heard) (met left : List RowFacts) : Type 0 where
  pub path : IsCanonPath miss.name.path
  pub tells : IsMissTold miss Failed listing (row_names met) more
  pub has : HasRows told new left

-- the log has no room, and the rows that it leads to aren't those of the listing: it is one put for each row that was found,
-- by path, and behind them the changes that the store made. The rows that were found and the changes that the plan against
-- them allows are as many as the limit, or more
pub record IsOutOfChanges (told : Bool) (new : ShownStore) (listing : List NameFacts) (changes : List Change)
    (found left : List RowFacts) : Type 0 where
  pub first : List Change
  pub puts : ArePuts first
  pub count : length first ≡ length found
  pub names : row_names left ≡ replay (first ++ changes)
  pub full : length (first ++ changes) ≡ LOG_LIMIT
  pub apart : row_names left ≢ listing
  pub many : LOG_LIMIT ≤ length found + most_changes (plan_of listing (row_names found))
  pub has : HasRows told new left

-- how the pass of a scan ended, and what it left
abbrev pub EndsPassed : {T : Type 0} → Setting T → Scope → List T → List T → ShownStore
    → ShownStore → PassEnd → Type 0
EndsPassed s scope before after old new (pass.Whole summary) =
    MakesPass s scope before after old new
    (λ listing more changes found met left.
    IsWholeScan s.world s.tells_tables new summary listing found left)
EndsPassed s scope before after old new (pass.Missed miss) =
    MakesPass s scope before after old new
    (λ listing more changes found met left. ScanMissesName s.tells_tables new (FirstRose s before after) miss
    listing more met left)
EndsPassed s scope before after old new (pass.Walk fault) =
    EndsInWalk s before after old new (WalksInto s.tells_files scope fault)
EndsPassed s scope before after old new pass.Broken = ⊥
EndsPassed s scope before after old new pass.KeeperFault =
    MakesPass s scope before after old new
    (λ listing more changes found met left. MayHaveRows s.world.true_row s.tells_tables new left)
    ⊎ EndsScanHelped s scope before after old new (MayHaveRows s.world.true_row s.tells_tables new)
EndsPassed s scope before after old new pass.LogFull =
    MakesPass s scope before after old new
    (λ listing more changes found met left. IsOutOfChanges s.tells_tables new listing changes found left)
EndsPassed s scope before after old new pass.OutOfMemory =
    EndsUnbegun s scope before after old new
    ⊎ (MakesPass s scope before after old new
    (λ listing more changes found met left. HasRows s.tells_tables new left)
    ⊎ EndsScanHelped s scope before after old new (HasRows s.tells_tables new))

-- how the scan came to its end, and what it left
abbrev pub EndsScan : {T : Type 0} → Setting T → Scope → List T → List T → ShownStore
    → ShownStore → ScanEnd → Type 0
EndsScan s scope before after old new (Refused fault) = EndsScanEarly s before after old new fault
EndsScan s scope before after old new (Passed end) = EndsPassed s scope before after old new end

-- the store was opened once, by this path; where memory was refused, once or not at all
abbrev pub OpensBy : List ℕ → ShownStore → ShownStore → ScanEnd → Type 0
OpensBy path old new (Refused refusal.OutOfMemory) =
    (new.paths ≡ old.paths) ⊎ (new.paths ≡ with_opened_path path old.paths)
OpensBy path old new _ = new.paths ≡ with_opened_path path old.paths

-- where the pass was whole the hands from the third on, if there are any, heard as many openings as files were read
abbrev pub LoadsBy : {T : Type 0} → (T → ShownTree) → List T → List T → ScanEnd → Type 0
LoadsBy sees before after (Refused fault) = Unit {0}
LoadsBy sees before after (Passed end) = LoadsBeside sees before after end

-- the scan came to this end, by then the store was opened, and a call failed only where a count rose
pub record Scans {T : Type 0} (s : Setting T) (path : List ℕ) (scope : Scope)
    (before after : List T) (old new : ShownStore) (end : ScanEnd) : Type 0 where
  pub ends : EndsScan s scope before after old new end
  pub loads : LoadsBy s.sees before after end
  pub hands :
      HandsGo
      (λ hand later. HandsOn s.tells_files s.world.version (s.sees hand) (s.sees later) ⊥
      (IsTrue (is_first_hand_fault end)))
      (λ hand later. HandsOn s.tells_files s.world.version (s.sees hand) (s.sees later) ⊥ ⊥)
      before after
  pub store : HasCause old.faults new.faults (IsTrue (is_store_fault end))
  pub later : old.epoch ≤ new.epoch
  pub opened : IsTrue (is_open end) → Rose old.epoch new.epoch
  pub opens : OpensBy path old new end

-- the scan came to an end, and it was said. The hands behind those that it is made with, two and one for each worker, are
-- as they were
pub record RunsScan {T : Type 0} (s : Setting T) (path : List ℕ) (workers : ℕ) (scope : Scope)
    (before after : CommandStage T) (status : Status) : Type 0 where
  pub end : ScanEnd
  pub scans : Scans s path scope before.hands after.hands before.store after.store end
  pub others : drop (workers + 2) after.hands ≡ drop (workers + 2) before.hands
  pub said : SaysEnd end before.streams after.streams status
