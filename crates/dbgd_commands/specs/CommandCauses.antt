-- When a status of a command that ends by itself comes (this project's rule): what each says.
use Rattle.std.specs.Prelude.{◌≡◌, ◌⊎◌, ℕ, ◌+◌, ◌≤◌, ◌<◌, Bool, true, List, ◌++◌, length, None, Contains, IsTrue}
use Rattle.path_scope.specs.Scope.{Scope, is_in_scope}
use Rattle.row_types.specs.Faults.{Rose}
use Rattle.row_types.specs.Name.{NameFacts, stamp_at}
use Rattle.row_types.specs.Row.{RowFacts}
use Rattle.scan_queue.specs.declared.miss.Cause.{Cause}
use Rattle.scan_queue.specs.declared.miss.Cause.TheVariants.{ReadFault, Altered as WasAltered, Appeared}
use Rattle.index_rows.specs.declared.rows.TheConstants.{LOG_LIMIT}
use Rattle.index_rows.specs.Rows.{row_names}
use Rattle.index_state.specs.Opening.{AreRows, IsOverfull, current}
use Rattle.index_state.specs.Plan.{most_changes, plan_of}
use Rattle.tree_trait.specs.Heard.{Heard, stat, with_answers}
use Rattle.tree_trait.specs.Listens.{ListsAnswers}
use Rattle.tree_trait.specs.Shown.{ShownTree}
use Rattle.tree_trait.specs.Stat.{IsNothingAt}
use Rattle.tree_trait.specs.declared.stat.StatAnswer.TheVariants.{File}
use Rattle.tree_walk.specs.Ends.{IsRootGone, AreFilesTooMany, IsTooManyEntries, IsWholeWalk}
use Rattle.tree_walk.specs.Files.{AreFilesUnder, HasManyEntries, HasManyFiles}
use Rattle.tree_walk.specs.declared.walked.Walk.{Walk}
use Rattle.http_wire.specs.Sink.{GetsAll}
use Rattle.pass_runner.specs.Owned.{LoadsBeside, TellsStill}
use Rattle.pass_runner.specs.Settled.{IsHeardAltered}
use Rattle.pass_runner.specs.declared.pass_end.PassEnd.TheVariants as pass
use Rattle.pass_runner.specs.declared.summary.Summary.{Summary}
use Rattle.dbgd_commands.specs.Opened.{EndsOnlyWith, HasBad, HasSomeBad, StoreOpensOn}
use Rattle.dbgd_commands.specs.Scan.{EndsPassed}
use Rattle.dbgd_commands.specs.Stage.{CommandStage, FirstRose, OfFirst, Setting}
use Rattle.dbgd_commands.specs.Texts.{summary_line}
use Rattle.dbgd_commands.specs.Trial.{AreForgedRows, trial_end_line}
use Rattle.dbgd_commands.specs.declared.status.Status.{Status}
use Rattle.dbgd_commands.specs.declared.status.Status.TheVariants.{Done, Fault, Absent, Altered}
use Rattle.dbgd_commands.specs.declared.status.Status.TheVariants.{Limit, OutOfMemory, BadRow}

-- the first hand's count of faults rose, or that of the standard output
abbrev pub HandOrOutRose : {T : Type 0} → Setting T → CommandStage T → CommandStage T → Type 0
HandOrOutRose s before after =
    FirstRose s before.hands after.hands
    ⊎ Rose before.streams.out.write_faults after.streams.out.write_faults

-- of a command on one file: no file is altered or meets a limit, and no value is no row
abbrev pub FileStatus : {T : Type 0} → Setting T → CommandStage T → CommandStage T → Status → Type 0
FileStatus s before after Done = Unit {0}
FileStatus s before after Fault = HandOrOutRose s before after
FileStatus s before after Absent = Unit {0}
FileStatus s before after OutOfMemory = Unit {0}
FileStatus s before after _ = ⊥

-- the scan was whole, and the standard output got exactly its line
pub record IsScanned {T : Type 0} (s : Setting T) (scope : Scope)
    (before after : CommandStage T) : Type 0 where
  pub summary : Summary
  pub ends :
      EndsPassed s scope before.hands after.hands before.store after.store (pass.Whole summary)
  pub loads : LoadsBeside s.sees before.hands after.hands (pass.Whole summary)
  pub line : GetsAll (summary_line summary) before.streams.out after.streams.out

-- nothing is at some root
pub record HasRootGone (present : List NameFacts) (scope : Scope) : Type 0 where
  pub path : List ℕ
  pub root : Contains scope.roots path
  pub nothing : IsNothingAt present path

-- the hand heard that nothing is at a root; where the files never change, nothing is
pub record HeardGone (told : Bool) (scope : Scope) (before after : ShownTree) : Type 0 where
  pub answers : List Heard
  pub path : List ℕ
  pub heard : after.heard ≡ with_answers before.heard answers
  pub gone : IsRootGone answers scope path
  pub still : TellsStill told before → HasRootGone before.present scope

-- a look found a file of the scope whose path isn't listed
pub record IsPathThere (scope : Scope) (listing : List NameFacts) (answers : List Heard) (name : NameFacts) : Type 0 where
  pub inside : is_in_scope scope name.path ≡ true
  pub unlisted : stamp_at listing name.path ≡ None
  pub heard : Contains answers (stat name.path (File name.stamp))

-- by what a file was found to be another: a listed one was, or one of the scope stands whose path isn't listed
abbrev pub IsHeardOther : Scope → List NameFacts → List Heard → NameFacts → Cause → Type 0
IsHeardOther scope listing answers name ReadFault = ⊥
IsHeardOther scope listing answers name (WasAltered met) = IsHeardAltered listing answers name met
IsHeardOther scope listing answers name Appeared = IsPathThere scope listing answers name

-- the hand heard a whole walk, and behind it that a listed file is another by now, or that a file of the scope stands whose path
-- isn't listed; files that never change are neither
pub record HeardOtherFile (told : Bool) (scope : Scope) (before after : ShownTree) : Type 0 where
  pub walk : Walk
  pub walked : List Heard
  pub more : List Heard
  pub heard : ListsAnswers before.heard (walked ++ more) after.heard
  pub whole : IsWholeWalk walked scope walk
  pub name : NameFacts
  pub cause : Cause
  pub why : IsHeardOther scope walk.listing more name cause
  pub still : ¬ TellsStill told before

-- the hand heard of more files than a listing has, or of more entries than a walk reads; files that never change are so
-- many
pub record HeardMany (told : Bool) (scope : Scope) (before after : ShownTree) : Type 0 where
  pub answers : List Heard
  pub heard : after.heard ≡ with_answers before.heard answers
  pub many : AreFilesTooMany answers scope ⊎ IsTooManyEntries answers scope
  pub still :
      TellsStill told before
      → HasManyFiles before.present scope ⊎ HasManyEntries before.present scope

-- a limit was met: of what was heard, of the rows that the store held, or of the changes of the log
pub data MeetsLimit {T : Type 0} (s : Setting T) (scope : Scope)
    (before after : CommandStage T) : Type 0 where
  of_walk : OfFirst s (HeardMany s.tells_files scope) before.hands after.hands
      → MeetsLimit s scope before after
  of_rows : StoreOpensOn s.tells_tables before.store after.store IsOverfull
      → MeetsLimit s scope before after
  of_changes : EndsPassed s scope before.hands after.hands before.store after.store pass.LogFull
      → MeetsLimit s scope before after

-- of a scan: the words were read
abbrev pub ScanStatus : {T : Type 0} → Setting T → Scope → CommandStage T → CommandStage T → Status → Type 0
ScanStatus s scope before after Done = IsScanned s scope before after
ScanStatus s scope before after Fault =
    Rose before.store.faults after.store.faults ⊎ HandOrOutRose s before after
ScanStatus s scope before after Absent =
    OfFirst s (HeardGone s.tells_files scope) before.hands after.hands
ScanStatus s scope before after Altered =
    OfFirst s (HeardOtherFile s.tells_files scope) before.hands after.hands
ScanStatus s scope before after Limit = MeetsLimit s scope before after
ScanStatus s scope before after OutOfMemory = Unit {0}
ScanStatus s scope before after BadRow = StoreOpensOn s.tells_tables before.store after.store HasBad
ScanStatus s scope before after _ = ⊥

-- the standard output got the line of rows of exactly the generated files
pub record HasTold {T : Type 0} (seed files : ℕ) (before after : CommandStage T) : Type 0 where
  pub rows : List RowFacts
  pub rows_are : AreForgedRows seed files rows
  pub line : GetsAll (trial_end_line files rows) before.streams.out after.streams.out

-- of a trial: only the standard output can fail
abbrev pub TrialStatus : {T : Type 0} → ℕ → ℕ → CommandStage T → CommandStage T → Status → Type 0
TrialStatus seed files before after Done = HasTold seed files before after
TrialStatus seed files before after Fault =
    Rose before.streams.out.write_faults after.streams.out.write_faults
TrialStatus seed files before after OutOfMemory = Unit {0}
TrialStatus seed files before after _ = ⊥

-- nothing stands against a walk and what follows it: the hand tells files that never change, something is at each root,
-- there is not too much, and the hand's count didn't rise
pub record IsFreeHand (told : Bool) (scope : Scope) (before after : ShownTree) : Type 0 where
  pub still : TellsStill told before
  pub there : ¬ HasRootGone before.present scope
  pub files : ¬ HasManyFiles before.present scope
  pub entries : ¬ HasManyEntries before.present scope
  pub faultless : ¬ Rose before.faults after.faults

-- nothing stands against a scan: so it is of the first hand, the store tells that each of its values is a row, not too
-- many of them of the edition, the rows of the edition and the changes that the plan of the files under the folders allows
-- against them are fewer than a log may have, and neither the store's count nor that of the standard output rose
pub record IsUnhindered {T : Type 0} (s : Setting T) (scope : Scope)
    (before after : CommandStage T) : Type 0 where
  pub hand : OfFirst s (IsFreeHand s.tells_files scope) before.hands after.hands
  pub tells : IsTrue s.tells_tables
  pub rows : List RowFacts
  pub held : AreRows rows before.store.tables
  pub few : length (current rows) ≤ LOG_LIMIT
  pub room : (listing : List NameFacts)
      → OfFirst s (λ hand later. AreFilesUnder hand.present scope listing) before.hands after.hands
      → length (current rows) + most_changes (plan_of listing (row_names (current rows))) < LOG_LIMIT
  pub store : ¬ Rose before.store.faults after.store.faults
  pub out : ¬ Rose before.streams.out.write_faults after.streams.out.write_faults

-- what a scan that nothing stands against ends with: it is done, or memory was refused
abbrev pub IsComplete : Status → Type 0
IsComplete Done = Unit {0}
IsComplete OutOfMemory = Unit {0}
IsComplete _ = ⊥

-- how a scan ends when: a store that tells a value which isn't a row ends it with the status for that, one that tells
-- too many rows of the edition with that of a limit, and one that nothing stands against is done
pub record ScanEnds {T : Type 0} (s : Setting T) (scope : Scope) (before after : CommandStage T)
    (status : Status) : Type 0 where
  pub bad :
      IsTrue s.tells_tables → HasSomeBad before.store.tables
      → EndsOnlyWith BadRow before.store after.store status
  pub overfull :
      IsTrue s.tells_tables → IsOverfull before.store.tables
      → EndsOnlyWith Limit before.store after.store status
  pub complete : IsUnhindered s scope before after → IsComplete status
