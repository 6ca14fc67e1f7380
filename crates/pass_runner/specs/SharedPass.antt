-- The pass over an index that is shared (this project's rule), by what the hands heard and by the logs of the token that was
-- brought and of the one that came back. The first hand walks the roots; a pass over the walk listing begins; the other
-- hands help; the first one tries again what is left, and decides alone. Whole: the log that came back leaves the walk
-- listing, and the numbers are those of its plan against the rows of a log between the two.
use Rattle.std.specs.Prelude.{◌≡◌, ◌≢◌, ℕ, ◌+◌, ◌<◌, ◌≤◌, Bool, true, not, List, [], All, Contains, length, Some, None}
use mathlib.Core.List.{IsPrefix}
use Rattle.row_types.specs.Faults.{Rose}
use Rattle.row_types.specs.Name.{NameFacts, stamp_at}
use Rattle.row_types.specs.Row.{RowFacts}
use Rattle.row_types.specs.Rules.{Rules}
use Rattle.row_types.specs.declared.limits.TheConstants.{PATH_LIMIT}
use Rattle.path_scope.specs.Scope.{Scope, is_in_scope}
use Rattle.index_rows.specs.Log.{replay}
use Rattle.index_rows.specs.Rows.{row_names}
use Rattle.index_rows.specs.declared.change.Change.{Change}
use Rattle.index_rows.specs.declared.rows.TheConstants.{LOG_LIMIT}
use Rattle.index_state.specs.Changes.{EndsVoid}
use Rattle.index_state.specs.Complete.{IsScan}
use Rattle.index_state.specs.Plan.{plan_of}
use Rattle.scan_queue.specs.Names.{is_in}
use Rattle.scan_queue.specs.declared.miss.Cause.{Cause}
use Rattle.scan_queue.specs.declared.miss.Cause.TheVariants.{ReadFault, Altered, Appeared}
use Rattle.scan_queue.specs.declared.miss.Miss.{Miss}
use Rattle.scan_queue.specs.declared.miss.Seen.{Seen}
use Rattle.scan_worker.specs.Read.{FindsOther, heard_opening}
use Rattle.tree_trait.specs.Found.{Versions}
use Rattle.tree_trait.specs.Heard.{Heard, stat}
use Rattle.tree_trait.specs.Open.{OpenFacts}
use Rattle.tree_trait.specs.Shown.{ShownTree}
use Rattle.tree_trait.specs.Stat.{IsNothingAt}
use Rattle.tree_trait.specs.declared.stat.StatAnswer.TheVariants.{File}
use Rattle.tree_walk.specs.Files.{HasManyEntries, HasManyFiles}
use Rattle.tree_walk.specs.declared.fault.WalkFault.{WalkFault}
use Rattle.tree_walk.specs.declared.fault.WalkFault.TheVariants as stop
use Rattle.tree_walk.specs.declared.walked.Walk.{Walk}
use Rattle.pass_runner.specs.Numbers.{summary_of}
use Rattle.pass_runner.specs.Owned.{HearsWalked, TellsStill, WalksInto}
use Rattle.pass_runner.specs.Settled.{AreReadingsAndLooks}
use Rattle.pass_runner.specs.declared.pass_end.PassEnd.{PassEnd}
use Rattle.pass_runner.specs.declared.pass_end.PassEnd.TheVariants.{Whole, Missed, Walk as Unwalked, Broken}
use Rattle.pass_runner.specs.declared.pass_end.PassEnd.TheVariants.{KeeperFault, LogFull, OutOfMemory}
use Rattle.pass_runner.specs.declared.summary.Summary.{Summary}

-- what the first hand heard: a whole walk of the roots, and then nothing but openings, up to 64 GiB, reads of what was opened, of
-- each file its parts alone, and looks at paths in the scope
pub record HearsShared (told : Bool) (version : Versions) (scope : Scope) (walk : Walk) (walked more : List Heard)
    (before after : ShownTree) : Type 0 where
  pub walks : HearsWalked told version scope walk walked more before after
  pub asks : AreReadingsAndLooks (is_in_scope scope) more

-- the log is no shorter than the one that was brought, and no longer than the one that came back
pub record IsBetween (brought log at : List Change) : Type 0 where
  pub from : IsPrefix brought at
  pub into : IsPrefix at log

-- the rows of the index with that log: their names are the listing, they are true, and in a told world they are its scan
pub record AreRowsOf (world : Rules) (listing : List NameFacts) (rows : List RowFacts) : Type 0 where
  pub names : row_names rows ≡ listing
  pub holds : All world.true_row rows
  pub scan : world.told ≡ true → IsScan world.true_row listing rows

-- the log that came back leaves the listing and doesn't end in a void change; the numbers are those of the plan against the
-- names that a log between the two leaves, and of the rows that stand at the end; each listed name is counted once
pub record IsOneScan (world : Rules) (listing : List NameFacts) (brought log : List Change) (summary : Summary) : Type 0 where
  pub names : replay log ≡ listing
  pub sound : ¬ EndsVoid log
  pub at : List Change
  pub between : IsBetween brought log at
  pub rows : List RowFacts
  pub stand : AreRowsOf world listing rows
  pub numbers : summary ≡ summary_of (plan_of listing (replay at)) rows
  pub files : summary.files ≡ length listing
  pub parts : summary.added + summary.replaced + summary.kept ≡ summary.files

-- an opening found this in place of the name's file
pub record HeardInPlace (answers : List Heard) (name : NameFacts) (met : Seen) : Type 0 where
  pub answer : OpenFacts
  pub heard : Contains answers (heard_opening name answer)
  pub other : FindsOther name answer met

-- a look found the name's own file, while a row of the name stood
pub record HeardThere (brought log : List Change) (answers : List Heard) (name : NameFacts) : Type 0 where
  pub heard : Contains answers (stat name.path (File name.stamp))
  pub at : List Change
  pub between : IsBetween brought log at
  pub row : is_in (replay at) name ≡ true

-- by what a hand missed the name itself: its count of faults rose, or it heard this
abbrev pub IsMetByHand : List Change → List Change → List Heard → Type 0 → NameFacts → Cause → Type 0
IsMetByHand brought log answers Failed name ReadFault = Failed
IsMetByHand brought log answers Failed name (Altered met) = HeardInPlace answers name met
IsMetByHand brought log answers Failed name Appeared = HeardThere brought log answers name

-- the path isn't listed, is in the scope, and is no longer than a path that is kept
pub record IsStray (listing : List NameFacts) (scope : Scope) (path : List ℕ) : Type 0 where
  pub short : length path ≤ PATH_LIMIT
  pub unlisted : stamp_at listing path ≡ None
  pub inside : is_in_scope scope path ≡ true

-- a name that was missed by another file is listed, with its stamp; one that appeared is in the scope and isn't
abbrev pub IsOfPass : List NameFacts → Scope → NameFacts → Cause → Type 0
IsOfPass listing scope name ReadFault = Unit {0}
IsOfPass listing scope name (Altered met) = stamp_at listing name.path ≡ Some name.stamp
IsOfPass listing scope name Appeared = IsStray listing scope name.path

-- the name is still open by the log: it is listed and has no row, or has a row and isn't listed
abbrev pub StillStands : List NameFacts → List Change → NameFacts → Type 0
StillStands listing log name = is_in (replay log) name ≡ not (is_in listing name)

-- the first hand missed the name itself, by this cause; it is still open by the log that came back, which doesn't end in a
-- void change
pub record IsOwnMiss (listing : List NameFacts) (scope : Scope) (brought log : List Change) (answers : List Heard)
    (Failed : Type 0) (miss : Miss) : Type 0 where
  pub why : IsMetByHand brought log answers Failed miss.name miss.cause
  pub of_pass : IsOfPass listing scope miss.name miss.cause
  pub stands : StillStands listing log miss.name
  pub sound : ¬ EndsVoid log

-- the log that came back ends in a void change, which the one that was brought didn't have
pub record BreaksSince (brought log : List Change) : Type 0 where
  pub void : EndsVoid log
  pub since : length brought < length log

-- the index was broken as the pass would begin: the log that came back ends in a void change, and nothing was heard behind
-- the walk
pub record IsBrokenAtOnce (log : List Change) (answers : List Heard) : Type 0 where
  pub void : EndsVoid log
  pub none : answers ≡ []

-- the log that came back has its limit, doesn't leave the listing, and doesn't end in a void change
pub record HasNoRoom (listing : List NameFacts) (log : List Change) : Type 0 where
  pub full : length log ≡ LOG_LIMIT
  pub apart : replay log ≢ listing
  pub sound : ¬ EndsVoid log

-- how a pass over a listing ends
abbrev pub EndsListed : Rules → List NameFacts → Scope → List Change → List Change → List Heard → Type 0 → PassEnd
    → Type 0
EndsListed world listing scope brought log answers Failed (Whole summary) = IsOneScan world listing brought log summary
EndsListed world listing scope brought log answers Failed (Missed miss) =
    IsOwnMiss listing scope brought log answers Failed miss
EndsListed world listing scope brought log answers Failed (Unwalked fault) = ⊥
EndsListed world listing scope brought log answers Failed Broken = IsBrokenAtOnce log answers
EndsListed world listing scope brought log answers Failed KeeperFault = BreaksSince brought log
EndsListed world listing scope brought log answers Failed LogFull = HasNoRoom listing log
EndsListed world listing scope brought log answers Failed OutOfMemory = Unit {0}

-- the roots were walked, and the pass over what was listed ended so
pub record RunsShared (world : Rules) (told : Bool) (scope : Scope) (brought log : List Change)
    (before after : ShownTree) (end : PassEnd) : Type 0 where
  pub walk : Walk
  pub walked : List Heard
  pub more : List Heard
  pub hears : HearsShared told world.version scope walk walked more before after
  pub ends : EndsListed world walk.listing scope brought log more (Rose before.faults after.faults) end

-- the roots could not be walked: the token saw nothing new
pub record StopsShared (told : Bool) (scope : Scope) (brought log : List Change) (before after : ShownTree)
    (fault : WalkFault) : Type 0 where
  pub stops : WalksInto told scope fault before after
  pub same : log ≡ brought

-- how a pass over a shared index ends
abbrev pub EndsShared : Rules → Bool → Scope → List Change → List Change → ShownTree → ShownTree → PassEnd → Type 0
EndsShared world told scope brought log before after (Unwalked fault) =
    StopsShared told scope brought log before after fault
EndsShared world told scope brought log before after end = RunsShared world told scope brought log before after end

-- nothing stands against the pass: its first hand tells files that never change, and its count didn't rise; something is at
-- each root; there is not too much; and the log that came back has room
pub record IsUnhinderedPass (told : Bool) (scope : Scope) (log : List Change) (before after : ShownTree)
    : Type 0 where
  pub still : TellsStill told before
  pub faultless : ¬ Rose before.faults after.faults
  pub there : (path : List ℕ) → Contains scope.roots path → ¬ IsNothingAt before.present path
  pub files : ¬ HasManyFiles before.present scope
  pub entries : ¬ HasManyEntries before.present scope
  pub room : length log < LOG_LIMIT

-- the pass is whole, or the log that came back ends in a void change, or memory was refused
abbrev pub IsDoneShared : List Change → PassEnd → Type 0
IsDoneShared log (Whole summary) = Unit {0}
IsDoneShared log OutOfMemory = Unit {0}
IsDoneShared log (Unwalked stop.OutOfMemory) = Unit {0}
IsDoneShared log _ = EndsVoid log
