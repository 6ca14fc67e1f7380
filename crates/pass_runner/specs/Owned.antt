-- The pass over an index that is owned (this project's rule): the roots are walked, a pass over the walk listing begins,
-- the other hands help with it over a lock, and what is left is settled by the first hand. Whole: the index is one scan of
-- the walk listing, and the numbers are those of its plan against the rows that the index brought. What a hand that helps
-- may ask is said of each.
use Rattle.std.specs.Prelude.{◌≡◌, ◌⊎◌, ℕ, ◌+◌, ◌≤◌, Bool, true, false, List, ◌∷◌, ◌++◌, All, length, drop}
use Rattle.std.specs.Prelude.{Option, Some, None, IsSome, IsTrue, Ok, Err}
use mathlib.Core.List.{IsPrefix}
use Rattle.std.specs.List.{AllZip, filter, sum_by}
use Rattle.row_types.specs.Faults.{Rose}
use Rattle.row_types.specs.Ascends.{IsBefore}
use Rattle.row_types.specs.Name.{NameFacts, stamp_at}
use Rattle.row_types.specs.Rules.{Rules}
use Rattle.path_scope.specs.Scope.{Scope, is_in_scope}
use Rattle.index_keeper.specs.Keeper.{ShownKeeper}
use Rattle.index_rows.specs.Rows.{row_names}
use Rattle.index_state.specs.Complete.{CompletePass}
use Rattle.index_state.specs.Bound.{IsWithinPlan, StaysBounded, still_open}
use Rattle.index_state.specs.Marks.{marked_in}
use Rattle.index_state.specs.Plan.{most_changes, plan_of}
use Rattle.index_state.specs.declared.answer.Plan.{Plan}
use Rattle.index_state.specs.State.{StateFacts, pass_or_none, unspared}
use Rattle.scan_queue.specs.Names.{is_in}
use Rattle.scan_queue.specs.Pass.{IsWhole, PassFacts, first_missed}
use Rattle.scan_queue.specs.declared.miss.Cause.{Cause}
use Rattle.scan_queue.specs.declared.miss.Cause.TheVariants.{Appeared, ReadFault}
use Rattle.scan_queue.specs.declared.miss.Miss.{Miss}
use Rattle.scan_queue.specs.declared.miss.Seen.{Seen}
use Rattle.tree_trait.specs.Asks.{FitsAny, IsAnswerTold}
use Rattle.tree_trait.specs.Found.{Versions}
use Rattle.tree_trait.specs.Heard.{Heard}
use Rattle.tree_trait.specs.Listens.{Listens, ListsAnswers, loads}
use Rattle.tree_trait.specs.Shown.{ShownTree}
use Rattle.tree_walk.specs.Ends.{IsWholeWalk, WalksTree}
use Rattle.tree_walk.specs.Files.{AreFilesUnder, FitsFault}
use Rattle.tree_walk.specs.Walked.{AsksAll, IsWalkListing}
use Rattle.tree_walk.specs.declared.fault.WalkFault.{WalkFault}
use Rattle.tree_walk.specs.declared.fault.WalkFault.TheVariants as stop
use Rattle.tree_walk.specs.declared.walked.Walk.{Walk}
use Rattle.pass_runner.specs.Ends.{IsOutOfRoom}
use Rattle.pass_runner.specs.Helped.{IsSparing, ReadsPartsOrLooks}
use Rattle.pass_runner.specs.Numbers.{summary_of}
use Rattle.pass_runner.specs.Settled.{AreReadingsAndLooks, IsBacked, IsHeardAltered, KeepsListed, MayBeAsked, MovesRows, times_loaded}
use Rattle.pass_runner.specs.declared.pass_end.PassEnd.{PassEnd}
use Rattle.pass_runner.specs.declared.pass_end.PassEnd.TheVariants.{Whole, Missed, Walk as Unwalked, Broken}
use Rattle.pass_runner.specs.declared.pass_end.PassEnd.TheVariants.{KeeperFault, LogFull, OutOfMemory}
use Rattle.pass_runner.specs.declared.summary.Summary.{Summary}

-- the hand tells the files that are there, and they never change
abbrev pub TellsStill : Bool → ShownTree → Type 0
TellsStill told hand = IsTrue told × hand.Still

-- what the first hand heard: a whole walk of the roots, and then more. All of it is full, and leads to the listing. Where
-- the hand tells files that never change, these are the answers that it tells of them, and the listing is the selected
-- files under the roots
pub record HearsWalked (told : Bool) (version : Versions) (scope : Scope) (walk : Walk) (walked more : List Heard)
    (before after : ShownTree) : Type 0 where
  pub heard : ListsAnswers before.heard (walked ++ more) after.heard
  pub whole : IsWholeWalk walked scope walk
  pub full : AsksAll (walked ++ more) scope
  pub listing : IsWalkListing (walked ++ more) scope walk.listing
  pub fits : All (FitsAny version) more
  pub tells : TellsStill told before → All (IsAnswerTold before.present) (walked ++ more)
  pub under : TellsStill told before → AreFilesUnder before.present scope walk.listing

-- and behind the walk nothing but openings and reads of listed files whose names had no row, of each file its parts alone, and
-- looks at paths in the scope; no path was opened twice
pub record HearsPass (told : Bool) (version : Versions) (scope : Scope) (names : List NameFacts) (walk : Walk)
    (walked more : List Heard) (before after : ShownTree) : Type 0 where
  pub walks : HearsWalked told version scope walk walked more before after
  pub wanted : All (MayBeAsked walk.listing (is_in_scope scope) names) more
  pub parts : AreReadingsAndLooks (is_in_scope scope) more
  pub once : (path : List ℕ) → times_loaded more path ≤ 1

-- what the pass left of the index, however it ended: a pass over the listing is open, with the marks of the scope; the rows
-- went and came as in a pass; a name is missed only for a reason; no name is skipped, and else the origin is as it was; and
-- the log did not grow more than what is open became less, but for a void change
pub record LeavesIndex {K : Type 0} (scope : Scope) (listing : List NameFacts) (more : List Heard)
    (Failed : Type 0) (old new : StateFacts K) : Type 0 where
  pub pass : PassFacts
  pub is_open : new.pass ≡ Some pass
  pub over : pass.listing ≡ listing
  pub marked : pass.marked ≡ marked_in scope listing (row_names old.rows)
  pub origin : new.origin ≡ unspared old.origin
  pub bounded : StaysBounded listing old new
  pub moves : MovesRows listing (is_in_scope scope) more old.rows new.rows
  pub missed : All (λ miss. IsBacked listing (row_names old.rows) more Failed miss.name miss.cause) pass.missed

-- what the other hands left of an index over which a pass had begun: its log goes on from the one before, no row of a listed name
-- went, and but for the names that were skipped it has the same origin; the log did not grow more than what is open became less,
-- but for a void change, and what was open is no more than what the plan allows; where there is one hand alone, nothing happened.
-- It is said by the log and the rows: a function that holds the lock several times can't say what it did to the value in each of
-- them
pub record IsHelped {K : Type 0} (hands : ℕ) (listing : List NameFacts) (old found : StateFacts K) : Type 0 where
  pub log : IsPrefix old.log found.log
  pub stays : KeepsListed listing old.rows found.rows
  pub origin : unspared found.origin ≡ unspared old.origin
  pub allowed : still_open listing (row_names old.rows) ≤ most_changes (plan_of listing (row_names old.rows))
  pub bounded : StaysBounded listing old found
  pub alone : hands ≤ 1 → found ≡ old

-- the roots were walked, a pass over what was listed began, the other hands helped, the first one settled what was left,
-- and this came of it; the log grew by no more than its plan allows, but for a void change
pub record RunsPass {K : Type 0} (world : Rules) (told : Bool) (hands : ℕ) (scope : Scope)
    (listing : List NameFacts) (before after : ShownTree) (old new : StateFacts K)
    (Ends : StateFacts K → List Heard → Type 0) : Type 0 where
  pub walk : Walk
  pub over : walk.listing ≡ listing
  pub walked : List Heard
  pub more : List Heard
  pub found : StateFacts K
  pub helped : IsHelped hands listing old found
  pub hears : HearsPass told world.version scope (row_names found.rows) walk walked more before after
  pub leaves : LeavesIndex scope listing more (Rose before.faults after.faults) found new
  pub bounded : IsWithinPlan listing old new
  pub ends : Ends found more

-- the walk ended with a fault, which files that never change explain; nothing was opened
pub record WalksInto (told : Bool) (scope : Scope) (fault : WalkFault) (before after : ShownTree) : Type 0 where
  pub walks : WalksTree told before after scope (Err fault)
  pub fits : TellsStill told before → FitsFault before.present scope fault

-- the roots could not be walked: the index stays as it is
pub record EndsUnwalked {K : Type 0} (told : Bool) (scope : Scope) (before after : ShownTree)
    (old new : StateFacts K) (fault : WalkFault) : Type 0 where
  pub stops : WalksInto told scope fault before after
  pub same : new ≡ old

-- the index is one scan of the listing: the rows' names are the listed ones, in a told world the rows are its scan, and a
-- keeper that tells has their tables; the numbers are those of the plan
pub record IsWholePass {K : Type 0} (world : Rules) (tells : Bool) (shows : K → ShownKeeper) (plan : Plan)
    (summary : Summary) (new : StateFacts K) (listing : List NameFacts) : Type 0 where
  pub complete : CompletePass world.told world.true_row tells shows listing new
  pub whole : IsWhole (pass_or_none new.pass)
  pub sound : new.broken ≡ false
  pub numbers : summary ≡ summary_of plan new.rows

-- no listed file that was heard to be another stands before this name, by path. It is said of an index that is owned, and not of
-- one that is shared: there another token may settle such a file, or try it again, before the last hold
abbrev pub NoneAlteredBefore : List NameFacts → List Heard → NameFacts → Type 0
NoneAlteredBefore listing answers name =
    (other : NameFacts) (met : Seen) → IsHeardAltered listing answers other met → ¬ IsBefore other.path name.path

-- the miss that is told: a name was missed for a reason, where these names had rows; no listed file that was heard to be
-- another stands before it; the path of one that appeared isn't listed
pub record IsMissTold (miss : Miss) (Failed : Type 0) (listing names : List NameFacts) (more : List Heard) : Type 0 where
  pub why : IsBacked listing names more Failed miss.name miss.cause
  pub before : NoneAlteredBefore listing more miss.name
  pub apart : miss.cause ≡ Appeared → stamp_at listing miss.name.path ≡ None

-- a name was missed, and this was the first
pub record HasMissed {K : Type 0} (miss : Miss) (Failed : Type 0) (listing : List NameFacts) (new found : StateFacts K)
    (more : List Heard) : Type 0 where
  pub first : first_missed (pass_or_none new.pass).missed ≡ Some miss
  pub tells : IsMissTold miss Failed listing (row_names found.rows) more
  pub sound : new.broken ≡ false

-- the pass ended while, or as soon as, the other hands had helped: the first hand heard the walk alone, and the log grew by
-- no more than the plan allows, but for a void change
pub record EndsPassHelped {K : Type 0} (told : Bool) (hands : ℕ) (scope : Scope) (listing : List NameFacts)
    (before after : ShownTree) (old new : StateFacts K) (Ends : Type 0) : Type 0 where
  pub walk : Walk
  pub over : walk.listing ≡ listing
  pub walks : WalksTree told before after scope (Ok walk)
  pub helped : IsHelped hands listing old new
  pub bounded : IsWithinPlan listing old new
  pub ends : Ends

-- memory was refused before the pass began: nothing was opened, and the index stays as it is
pub record EndsPassEarly {K : Type 0} (told : Bool) (scope : Scope) (listing : List NameFacts)
    (before after : ShownTree) (old new : StateFacts K) : Type 0 where
  pub walk : Walk
  pub over : walk.listing ≡ listing
  pub walks : WalksTree told before after scope (Ok walk)
  pub same : new ≡ old

-- how the pass ended, and what it left
abbrev pub EndsPass : {K : Type 0} → Rules → Bool → Bool → (K → ShownKeeper) → ℕ → Scope → List NameFacts
    → ShownTree → ShownTree → StateFacts K → StateFacts K → PassEnd → Type 0
EndsPass world told tells shows hands scope listing before after old new (Whole summary) =
    RunsPass world told hands scope listing before after old new
    (λ found more. IsWholePass world tells shows (plan_of listing (row_names old.rows)) summary new listing)
EndsPass world told tells shows hands scope listing before after old new (Missed miss) =
    RunsPass world told hands scope listing before after old new
    (HasMissed miss (Rose before.faults after.faults) listing new)
EndsPass world told tells shows hands scope listing before after old new (Unwalked fault) =
    EndsUnwalked told scope before after old new fault
EndsPass world told tells shows hands scope listing before after old new Broken = ⊥
EndsPass world told tells shows hands scope listing before after old new KeeperFault =
    RunsPass world told hands scope listing before after old new (λ found more. new.broken ≡ true)
    ⊎ EndsPassHelped told hands scope listing before after old new (new.broken ≡ true)
EndsPass world told tells shows hands scope listing before after old new LogFull =
    RunsPass world told hands scope listing before after old new (λ found more. IsOutOfRoom new)
EndsPass world told tells shows hands scope listing before after old new OutOfMemory =
    EndsPassEarly told scope listing before after old new
    ⊎ (RunsPass world told hands scope listing before after old new (λ found more. new.broken ≡ false)
    ⊎ EndsPassHelped told hands scope listing before after old new (new.broken ≡ false))

-- whether a name was missed since its file could not be read
abbrev pub is_read_fault : Cause → Bool
is_read_fault ReadFault = true
is_read_fault _ = false

-- whether the end comes of a failed call of the hand
abbrev pub is_hand_fault : PassEnd → Bool
is_hand_fault (Unwalked stop.Failed) = true
is_hand_fault (Missed miss) = is_read_fault miss.cause
is_hand_fault _ = false

-- whether the roots could not be walked
abbrev pub is_unwalked : PassEnd → Bool
is_unwalked (Unwalked fault) = true
is_unwalked _ = false

-- whether no pass began: the roots could not be walked, or the index was broken already
abbrev pub is_unbegun : PassEnd → Bool
is_unbegun (Unwalked fault) = true
is_unbegun Broken = true
is_unbegun _ = false

-- how many loads and openings a hand that tells heard
abbrev pub loads_told : Option (List Heard) → ℕ
loads_told None = 0
loads_told (Some answers) = loads answers

-- a hand that helps heard nothing but openings and reads of parts, or looks, and none of a path of a listed name that had a row
pub record Helps (told : Bool) (version : Versions) (listing names : List NameFacts) (before after : ShownTree)
    : Type 0 where
  pub more : List Heard
  pub listens : Listens told version before after more
  pub spares : All (IsSparing (filter (is_in names) listing)) more
  pub parts : ReadsPartsOrLooks more

-- so many hands that tell what they hear heard so many openings more, or more still
abbrev pub HearLoads : {T : Type 0} → (T → ShownTree) → ℕ → List T → List T → Type 0
HearLoads sees count before after = All (λ hand. IsSome (sees hand).heard) after
    → sum_by (λ hand. loads_told (sees hand).heard) before + count ≤ sum_by (λ hand. loads_told (sees hand).heard) after

-- of a pass that came to be whole: the hands from the third on, if there are any, heard so many openings
abbrev pub LoadsBeside : {T : Type 0} → (T → ShownTree) → List T → List T → PassEnd → Type 0
LoadsBeside sees before after (Whole summary) =
    3 ≤ length before → HearLoads sees (summary.added + summary.replaced) (drop 2 before) (drop 2 after)
LoadsBeside sees before after _ = Unit {0}

-- the first hand went so, and each other one so
abbrev pub HandsGo : {T : Type 0} → (T → T → Type 0) → (T → T → Type 0) → List T → List T → Type 0
HandsGo First Other (hand ∷ hands) (later ∷ left) = First hand later × AllZip Other hands left
HandsGo First Other _ _ = ⊥
