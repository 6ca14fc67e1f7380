-- What becomes of a name that was handed out (this crate's bookkeeping, which no public clause cites).
use Rattle.std.specs.Prelude.{◌≡◌, ℕ, ◌+◌, ◌≤◌, Bool, true, false, List, [], ◌∷◌, All, Contains, Option, Some, None}
use Rattle.row_types.specs.Faults.{HasCause, Rose}
use Rattle.row_types.specs.Name.{NameFacts}
use Rattle.row_types.specs.Row.{RowFacts}
use Rattle.index_keeper.specs.Keeper.{ShownKeeper}
use Rattle.index_state.specs.State.{StateFacts, pass_or_none}
use Rattle.index_state.specs.Step.{Breaks, FindsNoMemory, IsShut, Judges, StateStays, Stores}
use Rattle.index_state.specs.declared.answer.Judged.{Judged}
use Rattle.index_state.specs.declared.answer.Judged.TheVariants.{Broken as JudgedBroken, LogFull as JudgedFull, KeeperFault as JudgedFault, OutOfMemory as JudgedNoMemory}
use Rattle.scan_queue.specs.declared.miss.Seen.{Seen}
use Rattle.index_desk.specs.declared.work_end.WorkEnd.{WorkEnd}
use Rattle.index_desk.specs.declared.work_end.WorkEnd.TheVariants.{Broken, KeeperFault, LogFull, OutOfMemory}
use Rattle.tree_trait.specs.Found.{Versions}
use Rattle.tree_trait.specs.Heard.{Heard, stat}
use Rattle.tree_trait.specs.Listens.{Listens}
use Rattle.tree_trait.specs.Shown.{ShownTree}
use Rattle.tree_trait.specs.declared.stat.StatAnswer.{StatAnswer}
use Rattle.pass_runner.specs.Ends.{TurnsBy}
use Rattle.pass_runner.specs.Settled.{AppearedStand, NoneAppeared, Proceeds, times_loaded, times_named}
use Rattle.groomer.specs.Looks.{looked_of}
use Rattle.groomer.specs.declared.looking.Looked.{Looked}
use Rattle.groomer.specs.declared.looking.Looked.TheVariants as looked

-- a name that is read doesn't appear; one that is looked for appears only where its row stands
abbrev pub AppearsBy : {K : Type 0} → List NameFacts → StateFacts K → StateFacts K → Type 0
AppearsBy [] old new = AppearedStand old → AppearedStand new
AppearsBy (name ∷ reads) old new = NoneAppeared old → NoneAppeared new

-- what became of a name that was handed out, and how the settling goes on; no more was loaded than these names, each once
pub record TurnsOver {K : Type 0} (told : Bool) (version : Versions) (shows : K → ShownKeeper) (reads : List NameFacts)
    (name : NameFacts) (before after : ShownTree) (old new : StateFacts K) (end : Option WorkEnd) : Type 0 where
  pub settles : Proceeds told version shows before after old new
  pub loads : (path : List ℕ) → times_loaded settles.answers path ≤ times_named reads path
  pub ends : TurnsBy name old new end
  pub appears : AppearsBy reads old new
  pub keeper : HasCause (shows old.keeper).faults (shows new.keeper).faults (end ≡ Some KeeperFault)

-- the settling went on, and each load took a name that was to be read
pub record TakesNames {K : Type 0} (told : Bool) (version : Versions) (shows : K → ShownKeeper) (before after : ShownTree)
    (old new : StateFacts K) : Type 0 where
  pub does : Proceeds told version shows before after old new
  pub takes : (path : List ℕ)
      → times_loaded does.answers path + times_named (pass_or_none new.pass).todo path ≤ times_named (pass_or_none old.pass).todo path

-- the settling goes on from the start: the index isn't broken, and where no name was out, none is
pub record GoesFromStart {K : Type 0} (told : Bool) (version : Versions) (shows : K → ShownKeeper) (before after : ShownTree)
    (start now : StateFacts K) : Type 0 where
  pub settles : TakesNames told version shows before after start now
  pub sound : now.broken ≡ false
  pub out : (pass_or_none start.pass).out ≡ [] → (pass_or_none now.pass).out ≡ []

-- what comes of a row that is awaited
abbrev pub PublishesNew : {K : Type 0} → Bool → (K → ShownKeeper) → RowFacts → StateFacts K → StateFacts K
    → Option WorkEnd → Type 0
PublishesNew tells shows row old new None = Stores tells shows row old new
PublishesNew tells shows row old new (Some KeeperFault) = Breaks tells shows row old new
PublishesNew tells shows row old new (Some LogFull) = StateStays (IsShut row.name old) old new
PublishesNew tells shows row old new (Some OutOfMemory) = FindsNoMemory tells shows row old new
PublishesNew tells shows row old new (Some _) = ⊥

-- how the settling goes on after a judgement
abbrev pub after_judged : Judged → Option WorkEnd
after_judged JudgedFault = Some KeeperFault
after_judged JudgedFull = Some LogFull
after_judged JudgedNoMemory = Some OutOfMemory
after_judged JudgedBroken = Some Broken
after_judged _ = None

-- what comes of a judgement
pub record JudgesLeft {K : Type 0} (tells : Bool) (shows : K → ShownKeeper) (name : NameFacts) (met : Seen)
    (old new : StateFacts K) (end : Option WorkEnd) : Type 0 where
  pub answer : Judged
  pub judged : Judges tells shows name met old answer new
  pub ends : end ≡ after_judged answer

-- a look at the path of the name that was heard saw this
pub record HasSeenFile (answers : List Heard) (name : NameFacts) (met : Seen) : Type 0 where
  pub answer : StatAnswer
  pub heard : Contains answers (stat name.path answer)
  pub saw : looked_of answer ≡ looked.Saw met

-- what a look leads to; at a path that isn't marked none was made
abbrev pub LooksTo : Bool → List Heard → NameFacts → Type 0 → Looked → Type 0
LooksTo marked answers name Failed (looked.Saw met) = marked ≡ true → HasSeenFile answers name met
LooksTo marked answers name Failed looked.Failed = Failed
LooksTo marked answers name Failed looked.OutOfMemory = Unit {0}

-- a look at a path that may be looked at
abbrev pub IsLookAmong : (List ℕ → Bool) → Heard → Type 0
IsLookAmong looks (stat path answer) = looks path ≡ true
IsLookAmong looks _ = ⊥

-- the file of a row was looked for, where its path may be looked at
pub record LooksForFile (told : Bool) (version : Versions) (looks : List ℕ → Bool) (name : NameFacts)
    (before after : ShownTree) (end : Looked) : Type 0 where
  pub answers : List Heard
  pub listens : Listens told version before after answers
  pub asked : All (IsLookAmong looks) answers
  pub leads : LooksTo (looks name.path) answers name (Rose before.faults after.faults) end
