-- What the hand that leads a pass does over a shared index (this crate's bookkeeping, which no public clause cites).
use Rattle.std.specs.Prelude.{◌≡◌, ◌⊎◌, ◌+◌, ◌==◌, ◌&&◌, Bool, true, false, not, List, [], ◌∷◌, ◌++◌, All, Contains, length, Option, Some}
use Rattle.row_types.specs.Faults.{Rose}
use Rattle.row_types.specs.Name.{NameFacts, stamp_at}
use Rattle.row_types.specs.Row.{RowFacts}
use Rattle.row_types.specs.Rules.{Rules}
use Rattle.index_lock.specs.Tokens.{IsLater, SeatFacts}
use Rattle.path_scope.specs.Scope.{Scope, is_in_scope}
use Rattle.index_rows.specs.Log.{replay}
use Rattle.index_keeper.specs.Keeper.{ShownKeeper}
use Rattle.index_rows.specs.declared.change.Change.{Change}
use Rattle.index_rows.specs.declared.rows.TheConstants.{LOG_LIMIT}
use Rattle.index_state.specs.Changes.{EachChanges, EndsVoid}
use Rattle.index_state.specs.Plan.{has_stamp, plan_of}
use Rattle.index_state.specs.Complete.{CompletePass, standing_of}
use Rattle.index_state.specs.State.{Origin, StateFacts, pass_or_none}
use Rattle.index_state.specs.Step.{BeginsPass, StateStays}
use Rattle.index_state.specs.declared.answer.Begun.{Begun}
use Rattle.index_state.specs.declared.answer.Begun.TheVariants as begun
use Rattle.index_state.specs.declared.answer.Plan.{Plan}
use Rattle.index_state.specs.declared.answer.Standing.{Standing}
use Rattle.scan_queue.specs.Names.{is_in}
use Rattle.scan_queue.specs.declared.miss.Cause.TheVariants.{Appeared}
use Rattle.scan_queue.specs.declared.miss.Miss.{Miss}
use Rattle.scan_queue.specs.declared.miss.Seen.{Seen}
use Rattle.index_state.specs.Judge.{is_file}
use Rattle.tree_trait.specs.Found.{Versions}
use Rattle.tree_trait.specs.Heard.{Heard}
use Rattle.tree_trait.specs.Listens.{Listens}
use Rattle.tree_trait.specs.Shown.{ShownTree}
use Rattle.pass_runner.specs.Numbers.{summary_of}
use Rattle.pass_runner.specs.Settled.{AreReadingsAndLooks}
use Rattle.pass_runner.specs.SharedPass.{AreRowsOf, EndsListed, HasNoRoom, IsMetByHand, IsOfPass, IsOwnMiss, StillStands}
use Rattle.pass_runner.specs.declared.pass_end.PassEnd.{PassEnd}
use Rattle.pass_runner.specs.declared.pass_end.PassEnd.TheVariants.{Whole, Missed, Walk as Unwalked, Broken}
use Rattle.pass_runner.specs.declared.pass_end.PassEnd.TheVariants.{KeeperFault, LogFull, OutOfMemory}
use Rattle.pass_runner.specs.declared.summary.Summary.{Summary}

-- the miss was noted before, or this is why the hand met it
abbrev pub IsMissNoted : List Change → List Change → List Heard → Type 0 → List Miss → Miss → Type 0
IsMissNoted brought log answers Failed missed miss =
    Contains missed miss ⊎ IsMetByHand brought log answers Failed miss.name miss.cause

-- from one moment of the settling to a later one: the token is a later one, the hand heard nothing but openings, reads of parts and
-- looks in the scope, and each miss that was noted since it met itself
pub record LeadsInSettling (told : Bool) (version : Versions) (scope : Scope) (seat : SeatFacts Change Origin) (before : ShownTree)
    (later_seat : SeatFacts Change Origin) (after : ShownTree) (missed later_missed : List Miss) : Type 0 where
  pub later : IsLater seat later_seat
  pub more : List Heard
  pub listens : Listens told version before after more
  pub asks : AreReadingsAndLooks (is_in_scope scope) more
  pub noted : All (IsMissNoted seat.seen later_seat.seen more (Rose before.faults after.faults) missed) later_missed

-- the list has the miss more, or is as it was
abbrev pub MayNote : Miss → List Miss → List Miss → Type 0
MayNote miss missed later_missed = (later_missed ≡ missed) ⊎ (later_missed ≡ missed ++ miss ∷ [])

-- the row of the name stood, and its own file was seen
pub record IsStanding (name : NameFacts) (met : Seen) (log : List Change) : Type 0 where
  pub row : is_in (replay log) name ≡ true
  pub file : is_file met name.stamp ≡ true

-- the list is as it was, or has the name more as one that appeared, whose row stood
abbrev pub MayNoteThere : NameFacts → Seen → List Change → List Miss → List Miss → Type 0
MayNoteThere name met log missed later_missed =
    (later_missed ≡ missed)
    ⊎ ((later_missed ≡ missed ++ record { name = name; cause = Appeared } ∷ []) × IsStanding name met log)

-- the plan is that of the listing against the names that the log leaves, and counts each listed name once; the log was sound
pub record IsPlanned (listing : List NameFacts) (plan : Plan) (log : List Change) : Type 0 where
  pub planned : plan ≡ plan_of listing (replay log)
  pub parts : plan.add + plan.replace + plan.keep ≡ plan.files
  pub sound : EachChanges [] log

-- what the first hold of a pass shows
abbrev pub BeginShows : List NameFacts → Begun → List Change → Type 0
BeginShows listing (begun.Begun plan) log = IsPlanned listing plan log
BeginShows listing begun.Broken log = EndsVoid log
BeginShows listing begun.OutOfMemory log = Unit {0}

-- the rows are those of the listing, the log doesn't end in a void change, and the numbers are those of the plan
pub record IsAllDone (world : Rules) (listing : List NameFacts) (plan : Plan) (log : List Change) (summary : Summary) : Type 0 where
  pub names : replay log ≡ listing
  pub sound : ¬ EndsVoid log
  pub rows : List RowFacts
  pub stand : AreRowsOf world listing rows
  pub numbers : summary ≡ summary_of plan rows

-- by the stamps of its path, the name is listed and has no row, or has a row and isn't listed
abbrev pub IsOpenBy : List NameFacts → List NameFacts → NameFacts → Type 0
IsOpenBy listing names name =
    has_stamp (stamp_at names name.path) name.stamp ≡ not (has_stamp (stamp_at listing name.path) name.stamp)

-- the miss is one of these, one of the pass, and still open
pub record IsOneOf (listing : List NameFacts) (scope : Scope) (met : List Miss) (log : List Change) (miss : Miss) : Type 0 where
  pub among : Contains met miss
  pub of_pass : IsOfPass listing scope miss.name miss.cause
  pub stands : StillStands listing log miss.name
  pub sound : ¬ EndsVoid log

-- what the last hold of a pass shows
abbrev pub LastShows : Rules → List NameFacts → Scope → Plan → List Miss → List Change → PassEnd → Type 0
LastShows world listing scope plan met log (Whole summary) = IsAllDone world listing plan log summary
LastShows world listing scope plan met log (Missed miss) = IsOneOf listing scope met log miss
LastShows world listing scope plan met log (Unwalked fault) = ⊥
LastShows world listing scope plan met log Broken = ⊥
LastShows world listing scope plan met log KeeperFault = EndsVoid log
LastShows world listing scope plan met log LogFull = HasNoRoom listing log
LastShows world listing scope plan met log OutOfMemory = Unit {0}

-- no name is left
abbrev pub is_none_left : Standing → Bool
is_none_left standing = (standing.todo == 0) && (standing.out == 0) && (standing.groom == 0) && (standing.missed == 0)

-- nothing is to be done of the pass, and these are its numbers
pub record IsDoneAgain {K : Type 0} (world : Rules) (tells : Bool) (shows : K → ShownKeeper) (plan : Plan)
    (summary : Summary) (state : StateFacts K) : Type 0 where
  pub complete : CompletePass world.told world.true_row tells shows (pass_or_none state.pass).listing state
  pub numbers : summary ≡ summary_of plan state.rows

-- the log has its limit, and something is to be done of the pass
pub record IsShutAgain {K : Type 0} (state : StateFacts K) : Type 0 where
  pub full : length state.log ≡ LOG_LIMIT
  pub left : is_none_left (standing_of state) ≡ false

-- how a pass ends that was begun again, where this was the first miss of the hand that leads
abbrev pub EndsOpen : {K : Type 0} → Rules → Bool → (K → ShownKeeper) → Plan → Option Miss → StateFacts K → PassEnd
    → Type 0
EndsOpen world tells shows plan own state (Whole summary) = IsDoneAgain world tells shows plan summary state
EndsOpen world tells shows plan own state (Missed miss) = own ≡ Some miss
EndsOpen world tells shows plan own state LogFull = IsShutAgain state
EndsOpen world tells shows plan own state OutOfMemory = Unit {0}
EndsOpen world tells shows plan own state _ = ⊥

-- a pass over the listing was begun again, and ended so
pub record OpensLast {K : Type 0} (world : Rules) (tells : Bool) (shows : K → ShownKeeper) (listing : List NameFacts)
    (scope : Scope) (plan : Plan) (own : Option Miss) (old new : StateFacts K) (end : PassEnd) : Type 0 where
  pub again : Plan
  pub begins : BeginsPass listing scope again old new
  pub ends : EndsOpen world tells shows plan own new end

-- what the last hold made of the index
abbrev pub BeginsLast : {K : Type 0} → Rules → Bool → (K → ShownKeeper) → List NameFacts → Scope → Plan
    → Option Miss → StateFacts K → StateFacts K → PassEnd → Type 0
BeginsLast world tells shows listing scope plan own old new KeeperFault = StateStays (old.broken ≡ true) old new
BeginsLast world tells shows listing scope plan own old new OutOfMemory =
    StateStays (old.broken ≡ false) old new
    ⊎ OpensLast world tells shows listing scope plan own old new OutOfMemory
BeginsLast world tells shows listing scope plan own old new end =
    OpensLast world tells shows listing scope plan own old new end

-- how the settling and the last hold end a pass, by the plan whose numbers are told
abbrev pub EndsPlanned : Rules → List NameFacts → Scope → Plan → List Change → List Change → List Heard → Type 0
    → PassEnd → Type 0
EndsPlanned world listing scope plan brought log answers Failed (Whole summary) =
    IsAllDone world listing plan log summary
EndsPlanned world listing scope plan brought log answers Failed (Missed miss) =
    IsOwnMiss listing scope brought log answers Failed miss
EndsPlanned world listing scope plan brought log answers Failed (Unwalked fault) = ⊥
EndsPlanned world listing scope plan brought log answers Failed Broken = ⊥
EndsPlanned world listing scope plan brought log answers Failed KeeperFault = EndsVoid log
EndsPlanned world listing scope plan brought log answers Failed LogFull = HasNoRoom listing log
EndsPlanned world listing scope plan brought log answers Failed OutOfMemory = Unit {0}

-- the first hand settled what was left, and the pass ended so
pub record SettlesLast (world : Rules) (told : Bool) (listing : List NameFacts) (scope : Scope) (plan : Plan)
    (brought log : List Change) (before after : ShownTree) (end : PassEnd) : Type 0 where
  pub more : List Heard
  pub listens : Listens told world.version before after more
  pub asks : AreReadingsAndLooks (is_in_scope scope) more
  pub ends : EndsPlanned world listing scope plan brought log more (Rose before.faults after.faults) end

-- what came of a pass over a listing: the first hand heard nothing but openings, reads of parts and looks in the scope, and the
-- pass ended so
pub record LeadsPass (world : Rules) (told : Bool) (listing : List NameFacts) (scope : Scope)
    (brought log : List Change) (before after : ShownTree) (end : PassEnd) : Type 0 where
  pub more : List Heard
  pub listens : Listens told world.version before after more
  pub asks : AreReadingsAndLooks (is_in_scope scope) more
  pub ends : EndsListed world listing scope brought log more (Rose before.faults after.faults) end
