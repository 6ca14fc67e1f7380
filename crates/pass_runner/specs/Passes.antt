-- A pass that was begun, and how it ends (this crate's bookkeeping, which no public clause cites).
use Rattle.std.specs.Prelude.{◌≡◌, ◌⊎◌, ℕ, Bool, true, false, List, [], Some, None}
use Rattle.row_types.specs.Ascends.{IsBefore}
use Rattle.row_types.specs.Name.{NameFacts, stamp_at}
use Rattle.row_types.specs.Rules.{Rules}
use Rattle.path_scope.specs.Scope.{Scope}
use Rattle.index_keeper.specs.Keeper.{ShownKeeper}
use Rattle.index_rows.specs.Rows.{row_names}
use Rattle.index_state.specs.Complete.{CompletePass}
use Rattle.index_state.specs.Plan.{plan_of}
use Rattle.index_state.specs.State.{StateFacts, pass_or_none}
use Rattle.index_state.specs.Step.{after_begin}
use Rattle.index_state.specs.declared.answer.Plan.{Plan}
use Rattle.scan_queue.specs.Pass.{IsWhole, first_missed}
use Rattle.scan_queue.specs.Names.{is_in}
use Rattle.scan_queue.specs.declared.miss.Cause.TheVariants.{Appeared}
use Rattle.scan_queue.specs.declared.miss.Miss.{Miss}
use Rattle.tree_trait.specs.Shown.{ShownTree}
use Rattle.pass_runner.specs.Ends.{IsOutOfRoom}
use Rattle.pass_runner.specs.Numbers.{summary_of}
use Rattle.pass_runner.specs.Owned.{IsHelped, IsWholePass}
use Rattle.pass_runner.specs.Settled.{AppearedStand, IsPassOn, Settles, is_missed}
use Rattle.pass_runner.specs.declared.pass_end.PassEnd.{PassEnd}
use Rattle.pass_runner.specs.declared.pass_end.PassEnd.TheVariants.{Whole, Missed}
use Rattle.pass_runner.specs.declared.pass_end.PassEnd.TheVariants.{KeeperFault, LogFull, OutOfMemory}
use Rattle.pass_runner.specs.declared.summary.Summary.{Summary}

-- a pass was begun, and nothing was done of it yet
pub record IsFresh {K : Type 0} (state : StateFacts K) : Type 0 where
  pub sound : state.broken ≡ false
  pub is_open : IsPassOn state.pass state.pass
  pub out : (pass_or_none state.pass).out ≡ []
  pub missed : (pass_or_none state.pass).missed ≡ []

-- no name of the pass is left to be handed out, and none is out; the row of each name that appeared stands
pub record IsHandedOut {K : Type 0} (state : StateFacts K) : Type 0 where
  pub sound : state.broken ≡ false
  pub is_open : IsPassOn state.pass state.pass
  pub todo : (pass_or_none state.pass).todo ≡ []
  pub out : (pass_or_none state.pass).out ≡ []
  pub groom : (pass_or_none state.pass).groom ≡ []
  pub appeared : AppearedStand state

-- the pass is whole, and these are its numbers
pub record IsPassWhole {K : Type 0} (world : Rules) (tells : Bool) (shows : K → ShownKeeper) (plan : Plan) (summary : Summary)
    (state : StateFacts K) : Type 0 where
  pub complete : CompletePass world.told world.true_row tells shows (pass_or_none state.pass).listing state
  pub whole : IsWhole (pass_or_none state.pass)
  pub numbers : summary ≡ summary_of plan state.rows

-- the path of a name that appeared isn't listed, where the name isn't
abbrev pub IsApart : List NameFacts → Miss → Type 0
IsApart listing miss = miss.cause ≡ Appeared → is_in listing miss.name ≡ false → stamp_at listing miss.name.path ≡ None

-- the name was missed first, so no name that was missed stands before it; and where it appeared its path isn't listed
pub record IsFirstMissed {K : Type 0} (miss : Miss) (state : StateFacts K) : Type 0 where
  pub first : first_missed (pass_or_none state.pass).missed ≡ Some miss
  pub least : (name : NameFacts) → is_missed state name ≡ true → ¬ IsBefore name.path miss.name.path
  pub apart : IsApart (pass_or_none state.pass).listing miss

-- the end of a pass of which no name is left to be handed out
abbrev pub EndsOf : {K : Type 0} → Rules → Bool → (K → ShownKeeper) → Plan → StateFacts K → PassEnd → Type 0
EndsOf world tells shows plan state (Whole summary) = IsPassWhole world tells shows plan summary state
EndsOf world tells shows plan state (Missed miss) = IsFirstMissed miss state
EndsOf world tells shows plan state OutOfMemory = Unit {0}
EndsOf world tells shows plan state _ = ⊥

-- a name was missed, and this was the first
pub record IsFirstMiss {K : Type 0} (miss : Miss) (new : StateFacts K) : Type 0 where
  pub missed : IsFirstMissed miss new
  pub sound : new.broken ≡ false

-- the pass that was begun was settled, and this came of it
pub record SettlesTo {K : Type 0} (world : Rules) (told : Bool) (shows : K → ShownKeeper) (before after : ShownTree)
    (old new : StateFacts K) (Ends : Type 0) : Type 0 where
  pub settles : Settles told world.version shows before after old new
  pub ends : Ends

-- how a pass that was begun ended, by the plan whose numbers are told
abbrev pub EndsBegun : {K : Type 0} → Rules → Bool → Bool → (K → ShownKeeper) → Plan → ShownTree → ShownTree
    → StateFacts K → StateFacts K → PassEnd → Type 0
EndsBegun world told tells shows plan before after old new (Whole summary) =
    SettlesTo world told shows before after old new
    (IsWholePass world tells shows plan summary new (pass_or_none old.pass).listing)
EndsBegun world told tells shows plan before after old new (Missed miss) =
    SettlesTo world told shows before after old new (IsFirstMiss miss new)
EndsBegun world told tells shows plan before after old new KeeperFault =
    SettlesTo world told shows before after old new (new.broken ≡ true)
EndsBegun world told tells shows plan before after old new LogFull =
    SettlesTo world told shows before after old new (IsOutOfRoom new)
EndsBegun world told tells shows plan before after old new OutOfMemory =
    SettlesTo world told shows before after old new (new.broken ≡ false)
EndsBegun world told tells shows plan before after old new _ = ⊥

-- a pass over the listing was begun once the other hands had helped, and this came of it
pub record EndsFound {K : Type 0} (world : Rules) (told tells : Bool) (shows : K → ShownKeeper) (hands : ℕ)
    (listing : List NameFacts) (scope : Scope) (before after : ShownTree) (old new : StateFacts K)
    (end : PassEnd) : Type 0 where
  pub found : StateFacts K
  pub helped : IsHelped hands listing old found
  pub begun : EndsBegun world told tells shows (plan_of listing (row_names old.rows)) before after
      (after_begin listing scope found) new end

-- nothing changed
pub record StaysSame {K T : Type 0} (before after : T) (old new : StateFacts K) : Type 0 where
  pub hand : after ≡ before
  pub state : new ≡ old

-- the other hands helped, and the first one did nothing more
pub record LeavesToHands {K T : Type 0} (hands : ℕ) (listing : List NameFacts) (before after : T) (old new : StateFacts K)
    (Ends : Type 0) : Type 0 where
  pub hand : after ≡ before
  pub helped : IsHelped hands listing old new
  pub ends : Ends

-- how a pass over the listing ended; memory may be refused before it begins
abbrev pub EndsOver : {K T : Type 0} → Rules → Bool → Bool → (K → ShownKeeper) → (T → ShownTree) → ℕ → List NameFacts
    → Scope → T → T → StateFacts K → StateFacts K → PassEnd → Type 0
EndsOver world told tells shows sees hands listing scope before after old new OutOfMemory =
    StaysSame before after old new
    ⊎ (EndsFound world told tells shows hands listing scope (sees before) (sees after) old new OutOfMemory
    ⊎ LeavesToHands hands listing before after old new (new.broken ≡ false))
EndsOver world told tells shows sees hands listing scope before after old new KeeperFault =
    EndsFound world told tells shows hands listing scope (sees before) (sees after) old new KeeperFault
    ⊎ LeavesToHands hands listing before after old new (new.broken ≡ true)
EndsOver world told tells shows sees hands listing scope before after old new end =
    EndsFound world told tells shows hands listing scope (sees before) (sees after) old new end
