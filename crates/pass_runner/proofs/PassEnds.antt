-- A pass that was begun, and how it ends.
use Rattle.std.proofs.Common.{◌≡◌, ℕ, ◌≤◌, ◌<◌, inl, inr, Bool, false, List, [], ◌∷◌, length, Option, Some, None, refl, sym, ap, subst, arith, IsTrue}
use Rattle.std.specs.List.{All}
use Rattle.std.specs.Prelude.{IfSome}
use Rattle.std.proofs.lemmas.Bool.{true≢false}
use Rattle.std.proofs.lemmas.List.Elements.{All-head, All-weaker}
use Rattle.path_scope.specs.Scope.{Scope}
use Rattle.row_types.specs.Faults.{Rose}
use Rattle.row_types.specs.Name.{NameFacts}
use Rattle.row_types.specs.Rules.{Rules}
use Rattle.index_keeper.specs.Keeper.{ShownKeeper}
use Rattle.index_rows.specs.Rows.{row_names}
use Rattle.index_state.specs.Bound.{still_open}
use Rattle.index_state.specs.Complete.{CompletePass, LeavesNone, standing_of}
use Rattle.index_state.specs.Plan.{most_changes, plan_of}
use Rattle.index_state.specs.State.{StateFacts, pass_or_none}
use Rattle.index_state.specs.Step.{BeginsPass, after_begin}
use Rattle.index_state.specs.declared.answer.Plan.{Plan}
use Rattle.index_state.specs.declared.answer.Standing.{Standing}
use Rattle.index_lock.proofs.Prefixes.{prefix_self}
use Rattle.index_state.proofs.Keeps.{there}
use Rattle.scan_queue.specs.Pass.{PassFacts, first_missed}
use Rattle.scan_queue.specs.declared.miss.Cause.{Cause}
use Rattle.scan_queue.specs.declared.miss.Cause.TheVariants.{ReadFault, Altered, Appeared}
use Rattle.scan_queue.specs.declared.miss.Miss.{Miss}
use Rattle.tree_trait.specs.Found.{Versions}
use Rattle.tree_trait.specs.Heard.{Heard}
use Rattle.tree_trait.specs.Shown.{ShownTree}
use Rattle.pass_runner.specs.Beside.{EndsAgain}
use Rattle.pass_runner.specs.Ends.{AreNamesSettled}
use Rattle.pass_runner.specs.Numbers.{summary_of}
use Rattle.pass_runner.specs.Owned.{IsHelped, is_hand_fault, is_read_fault, is_unwalked}
use Rattle.pass_runner.specs.Passes.{EndsBegun, EndsFound, EndsOf, EndsOver, IsPassWhole, IsFresh, IsHandedOut}
use Rattle.pass_runner.specs.Settled.{IsBacked, IsMissBy, Settles}
use Rattle.pass_runner.specs.declared.pass_end.PassEnd.{PassEnd}
use Rattle.pass_runner.specs.declared.pass_end.PassEnd.TheVariants.{Whole, Missed, Walk, Broken}
use Rattle.pass_runner.specs.declared.pass_end.PassEnd.TheVariants.{KeeperFault, LogFull, OutOfMemory}
use Rattle.pass_runner.specs.declared.summary.Summary.{Summary}
use Rattle.pass_runner.proofs.Appearing.{none_of_none}
use Rattle.pass_runner.proofs.Moves.{same_listing}

module _ {K : Type 0} {listing : List NameFacts} {scope : Scope} {plan : Plan} {old mid : StateFacts K} (begins : BeginsPass listing scope plan old mid) where
  fresh_begun : IsFresh (after_begin listing scope old)
  fresh_begun = record {
    sound = begins.sound;
    is_open =
        let pass : PassFacts = pass_or_none (after_begin listing scope old).pass in
        record { from = pass; into = pass; was = refl; is = refl; over = refl };
    out = refl;
    missed = refl;
  }

  -- the pass that was begun is fresh
  pub fresh_after : IsFresh mid
  fresh_after = subst (λ (s : StateFacts K). IsFresh s) (sym begins.after) fresh_begun

-- what is open as the pass begins is no more than what its plan allows
pub planned_open : {K : Type 0} {listing : List NameFacts} {scope : Scope} {plan : Plan} {old mid : StateFacts K}
    → BeginsPass listing scope plan old mid
    → still_open listing (row_names old.rows) ≤ most_changes (plan_of listing (row_names old.rows))
planned_open {listing = listing} {old = old} begins =
    subst (λ (p : Plan). still_open listing (row_names old.rows) ≤ most_changes p) begins.planned begins.allowed

-- where there is one hand alone nothing happened before it settles
helped_alone : {K : Type 0} (listing : List NameFacts) (state : StateFacts K)
    → still_open listing (row_names state.rows) ≤ most_changes (plan_of listing (row_names state.rows)) → IsHelped 1 listing state state
helped_alone listing state few = record {
  log = prefix_self state.log;
  stays = λ name listed there. there;
  origin = refl;
  allowed = few;
  bounded = omega arith;
  alone = λ one. refl;
}

-- of a pass that was begun over a listing, with one hand
pub over_begun : {K T : Type 0} (world : Rules) (told tells : Bool) (shows : K → ShownKeeper) (sees : T → ShownTree)
    {listing : List NameFacts} {scope : Scope} (before after : T) {plan : Plan} {old mid : StateFacts K} (new : StateFacts K)
    (end : PassEnd) → BeginsPass listing scope plan old mid
    → EndsBegun world told tells shows plan (sees before) (sees after) mid new end
    → EndsOver world told tells shows sees 1 listing scope before after old new end
over_begun {K} {T} world told tells shows sees {listing} {scope} before after {plan} {old} {mid} new end begins ends =
    each end (record {
      found = old;
      helped = helped_alone listing old (planned_open begins);
      begun = subst (λ (p : Plan). EndsBegun world told tells shows p (sees before) (sees after) (after_begin listing scope old) new end)
          begins.planned
          (subst (λ (s : StateFacts K). EndsBegun world told tells shows plan (sees before) (sees after) s new end) begins.after ends);
    })
  where
    each : (e : PassEnd) → EndsFound world told tells shows 1 listing scope (sees before) (sees after) old new e
        → EndsOver world told tells shows sees 1 listing scope before after old new e
    each OutOfMemory h = inr (inl h)
    each (Whole summary) h = h
    each (Missed miss) h = h
    each KeeperFault h = inl h
    each LogFull h = h
    each (Walk fault) h = h
    each Broken h = h

-- of a pass that was begun again over a listing
pub again_begun : {K T : Type 0} (world : Rules) (told tells : Bool) (shows : K → ShownKeeper) (sees : T → ShownTree) (told_plan : Plan)
    {listing : List NameFacts} {scope : Scope} (before after : T) {plan : Plan} {old mid : StateFacts K} (new : StateFacts K)
    (end : PassEnd) → BeginsPass listing scope plan old mid
    → EndsBegun world told tells shows told_plan (sees before) (sees after) mid new end
    → EndsAgain world told tells shows sees told_plan listing scope before after old new end
again_begun {K} {T} world told tells shows sees told_plan {listing} {scope} before after {plan} {old} {mid} new end begins ends =
    each end (subst (λ (s : StateFacts K). EndsBegun world told tells shows told_plan (sees before) (sees after) s new end) begins.after ends)
  where
    each : (e : PassEnd) → EndsBegun world told tells shows told_plan (sees before) (sees after) (after_begin listing scope old) new e
        → EndsAgain world told tells shows sees told_plan listing scope before after old new e
    each OutOfMemory h = inl h
    each (Whole summary) h = h
    each (Missed miss) h = h
    each KeeperFault h = inl h
    each LogFull h = h
    each (Walk fault) h = h
    each Broken h = h

pub none_missed : (missed : List Miss) → None ≡ first_missed missed → missed ≡ []
none_missed [] e = refl
none_missed (m ∷ ms) e = absurd (cc)

-- a first miss is one of those that were missed
pub first_is : (P : Miss → Type 0) (missed : List Miss) (miss : Miss) → All P missed → first_missed missed ≡ Some miss → P miss
first_is P [] miss all e = absurd (cc)
first_is P (m ∷ ms) miss all e = subst P (some m miss e) (All-head P m ms all)
  where
    some : (a b : Miss) → Some a ≡ Some b → a ≡ b
    some a b h = cc

-- where nothing was missed before, each miss has its reason
backed_alone : (listing names : List NameFacts) (answers : List Heard) (Failed : Type 0) (miss : Miss)
    → IsMissBy listing names [] answers Failed miss → IsBacked listing names answers Failed miss.name miss.cause
backed_alone listing names answers Failed miss (inl none) = absurd (omega (arith, none.1))
backed_alone listing names answers Failed miss (inr why) = why

backed_fault : (listing names : List NameFacts) (answers : List Heard) (Failed : Type 0) (name : NameFacts) (cause : Cause)
    → IsBacked listing names answers Failed name cause → IsTrue (is_read_fault cause) → Failed
backed_fault listing names answers Failed name ReadFault h fault = h
backed_fault listing names answers Failed name (Altered met) h fault = absurd (true≢false (sym fault))
backed_fault listing names answers Failed name Appeared h fault = absurd (true≢false (sym fault))

module _ {K : Type 0} {told : Bool} {version : Versions} {shows : K → ShownKeeper} {before after : ShownTree} {old new : StateFacts K} where
  -- no name is left to be handed out
  pub handed_out : IsFresh old → Settles told version shows before after old new → AreNamesSettled old new → IsHandedOut new
  handed_out fresh settles ends = record {
    sound = ends.sound;
    is_open = record { from = settles.does.on.pass.into; into = settles.does.on.pass.into; was = settles.does.on.pass.is; is = settles.does.on.pass.is; over = refl };
    todo = ends.todo;
    out = ends.out fresh.out;
    groom = ends.groom;
    appeared = ends.appeared (none_of_none old fresh.missed);
  }

  -- each name that was missed has its reason
  pub all_backed : (pass_or_none old.pass).missed ≡ [] → (settles : Settles told version shows before after old new)
      → All (λ (miss : Miss). IsBacked (pass_or_none old.pass).listing (row_names old.rows) settles.does.answers (Rose before.faults after.faults) miss.name miss.cause)
      (pass_or_none new.pass).missed
  all_backed none settles =
      All-weaker (IsMissBy (pass_or_none old.pass).listing (row_names old.rows) [] settles.does.answers (Rose before.faults after.faults))
      (λ (miss : Miss). IsBacked (pass_or_none old.pass).listing (row_names old.rows) settles.does.answers (Rose before.faults after.faults) miss.name miss.cause)
      (backed_alone (pass_or_none old.pass).listing (row_names old.rows) settles.does.answers (Rose before.faults after.faults)) (pass_or_none new.pass).missed
      (subst (λ (ms : List Miss). All (IsMissBy (pass_or_none old.pass).listing (row_names old.rows) ms settles.does.answers (Rose before.faults after.faults)) (pass_or_none new.pass).missed)
      none settles.does.on.missed)

-- the end by what is left
pub begun_done : {K : Type 0} {told : Bool} {shows : K → ShownKeeper} {before after : ShownTree} {old new : StateFacts K}
    (world : Rules) (tells : Bool) (plan : Plan) (end : PassEnd)
    → Settles told world.version shows before after old new → new.broken ≡ false → EndsOf world tells shows plan new end
    → EndsBegun world told tells shows plan before after old new end
begun_done {shows = shows} {new = new} world tells plan (Whole summary) settles sound h = record {
  settles = settles;
  ends = record {
    complete =
        subst (λ (l : List NameFacts). CompletePass world.told world.true_row tells shows l new) (same_listing settles.does.on.pass) h.complete;
    whole = h.whole;
    sound = sound;
    numbers = h.numbers;
  };
}
begun_done world tells plan (Missed miss) settles sound h =
    record { settles = settles; ends = record { missed = h; sound = sound } }
begun_done world tells plan OutOfMemory settles sound h = record { settles = settles; ends = sound }
begun_done world tells plan (Walk fault) settles sound h = absurd h
begun_done world tells plan Broken settles sound h = absurd h
begun_done world tells plan KeeperFault settles sound h = absurd h
begun_done world tells plan LogFull settles sound h = absurd h

-- a failed call of the hand ends it only where its count rose
pub begun_fault : {K : Type 0} (world : Rules) (told tells : Bool) (shows : K → ShownKeeper) (plan : Plan) (before after : ShownTree)
    (old new : StateFacts K) (end : PassEnd) → IsFresh old → EndsBegun world told tells shows plan before after old new end
    → IsTrue (is_hand_fault end) → Rose before.faults after.faults
begun_fault world told tells shows plan before after old new (Missed miss) fresh h fault =
    backed_fault (pass_or_none old.pass).listing (row_names old.rows) h.settles.does.answers (Rose before.faults after.faults) miss.name miss.cause
    (first_is (λ (m : Miss). IsBacked (pass_or_none old.pass).listing (row_names old.rows) h.settles.does.answers (Rose before.faults after.faults) m.name m.cause)
    (pass_or_none new.pass).missed miss (all_backed fresh.missed h.settles) h.ends.missed.first) fault
begun_fault world told tells shows plan before after old new (Walk fault) fresh h f = absurd h
begun_fault world told tells shows plan before after old new (Whole summary) fresh h f = absurd (true≢false (sym f))
begun_fault world told tells shows plan before after old new Broken fresh h f = absurd h
begun_fault world told tells shows plan before after old new KeeperFault fresh h f = absurd (true≢false (sym f))
begun_fault world told tells shows plan before after old new LogFull fresh h f = absurd (true≢false (sym f))
begun_fault world told tells shows plan before after old new OutOfMemory fresh h f = absurd (true≢false (sym f))

-- where no name is left the keeper didn't fail
pub never_fault : {K : Type 0} (world : Rules) (tells : Bool) (shows : K → ShownKeeper) (plan : Plan) (state : StateFacts K)
    (end : PassEnd) → EndsOf world tells shows plan state end → end ≡ KeeperFault → ⊥
never_fault world tells shows plan state KeeperFault h is = h
never_fault world tells shows plan state (Whole summary) h is = cc
never_fault world tells shows plan state (Missed miss) h is = cc
never_fault world tells shows plan state OutOfMemory h is = cc
never_fault world tells shows plan state (Walk fault) h is = h
never_fault world tells shows plan state Broken h is = h
never_fault world tells shows plan state LogFull h is = h

-- where no name was missed either, the pass is whole
pub whole_done : {K : Type 0} (world : Rules) (tells : Bool) (shows : K → ShownKeeper) {state : StateFacts K} {plan : Plan}
    {summary : Summary} {standing : Standing} → IsHandedOut state → None ≡ first_missed (pass_or_none state.pass).missed
    → standing ≡ standing_of state
    → IfSome state.pass (λ pass. LeavesNone standing → CompletePass world.told world.true_row tells shows pass.listing state)
    → summary ≡ summary_of plan state.rows → IsPassWhole world tells shows plan summary state
whole_done {K} world tells shows {state} {plan} {summary} {standing} handed first value complete numbers =
    let missed = none_missed (pass_or_none state.pass).missed first in
    let leaves : LeavesNone standing
    = subst (λ (s : Standing). LeavesNone s) (sym value) (record {
      todo = ap (λ (xs : List NameFacts). length xs) handed.todo;
      out = ap (λ (xs : List NameFacts). length xs) handed.out;
      groom = ap (λ (xs : List NameFacts). length xs) handed.groom;
      missed = ap (λ (xs : List Miss). length xs) missed;
    }) in
    record {
      complete =
          subst (λ (o : Option PassFacts). CompletePass world.told world.true_row tells shows (pass_or_none o).listing state) (sym handed.is_open.was)
          (there (λ (pass : PassFacts). LeavesNone standing → CompletePass world.told world.true_row tells shows pass.listing state)
          handed.is_open.was complete leaves);
      whole = record { todo = handed.todo; out = handed.out; groom = handed.groom; missed = missed };
      numbers = numbers;
    }

-- a pass over a listing doesn't end as a walk does
pub over_walked : {K T : Type 0} (world : Rules) (told tells : Bool) (shows : K → ShownKeeper) (sees : T → ShownTree) (hands : ℕ)
    (listing : List NameFacts) (scope : Scope) (before after : T) (old new : StateFacts K) (end : PassEnd)
    → EndsOver world told tells shows sees hands listing scope before after old new end → IsTrue (is_unwalked end) → ⊥
over_walked world told tells shows sees hands listing scope before after old new (Walk fault) h f = h.begun
over_walked world told tells shows sees hands listing scope before after old new (Whole summary) h f = true≢false (sym f)
over_walked world told tells shows sees hands listing scope before after old new (Missed miss) h f = true≢false (sym f)
over_walked world told tells shows sees hands listing scope before after old new Broken h f = true≢false (sym f)
over_walked world told tells shows sees hands listing scope before after old new KeeperFault h f = true≢false (sym f)
over_walked world told tells shows sees hands listing scope before after old new LogFull h f = true≢false (sym f)
over_walked world told tells shows sees hands listing scope before after old new OutOfMemory h f = true≢false (sym f)

-- a count that rose is above 0
pub rose_counted : (a b : ℕ) → Rose a b → 0 < b
rose_counted a b rose = omega (arith, rose)
