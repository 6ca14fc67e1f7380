-- A pass with which other hands help: what they leave of the index, and how it ends.
use Rattle.std.proofs.Common.{◌≡◌, ℕ, ◌≤◌, ◌<◌, inl, inr, Bool, true, false, List, length, take, Option, refl, sym, ◌∙◌, ap, subst, arith, IsTrue}
use Rattle.std.specs.List.{filter}
use Rattle.std.specs.Prelude.{IfSome}
use Rattle.std.proofs.lemmas.Bool.{and_from, true≢false}
use Rattle.std.proofs.lemmas.List.{take-append-le, take_all}
use mathlib.Core.List.{IsPrefix}
use Rattle.path_scope.specs.Scope.{Scope}
use Rattle.row_types.specs.Name.{NameFacts}
use Rattle.row_types.specs.Rules.{Rules}
use Rattle.index_keeper.specs.Keeper.{ShownKeeper}
use Rattle.index_lock.proofs.Prefixes.{prefix_self}
use Rattle.index_rows.specs.Log.{replay}
use Rattle.index_rows.specs.Rows.{row_names}
use Rattle.index_rows.specs.declared.change.Change.{Change}
use Rattle.index_state.specs.Bound.{IsBounded, still_open, voids}
use Rattle.index_state.specs.Plan.{most_changes, plan_of}
use Rattle.index_state.specs.Spare.{after_spare}
use Rattle.index_state.specs.Spared.{AreSpared, Sparing}
use Rattle.index_state.specs.State.{Origin, StateFacts, pass_or_none, unspared}
use Rattle.index_state.specs.Step.{BeginsPass, after_begin}
use Rattle.index_state.specs.declared.answer.Plan.{Plan}
use Rattle.index_state.proofs.Members.{in_filter}
use Rattle.scan_queue.specs.Names.{is_in}
use Rattle.tree_trait.specs.Shown.{ShownTree}
use Rattle.pass_runner.specs.Beside.{EndsAgain, IsWeighed, StaysOut, is_whole}
use Rattle.pass_runner.specs.Owned.{IsHelped}
use Rattle.pass_runner.specs.Passes.{EndsBegun, EndsFound, EndsOver, LeavesToHands}
use Rattle.pass_runner.specs.declared.pass_end.PassEnd.{PassEnd}
use Rattle.pass_runner.specs.declared.pass_end.PassEnd.TheVariants.{Whole, Missed, Walk, Broken}
use Rattle.pass_runner.specs.declared.pass_end.PassEnd.TheVariants.{KeeperFault, LogFull, OutOfMemory}
use Rattle.pass_runner.proofs.PassEnds.{planned_open}

-- an index over which a pass was begun, whose listed rows' names are skipped from now on
abbrev pub shared_from : {K : Type 0} → List NameFacts → Scope → StateFacts K → StateFacts K
shared_from listing scope old = after_spare (after_begin listing scope old)

-- the names that the front of a log leaves
front_leaves : (front log : List Change) (names : List NameFacts) → IsPrefix front log → names ≡ replay front
    → replay (take (length front) log) ≡ names
front_leaves front log names begins same =
    ap (λ (l : List Change). replay (take (length front) l)) (sym begins.1)
    ∙ ap (λ (l : List Change). replay l)
    (take-append-le (length front) front begins.0 (omega arith) ∙ take_all (length front) front (omega arith))
    ∙ sym same

module _ {K : Type 0} (count : ℕ) (some : 1 < count) (listing : List NameFacts) (scope : Scope) (old : StateFacts K)
    (few : still_open listing (row_names old.rows) ≤ most_changes (plan_of listing (row_names old.rows))) where
  -- what is found behind the lock
  pub helped_found : (found : StateFacts K) {at : Option Sparing} {long : ℕ} → old.broken ≡ false
      → row_names old.rows ≡ replay old.log → IsPrefix (shared_from listing scope old).log found.log
      → found.origin ≡ (shared_from listing scope old).origin
      → AreSpared at long found.origin.spared (pass_or_none found.pass).listing (row_names found.rows)
      → IfSome found.origin.sparing (IsBounded found.broken found.log (row_names found.rows))
      → IsHelped count listing old found
  helped_found found sound names log same spared bounded = record {
    log = log;
    stays = λ name listed there.
        spared.stand name
        (ap (λ (o : Origin). is_in o.spared name) same ∙ in_filter (is_in (row_names old.rows)) name listing
        ∙ and_from (is_in listing name) (is_in (row_names old.rows) name) listed there);
    origin = ap (λ (o : Origin). unspared o) same;
    allowed = few;
    bounded =
        let grown : IsBounded found.broken found.log (row_names found.rows) (record { count = length old.log; listing = listing }) =
        subst (λ (o : Origin). IfSome o.sparing (IsBounded found.broken found.log (row_names found.rows))) same bounded in
        let left : still_open listing (replay (take (length old.log) found.log)) ≡ still_open listing (row_names old.rows) =
        ap (λ (l : List NameFacts). still_open listing l) (front_leaves old.log found.log (row_names old.rows) log names) in
        let was : voids old.broken ≡ 0 = ap (λ (b : Bool). voids b) sound in
        omega (arith, grown, left, was);
    alone = λ one. absurd (omega (arith, one, some));
  }

  -- where nobody helped
  pub helped_none : IsHelped count listing old (shared_from listing scope old)
  helped_none = record {
    log = prefix_self old.log;
    stays = λ name listed there. there;
    origin = refl;
    allowed = few;
    bounded = omega arith;
    alone = λ one. absurd (omega (arith, one, some));
  }

  module _ {T : Type 0} (world : Rules) (told tells : Bool) (shows : K → ShownKeeper) (sees : T → ShownTree)
      (before after : T) (found new : StateFacts K) (helped : IsHelped count listing old found) where
    at_found : (e : PassEnd)
        → EndsBegun world told tells shows (plan_of listing (row_names old.rows)) (sees before) (sees after)
        (after_begin listing scope found) new e
        → EndsFound world told tells shows count listing scope (sees before) (sees after) old new e
    at_found e h = record { found = found; helped = helped; begun = h }

    left_at : (Why Ends : Type 0) → (Why → Ends) → StaysOut before after found new Why
        → LeavesToHands count listing before after old new Ends
    left_at Why Ends so h = record {
      hand = h.hand;
      helped = subst (λ (s : StateFacts K). IsHelped count listing old s) (sym h.state) helped;
      ends = so h.why;
    }

    -- the end of the second pass is that of the whole
    pub over_again : (e : PassEnd)
        → EndsAgain world told tells shows sees (plan_of listing (row_names old.rows)) listing scope before after found new e
        → EndsOver world told tells shows sees count listing scope before after old new e
    over_again (Whole summary) h = at_found (Whole summary) h
    over_again (Missed miss) h = at_found (Missed miss) h
    over_again LogFull h = at_found LogFull h
    over_again KeeperFault (inl h) = inl (at_found KeeperFault h)
    over_again KeeperFault (inr h) =
        inr (left_at (found.broken ≡ true) (new.broken ≡ true) (λ b. ap (λ (s : StateFacts K). s.broken) h.state ∙ b) h)
    over_again OutOfMemory (inl h) = inr (inl (at_found OutOfMemory h))
    over_again OutOfMemory (inr h) =
        inr (inr (left_at (found.broken ≡ false) (new.broken ≡ false) (λ b. ap (λ (s : StateFacts K). s.broken) h.state ∙ b) h))
    over_again (Walk fault) h = absurd h
    over_again Broken h = absurd h

-- the pass that was weighed
pub over_weighed : {K T : Type 0} (world : Rules) (told tells : Bool) (shows : K → ShownKeeper) (sees : T → ShownTree)
    (count : ℕ) (listing : List NameFacts) (scope : Scope) (before after : T) (old new : StateFacts K) (asked : ℕ) (many : Bool)
    (end final : PassEnd) → IsWeighed end asked many final
    → EndsOver world told tells shows sees count listing scope before after old new end
    → EndsOver world told tells shows sees count listing scope before after old new final
over_weighed {K} {T} world told tells shows sees count listing scope before after old new asked many end final weighed h = by final end weighed h
  where
    Over : PassEnd → Type 0
    Over e = EndsOver world told tells shows sees count listing scope before after old new e

    refused : (e : PassEnd) → IsTrue (is_whole e) → Over e → Over OutOfMemory
    refused (Whole summary) h o = inr (inl (record {
      found = o.found;
      helped = o.helped;
      begun = record { settles = o.begun.settles; ends = o.begun.ends.sound };
    }))
    refused (Missed miss) h o = absurd (true≢false (sym h))
    refused (Walk fault) h o = absurd (true≢false (sym h))
    refused Broken h o = absurd (true≢false (sym h))
    refused KeeperFault h o = absurd (true≢false (sym h))
    refused LogFull h o = absurd (true≢false (sym h))
    refused OutOfMemory h o = absurd (true≢false (sym h))

    by : (f e : PassEnd) → IsWeighed e asked many f → Over e → Over f
    by OutOfMemory e (inl same) o = subst Over same o
    by OutOfMemory e (inr whole) o = refused e whole o
    by (Whole summary) e w o = subst Over w.0 o
    by (Missed miss) e w o = subst Over w o
    by (Walk fault) e w o = subst Over w o
    by Broken e w o = subst Over w o
    by KeeperFault e w o = subst Over w o
    by LogFull e w o = subst Over w o

-- a pass that was begun again and ended by a fault of the keeper left a broken index
pub again_broken : {K T : Type 0} (world : Rules) (told tells : Bool) (shows : K → ShownKeeper) (sees : T → ShownTree) (plan : Plan)
    (listing : List NameFacts) (scope : Scope) (before after : T) (old new : StateFacts K) (end : PassEnd)
    → EndsAgain world told tells shows sees plan listing scope before after old new end → end ≡ KeeperFault → new.broken ≡ true
again_broken {K} world told tells shows sees plan listing scope before after old new KeeperFault (inl h) is = h.ends
again_broken {K} world told tells shows sees plan listing scope before after old new KeeperFault (inr h) is =
    ap (λ (s : StateFacts K). s.broken) h.state ∙ h.why
again_broken world told tells shows sees plan listing scope before after old new (Whole summary) h is = absurd (cc)
again_broken world told tells shows sees plan listing scope before after old new (Missed miss) h is = absurd (cc)
again_broken world told tells shows sees plan listing scope before after old new LogFull h is = absurd (cc)
again_broken world told tells shows sees plan listing scope before after old new OutOfMemory h is = absurd (cc)
again_broken world told tells shows sees plan listing scope before after old new (Walk fault) h is = absurd h
again_broken world told tells shows sees plan listing scope before after old new Broken h is = absurd h

module _ {K : Type 0} (count : ℕ) (some : 1 < count) {listing : List NameFacts} {scope : Scope} {plan : Plan}
    {old mid shared : StateFacts K} (begins : BeginsPass listing scope plan old mid) (spared : shared ≡ after_spare mid) where
  -- the index that goes behind the lock
  is_shared : shared ≡ shared_from listing scope old
  is_shared = spared ∙ ap (λ (s : StateFacts K). after_spare s) begins.after

  -- the names that it skips
  pub spared_names : shared.origin.spared ≡ filter (is_in (row_names old.rows)) listing
  spared_names = ap (λ (s : StateFacts K). s.origin.spared) is_shared

  -- memory was refused for the lock
  pub not_shared : {T : Type 0} (hand : T) (new : StateFacts K) → new ≡ shared
      → LeavesToHands count listing hand hand old new (new.broken ≡ false)
  not_shared hand new same = record {
    hand = refl;
    helped =
        subst (λ (s : StateFacts K). IsHelped count listing old s) (sym (same ∙ is_shared))
        (helped_none count some listing scope old (planned_open begins));
    ends = ap (λ (s : StateFacts K). s.broken) (same ∙ is_shared) ∙ begins.sound;
  }

  -- the index came back from behind the lock, and the pass was begun again
  pub over_shared : {T : Type 0} (world : Rules) (told tells : Bool) (shows : K → ShownKeeper) (sees : T → ShownTree)
      (before after : T) (found new : StateFacts K) {at : Option Sparing} {long : ℕ} → row_names shared.rows ≡ replay shared.log
      → IsPrefix shared.log found.log → found.origin ≡ shared.origin
      → AreSpared at long found.origin.spared (pass_or_none found.pass).listing (row_names found.rows)
      → IfSome found.origin.sparing (IsBounded found.broken found.log (row_names found.rows))
      → {again : List NameFacts} {scope_again : Scope} → again ≡ listing → scope_again ≡ scope → (end : PassEnd)
      → EndsAgain world told tells shows sees plan again scope_again before after found new end
      → EndsOver world told tells shows sees count listing scope before after old new end
  over_shared world told tells shows sees before after found new names log origin skips bounded {again} {scope_again} same_names same_scope end ends =
      over_again count some listing scope old (planned_open begins) world told tells shows sees before after found new
      (helped_found count some listing scope old (planned_open begins) found begins.sound
      (sym (ap (λ (s : StateFacts K). row_names s.rows) is_shared) ∙ names ∙ ap (λ (s : StateFacts K). replay s.log) is_shared)
      (subst (λ (s : StateFacts K). IsPrefix s.log found.log) is_shared log)
      (origin ∙ ap (λ (s : StateFacts K). s.origin) is_shared) skips bounded) end
      (subst (λ (p : Plan). EndsAgain world told tells shows sees p listing scope before after found new end) begins.planned
      (subst (λ (rs : Scope). EndsAgain world told tells shows sees plan listing rs before after found new end) same_scope
      (subst (λ (ns : List NameFacts). EndsAgain world told tells shows sees plan ns scope_again before after found new end) same_names ends)))
