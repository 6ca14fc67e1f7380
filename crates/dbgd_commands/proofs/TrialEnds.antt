-- How a pass over the generated files ends.
use Rattle.std.proofs.Common.{◌≡◌, inl, inr, ℕ, ◌<◌, ◌≤◌, Bool, true, false, List, None, length}
use Rattle.std.proofs.Common.{refl, sym, ◌∙◌, ap, subst, arith, IsTrue}
use Rattle.std.specs.Prelude.{is_none, replicate}
use Rattle.std.proofs.lemmas.List.Sums.{count_by-le-length}
use Rattle.path_scope.specs.Scope.{Scope}
use Rattle.row_types.specs.Canon.{IsCanonPath}
use Rattle.row_types.specs.Faults.{Rose}
use Rattle.row_types.specs.Name.{NameFacts, stamp_at}
use Rattle.row_types.specs.Rules.{Rules, rules}
use Rattle.row_types.specs.declared.limits.TheConstants.{EDITION}
use Rattle.index_rows.specs.Rows.{row_names}
use Rattle.index_rows.specs.declared.rows.TheConstants.{LOG_LIMIT}
use Rattle.index_keeper.specs.MemKeeper.{MemKeeperFacts}
use Rattle.index_state.specs.Bound.{voids}
use Rattle.index_state.specs.Invariant.{IndexInvariant}
use Rattle.index_state.specs.Plan.{is_other, plan_of}
use Rattle.index_state.specs.State.{StateFacts}
use Rattle.scan_queue.specs.declared.miss.Cause.{Cause}
use Rattle.scan_queue.specs.declared.miss.Cause.TheVariants as cause
use Rattle.scan_queue.specs.declared.miss.Miss.{Miss}
use Rattle.tree_trait.specs.Shown.{HandsOn}
use Rattle.tree_walk.specs.Files.{AreFilesUnder}
use Rattle.tree_walk.specs.declared.fault.WalkFault.{WalkFault}
use Rattle.elf_forge.specs.Place.{forged_names}
use Rattle.elf_forge.specs.Tree.{ForgeFacts, fresh_forge, forge_shows}
use Rattle.pass_runner.specs.Owned.{EndsPass, HandsGo, Helps, IsMissTold, is_hand_fault}
use Rattle.pass_runner.specs.Settled.{IsBacked}
use Rattle.pass_runner.specs.declared.pass_end.PassEnd.{PassEnd}
use Rattle.pass_runner.specs.declared.pass_end.PassEnd.TheVariants as ended
use Rattle.pass_runner.specs.declared.summary.Summary.{Summary}
use Rattle.dbgd_commands.specs.Passing.{HasMissedPath}
use Rattle.dbgd_commands.specs.Trial.{HasScanned, forged_scope}
use Rattle.dbgd_commands.specs.TrialKeeper.{shown_sure}
use Rattle.dbgd_commands.specs.TrialPass.{EndsWell, IsNewIndex}
use Rattle.dbgd_commands.proofs.ChangedLemmas.{never_changed}
use Rattle.dbgd_commands.proofs.ForgedLemmas.{few_listed, walks_well}
use Rattle.dbgd_commands.proofs.TrialLemmas.{first_of_alike}

-- the rules of real files
abbrev pub open_rules : Rules
open_rules = rules (λ _ _ _. Unit {0}) (λ row. row.edition ≡ EDITION) false

-- a count that stands at 0 did not rise
not_rose : Rose 0 0 → ⊥
not_rose rose = absurd (omega (arith, rose))

-- how a pass of a hand over these folders ended
abbrev Passes : ℕ → Scope → List NameFacts → StateFacts MemKeeperFacts → StateFacts MemKeeperFacts → PassEnd
    → ForgeFacts → ForgeFacts → Type 0
Passes count scope listing old new end hand later =
    EndsPass open_rules true true shown_sure count scope listing (forge_shows hand) (forge_shows later) old new end

-- how the hand goes on
abbrev Goes : Scope → PassEnd → ForgeFacts → ForgeFacts → Type 0
Goes scope end hand later =
    HandsOn true open_rules.version (forge_shows hand) (forge_shows later) (0 < length scope.roots) (IsTrue (is_hand_fault end))

-- and the others
abbrev Aids : List NameFacts → StateFacts MemKeeperFacts → ForgeFacts → ForgeFacts → Type 0
Aids listing old hand later =
    Helps true open_rules.version listing (row_names old.rows) (forge_shows hand) (forge_shows later)

abbrev Stays : ForgeFacts → ForgeFacts → Type 0
Stays hand later = HandsOn true open_rules.version (forge_shows hand) (forge_shows later) ⊥ ⊥

-- how a pass over the generated files ended, and that the count of its hand stands
pub record PassesForged (seed files count : ℕ) (old new : StateFacts MemKeeperFacts) (end : PassEnd) : Type 0 where
  pub later : ForgeFacts
  pub listing : List NameFacts
  pub ends : Passes count forged_scope listing old new end (fresh_forge seed files) later
  pub goes : Goes forged_scope end (fresh_forge seed files) later

-- the first of some hands that all began alike
pub first_hand : (seed files many : ℕ) {count : ℕ} {scope : Scope} {old new : StateFacts MemKeeperFacts}
    {end : PassEnd} (hands left : List ForgeFacts) → hands ≡ replicate many (fresh_forge seed files) → 1 ≤ many
    → scope ≡ forged_scope
    → ((listing : List NameFacts) × HandsGo (Passes count scope listing old new end) (Aids listing old) hands left)
    → HandsGo (Goes scope end) Stays hands left → PassesForged seed files count old new end
first_hand seed files many {count} {scope} {old} {new} {end} hands left alike some at pass goes =
    let one = first_of_alike (Passes count scope pass.0 old new end) (Aids pass.0 old) (Goes scope end) Stays
    (fresh_forge seed files) many left some
    (subst (λ hs. HandsGo (Passes count scope pass.0 old new end) (Aids pass.0 old) hs left) alike pass.1)
    (subst (λ hs. HandsGo (Goes scope end) Stays hs left) alike goes) in
    record {
      later = one.0;
      listing = pass.0;
      ends = subst (λ sc. Passes count sc pass.0 old new end (fresh_forge seed files) one.0) at one.1;
      goes = subst (λ sc. Goes sc end (fresh_forge seed files) one.0) at one.2;
    }

module _ (seed files count : ℕ) (old new : StateFacts MemKeeperFacts) where
  abbrev EndsForged : ForgeFacts → List NameFacts → PassEnd → Type 0
  EndsForged later listing end = Passes count forged_scope listing old new end (fresh_forge seed files) later

  -- no name is missed
  none_missed : (later : ForgeFacts) (listing : List NameFacts) (miss : Miss) → IsCanonPath miss.name.path
      → EndsForged later listing (ended.Missed miss) → ⊥
  none_missed later listing miss path run =
      let tells = subst (λ (l : List NameFacts). IsMissTold miss (Rose 0 0) l (row_names run.found.rows) run.more) (sym run.over) run.ends.tells in
      go miss.cause tells.why tells.apart
    where
      go : (why : Cause) → IsBacked run.walk.listing (row_names run.found.rows) run.more (Rose 0 0) miss.name why
          → (why ≡ cause.Appeared → stamp_at run.walk.listing miss.name.path ≡ None) → ⊥
      go cause.ReadFault rose apart = not_rose rose
      go (cause.Altered met) backed apart =
          never_changed (Rose 0 0) miss.name (cause.Altered met) run.hears tt path backed apart (refl, tt)
      go cause.Appeared backed apart =
          never_changed (Rose 0 0) miss.name cause.Appeared run.hears tt path backed apart (refl, tt)

  -- the log has room for each file three times
  log_short : (later : ForgeFacts) (listing : List NameFacts) → files ≤ 100000 → IsNewIndex old → EndsForged later listing ended.LogFull → ⊥
  log_short later listing few opened run =
      let none : length old.log ≡ 0 = ap (λ (st : StateFacts MemKeeperFacts). length st.log) opened.value in
      let gone : (plan_of listing (row_names old.rows)).drop ≡ 0 =
      ap (λ (st : StateFacts MemKeeperFacts). (plan_of listing (row_names st.rows)).drop) opened.value in
      let added = count_by-le-length (λ (name : NameFacts). is_none (stamp_at (row_names old.rows) name.path)) listing in
      let replaced = count_by-le-length (λ (name : NameFacts). is_other (stamp_at (row_names old.rows) name.path) name.stamp) listing in
      let many : length listing ≤ 100000 =
      few_listed seed files forged_scope few
      (subst (AreFilesUnder (forged_names seed files) forged_scope) run.over (run.hears.walks.under (refl, tt))) in
      let void : voids new.broken ≡ 0 = ap (λ (b : Bool). voids b) run.ends.sound in
      let bounded = run.bounded in
      let full = run.ends.full in
      let limit : LOG_LIMIT ≡ 4194304 = refl in
      absurd (omega (arith, none, gone, added, replaced, many, void, bounded, full, limit))

  pub ends_well : (end : PassEnd) → 1 ≤ files → files ≤ 100000 → PassesForged seed files count old new end → HasMissedPath end
      → (end ≡ ended.KeeperFault → 0 < (shown_sure new.keeper).faults) → IsNewIndex old → EndsWell end
  ends_well (ended.Whole summary) some few passes path keeper opened = tt
  ends_well (ended.Missed miss) some few passes path keeper opened =
      absurd (none_missed passes.later passes.listing miss path passes.ends)
  ends_well (ended.Walk fault) some few passes path keeper opened =
      elim (walks_well seed files fault some few (passes.ends.stops.fits (refl, tt))) [
        | inl is ↦ absurd (not_rose (passes.goes.cause.rose (ap (λ (f : WalkFault). is_hand_fault (ended.Walk f)) is)))
        | inr is ↦ subst (λ (f : WalkFault). EndsWell (ended.Walk f)) (sym is) tt
      ]
  ends_well ended.Broken some few passes path keeper opened = absurd passes.ends
  ends_well ended.KeeperFault some few passes path keeper opened =
      let counted = keeper refl in absurd (omega (arith, counted))
  ends_well ended.LogFull some few passes path keeper opened =
      absurd (log_short passes.later passes.listing few opened passes.ends)
  ends_well ended.OutOfMemory some few passes path keeper opened = tt

  whole : (later : ForgeFacts) (listing : List NameFacts) (summary : Summary)
      → IndexInvariant open_rules.true_row true shown_sure new → EndsForged later listing (ended.Whole summary)
      → HasScanned seed files new.rows summary
  whole later listing summary holds run = record {
    rows_are = record {
      names =
          subst (AreFilesUnder (forged_names seed files) forged_scope) (run.over ∙ sym run.ends.complete.names)
          (run.hears.walks.under (refl, tt));
      sound = holds.rows_sorted_and_true;
    };
    executables = ap (λ (s : Summary). s.executables) run.ends.numbers;
    debuginfo = ap (λ (s : Summary). s.debuginfo) run.ends.numbers;
  }

  -- a whole pass leaves the rows of the files
  pub has_scanned : {end : PassEnd} (summary : Summary) → PassesForged seed files count old new end
      → IndexInvariant open_rules.true_row true shown_sure new → end ≡ ended.Whole summary
      → HasScanned seed files new.rows summary
  has_scanned summary passes holds is =
      whole passes.later passes.listing summary holds (subst (EndsForged passes.later passes.listing) is passes.ends)
