-- The pass of a scan: what is said of the index that made it is said of the store that it came from and went to.
use Rattle.std.proofs.Common.{◌≡◌, ◌⊎◌, inl, inr, ℕ, ◌+◌, ◌≤◌, Bool, true, false, List, ◌∷◌, ◌++◌, drop, Option, Some, Ok, length, refl, sym, ◌∙◌, ap, subst, arith, IsTrue}
use Rattle.std.specs.List.{AllZip}
use Rattle.std.proofs.lemmas.List.{length-map}
use Rattle.path_scope.specs.Scope.{Scope}
use Rattle.row_types.specs.Faults.{Rose}
use Rattle.row_types.specs.Name.{NameFacts}
use Rattle.row_types.specs.Row.{RowFacts}
use Rattle.scan_queue.specs.Pass.{PassFacts}
use Rattle.index_keeper.specs.Answers.{for_rows, rows_given}
use Rattle.index_keeper.specs.Keeper.{AsksKeeper, ShownKeeper}
use Rattle.index_keeper.specs.Store.{HasAll, ShownStore, TakesKeeperBack}
use Rattle.index_keeper.specs.Tables.{KeptFacts}
use Rattle.index_keeper.specs.declared.answer.KeptAnswer.{KeptAnswer}
use Rattle.index_keeper.specs.declared.answer.KeptAnswer.TheVariants as kept
use Rattle.index_rows.specs.Log.{put_of, replay}
use Rattle.index_rows.specs.Rows.{row_names}
use Rattle.index_rows.specs.declared.rows.TheConstants.{LOG_LIMIT}
use Rattle.index_rows.specs.declared.change.Change.{Change}
use Rattle.index_state.specs.Changes.{TellsSince}
use Rattle.index_state.specs.Invariant.{IndexInvariant}
use Rattle.index_state.specs.Kept.{AgreesOrInDoubt, IsInDoubt, IsInStore, IsNext, tables_of_rows}
use Rattle.index_state.specs.Opening.{Opens, current, made_swept}
use Rattle.index_state.specs.Bound.{IsWithinPlan, voids}
use Rattle.index_state.specs.Plan.{most_changes, plan_of}
use Rattle.index_state.specs.State.{Origin, StateFacts, lasting, pass_or_none}
use Rattle.tree_trait.specs.Heard.{Heard}
use Rattle.tree_trait.specs.Shown.{ShownTree}
use Rattle.tree_walk.specs.Ends.{WalksTree}
use Rattle.tree_walk.specs.declared.walked.Walk.{Walk as WalkFacts}
use Rattle.pass_runner.specs.Numbers.{summary_of}
use Rattle.pass_runner.specs.Owned.{EndsPassHelped as EndsBeside, EndsPass, HandsGo, Helps, IsHelped, LeavesIndex, RunsPass, is_unwalked}
use Rattle.pass_runner.specs.Settled.{KeepsListed}
use Rattle.pass_runner.specs.declared.pass_end.PassEnd.{PassEnd}
use Rattle.pass_runner.specs.declared.pass_end.PassEnd.TheVariants as ended
use Rattle.dbgd_commands.specs.Kept.{HasOneChange, HasRows, StoreHoldsRows, MakesChanges, MayHaveRows}
use Rattle.dbgd_commands.specs.Passing.{HasMissedPath, IsLent, ScansIndex}
use Rattle.dbgd_commands.specs.Scan.{EndsScanHelped, EndsInWalk, EndsPassed, EndsUnbegun, HelpsWith, MakesPass}
use Rattle.dbgd_commands.specs.Stage.{FirstGoes, Setting}
use Rattle.dbgd_commands.proofs.HandLemmas.{others_stay}

-- the values that a keeper gives are its tables
pub gave_all : {tells : Bool} (before after : ShownKeeper) (answer : KeptAnswer) (values : List KeptFacts)
    → AsksKeeper tells before after (for_rows answer) → rows_given answer ≡ Some values → IsTrue tells → values ≡ before.tables
gave_all before after (kept.All rows) values asks gave told =
    let given = asks.tells told in
    let same : rows.items ≡ values = cc in
    sym same ∙ given.whole ∙ given.stays.same
gave_all before after _ values asks gave told = absurd (cc)

-- with one change or without
one_change : {true_row : RowFacts → Type 0} {void : Change} {rows : List RowFacts} {tables : List KeptFacts}
    → (tables ≡ tables_of_rows rows) ⊎ IsNext true_row void rows tables
    → (tables ≡ tables_of_rows rows) ⊎ HasOneChange true_row tables rows
one_change (inl same) = inl same
one_change {void = void} (inr next) = inr (record { change = void; next = next })

module _ {K T : Type 0} (s : Setting T) {shows : K → ShownKeeper} {from into : ShownStore} {keeper : K} {old new : StateFacts K} (lent : IsLent s.tells_tables shows from into keeper old new) (holds : IndexInvariant s.world.true_row s.tells_tables shows new) where
  found : List RowFacts
  found = lent.opens.opened.rows

  old_rows : old.rows ≡ current lent.opens.opened.rows
  old_rows = ap (λ (st : StateFacts K). st.rows) lent.opens.opened.value

  old_names : row_names old.rows ≡ row_names (current lent.opens.opened.rows)
  old_names = ap row_names old_rows

  pub held : StoreHoldsRows s.tells_tables from lent.opens.opened.rows
  held = record {
    values = lent.opens.values;
    gave = record {
      by_path = lent.opens.gave.by_path;
      tells = λ t.
          gave_all (shows keeper) (shows lent.opens.asked) lent.opens.gave.answer lent.opens.values lent.opens.gave.heard lent.opens.gave.gave t
          ∙ lent.has.tables t;
    };
    sound = lent.opens.opened.sound;
    few = lent.opens.opened.few;
  }

  pub swept_made : (shows old.keeper).made ≡ made_swept lent.opens.opened.rows from.made
  swept_made =
      lent.opens.opened.swept.made ∙ ap (made_swept lent.opens.opened.rows) (lent.opens.gave.heard.grows ∙ lent.has.made)

  old_made : old.origin.made ≡ made_swept lent.opens.opened.rows from.made
  old_made = ap (λ (st : StateFacts K). st.origin.made) lent.opens.opened.value ∙ swept_made

  -- the changes behind the opening are those that the store made since
  pub told_since : new.origin.made ≡ old.origin.made
      → TellsSince s.world.true_row holds.store_agrees_with_rows.since.since (made_swept lent.opens.opened.rows from.made) into.made
  told_since same =
      let since = holds.store_agrees_with_rows.since in
      subst (λ after. TellsSince s.world.true_row since.since (made_swept lent.opens.opened.rows from.made) after) (sym lent.back.made)
      (subst (λ first. TellsSince s.world.true_row since.since first (shows new.keeper).made) (same ∙ old_made) since.told)

  pub made_since : new.origin.made ≡ old.origin.made
      → MakesChanges s.world.true_row lent.opens.opened.rows from.made into.made
  made_since same = record { changes = holds.store_agrees_with_rows.since.since; each = told_since same }

  pub has_rows : new.broken ≡ false → HasRows s.tells_tables into new.rows
  has_rows sound = λ t.
      let stands : IsInStore new.rows (shows new.keeper)
      = subst (λ b. AgreesOrInDoubt s.world.true_row b new.log new.rows (shows new.keeper)) sound (holds.store_agrees_with_rows.tables t) in
      stands.settled.only into.tables (lent.back.image t) ∙ stands.same

  pub may_have : new.broken ≡ true → MayHaveRows s.world.true_row s.tells_tables into new.rows
  may_have broken = λ t.
      let doubt : IsInDoubt s.world.true_row new.log new.rows (shows new.keeper)
      = subst (λ b. AgreesOrInDoubt s.world.true_row b new.log new.rows (shows new.keeper)) broken (holds.store_agrees_with_rows.tables t) in
      one_change (doubt.each into.tables (lent.back.image t))

  -- an index that stands as it was opened leaves the rows of the edition that the store held
  pub has_found : new ≡ old → HasRows s.tells_tables into (current lent.opens.opened.rows)
  has_found same = λ t.
      has_rows (ap (λ (st : StateFacts K). st.broken) (same ∙ lent.opens.opened.value)) t
      ∙ ap (λ (st : StateFacts K). tables_of_rows st.rows) same ∙ ap tables_of_rows old_rows

  pub made_found : new ≡ old → into.made ≡ made_swept lent.opens.opened.rows from.made
  made_found same = lent.back.made ∙ ap (λ (st : StateFacts K). (shows st.keeper).made) same ∙ swept_made

  in_walk : {Walked : ShownTree → ShownTree → Type 0} {before after : List T} → new ≡ old
      → FirstGoes (λ hand later. Walked (s.sees hand) (s.sees later)) before after
      → EndsInWalk s before after from into Walked
  in_walk same hands = record {
    found = lent.opens.opened.rows;
    held = held;
    hands = hands;
    has = λ t.
        has_rows (ap (λ (st : StateFacts K). st.broken) (same ∙ lent.opens.opened.value)) t
        ∙ ap (λ (st : StateFacts K). tables_of_rows st.rows) same ∙ ap tables_of_rows old_rows;
    made = lent.back.made ∙ ap (λ (st : StateFacts K). (shows st.keeper).made) same ∙ swept_made;
  }

  -- the other hands helped
  abbrev Aided : List NameFacts → List T → List T → Type 0
  Aided listing hands left = AllZip (λ h l. Helps s.tells_files s.world.version listing (row_names old.rows) (s.sees h) (s.sees l)) hands left

  -- so they did against the rows of the edition
  helps_by : (listing : List NameFacts) (hands left : List T) → Aided listing hands left
      → AllZip (HelpsWith s listing (current lent.opens.opened.rows)) hands left
  helps_by listing hands left helps =
      subst (λ names. AllZip (λ h l. Helps s.tells_files s.world.version listing names (s.sees h) (s.sees l)) hands left) old_names helps

  -- no row of a listed name went
  kept_by : (listing : List NameFacts) (rows : List RowFacts) → KeepsListed listing old.rows rows
      → KeepsListed listing (current lent.opens.opened.rows) rows
  kept_by listing rows stays = subst (λ (from : List RowFacts). KeepsListed listing from rows) old_rows stays

  unbegun : {scope : Scope} {hand later : T} {hands left : List T} (walk : WalkFacts) → new ≡ old
      → WalksTree s.tells_files (s.sees hand) (s.sees later) scope (Ok walk)
      → Aided walk.listing hands left
      → EndsUnbegun s scope (hand ∷ hands) (later ∷ left) from into
  unbegun {hands = hands} {left = left} walk same walks helps = record {
    found = lent.opens.opened.rows;
    held = held;
    walk = walk;
    hands = (walks, helps_by walk.listing hands left helps);
    has = λ t.
        has_rows (ap (λ (st : StateFacts K). st.broken) (same ∙ lent.opens.opened.value)) t
        ∙ ap (λ (st : StateFacts K). tables_of_rows st.rows) same ∙ ap tables_of_rows old_rows;
    made = lent.back.made ∙ ap (λ (st : StateFacts K). (shows st.keeper).made) same ∙ swept_made;
  }

  helped_on : {scope : Scope} {listing : List NameFacts} {hand later : T} {hands left : List T} {count : ℕ} {Ends : Type 0}
      {Into : List RowFacts → Type 0} (run : EndsBeside s.tells_files count scope listing (s.sees hand) (s.sees later) old new Ends)
      → Aided listing hands left
      → Into new.rows → EndsScanHelped s scope (hand ∷ hands) (later ∷ left) from into Into
  helped_on {hands = hands} {left = left} {count = count} run helps ends =
      let stands = subst (λ (l : List NameFacts). IsHelped count l old new) (sym run.over) run.helped in
      record {
        found = lent.opens.opened.rows;
        held = held;
        left = new.rows;
        sound = holds.rows_sorted_and_true;
        made = made_since (ap (λ (o : Origin). o.made) run.helped.origin);
        walk = run.walk;
        hands = (
          run.walks,
          helps_by run.walk.listing hands left
              (subst (λ (l : List NameFacts). Aided l hands left)
              (sym run.over) helps),
        );
        stays = kept_by run.walk.listing new.rows stands.stays;
        ends = ends;
      }

  makes : {scope : Scope} {listing : List NameFacts} {hand later : T} {hands left : List T}
      {Ends : StateFacts K → List Heard → Type 0}
      {Into : List NameFacts → List Heard → List Change → List RowFacts → List RowFacts → List RowFacts → Type 0}
      (run : RunsPass s.world s.tells_files (length (hand ∷ hands)) scope listing (s.sees hand) (s.sees later) old new Ends)
      → Aided listing hands left
      → Into listing run.more holds.store_agrees_with_rows.since.since (current lent.opens.opened.rows) run.found.rows new.rows
      → MakesPass s scope (hand ∷ hands) (later ∷ left) from into Into
  makes {scope} {listing} {hand} {later} {hands} {left} {Into = Into} run helps ends =
      let stands = subst (λ (l : List NameFacts). IsHelped (length (hand ∷ hands)) l old run.found) (sym run.over) run.helped in
      let leaves = subst (λ (l : List NameFacts). LeavesIndex scope l run.more (Rose (s.sees hand).faults (s.sees later).faults) run.found new)
      (sym run.over) run.leaves in
      record {
        found = lent.opens.opened.rows;
        held = held;
        met = run.found.rows;
        alone = λ one. ap (λ (st : StateFacts K). st.rows) (run.helped.alone one) ∙ old_rows;
        left = new.rows;
        sound = holds.rows_sorted_and_true;
        made = record {
          changes = holds.store_agrees_with_rows.since.since;
          each = told_since (ap (λ (o : Origin). o.made) (run.leaves.origin ∙ run.helped.origin));
        };
        walk = run.walk;
        walked = run.walked;
        more = run.more;
        hands = (
          run.hears,
          helps_by run.walk.listing hands left
              (subst (λ (l : List NameFacts). Aided l hands left)
              (sym run.over) helps),
        );
        kept = kept_by run.walk.listing run.found.rows stands.stays;
        moves = leaves.moves;
        ends =
            subst (λ (l : List NameFacts). Into l run.more holds.store_agrees_with_rows.since.since (current lent.opens.opened.rows) run.found.rows new.rows) (sym run.over) ends;
      }

  -- a log without room has the rows that were found and the changes that the plan allows
  many_changes : (listing : List NameFacts) → length new.log ≡ LOG_LIMIT → new.broken ≡ false → IsWithinPlan listing old new
      → LOG_LIMIT ≤ length (current lent.opens.opened.rows)
      + most_changes (plan_of listing (row_names (current lent.opens.opened.rows)))
  many_changes listing full sound bounded =
      let long : length old.log ≡ length (current lent.opens.opened.rows) =
      ap (λ (st : StateFacts K). length st.log) lent.opens.opened.value
      ∙ length-map (current lent.opens.opened.rows) (λ (r : RowFacts). put_of r.name) in
      let void : voids new.broken ≡ 0 = ap (λ (b : Bool). voids b) sound in
      let plan : most_changes (plan_of listing (row_names old.rows))
      ≡ most_changes (plan_of listing (row_names (current lent.opens.opened.rows))) =
      ap (λ (names : List NameFacts). most_changes (plan_of listing names)) old_names in
      omega (arith, full, bounded, long, void, plan)

  -- how the pass ended is how the scan does
  ends_by : (scope : Scope) (listing : List NameFacts) (hand later : T) (hands left : List T) (end : PassEnd) → HasMissedPath end
      → EndsPass s.world s.tells_files s.tells_tables shows (length (hand ∷ hands)) scope listing (s.sees hand) (s.sees later) old new end
      → Aided listing hands left
      → (IsTrue (is_unwalked end) → left ≡ hands) → EndsPassed s scope (hand ∷ hands) (later ∷ left) from into end
  ends_by scope listing hand later hands left (ended.Whole summary) path run helps idle =
      makes run helps (record {
        names = run.ends.complete.names;
        scan = run.ends.complete.scan;
        has = has_rows run.ends.sound;
        numbers = run.ends.numbers ∙ ap (λ names. summary_of (plan_of listing names) new.rows) old_names;
      })
  ends_by scope listing hand later hands left (ended.Missed miss) path run helps idle =
      makes run helps (record { path = path; tells = run.ends.tells; has = has_rows run.ends.sound })
  ends_by scope listing hand later hands left (ended.Walk fault) path ends helps idle =
      in_walk ends.same (ends.stops, others_stay (idle refl))
  ends_by scope listing hand later hands left ended.Broken path ends helps idle = absurd ends
  ends_by scope listing hand later hands left ended.KeeperFault path (inl run) helps idle = inl (makes run helps (may_have run.ends))
  ends_by scope listing hand later hands left ended.KeeperFault path (inr run) helps idle = inr (helped_on run helps (may_have run.ends))
  ends_by scope listing hand later hands left ended.LogFull path run helps idle =
      let since = holds.store_agrees_with_rows.since in
      let parts : new.log ≡ since.first ++ since.since = subst (λ b. lasting b new.log ≡ since.first ++ since.since) run.ends.sound since.parts in
      makes run helps (record {
        first = since.first;
        puts = since.puts;
        count =
            since.count ∙ ap (λ (o : Origin). o.puts) (run.leaves.origin ∙ run.helped.origin)
            ∙ ap (λ (st : StateFacts K). st.origin.puts) lent.opens.opened.value;
        names = holds.rows_replay_the_log.names ∙ ap replay parts;
        full = sym (ap (λ (log : List Change). length log) parts) ∙ run.ends.full;
        apart = λ names.
            run.ends.apart (names ∙ sym (ap (λ (p : Option PassFacts). (pass_or_none p).listing) run.leaves.is_open ∙ run.leaves.over));
        many = many_changes listing run.ends.full run.ends.sound run.bounded;
        has = has_rows run.ends.sound;
      })
  ends_by scope listing hand later hands left ended.OutOfMemory path (inl early) helps idle =
      inl (unbegun early.walk early.same early.walks
      (subst (λ (l : List NameFacts). Aided l hands left)
      (sym early.over) helps))
  ends_by scope listing hand later hands left ended.OutOfMemory path (inr (inl run)) helps idle =
      inr (inl (makes run helps (has_rows run.ends)))
  ends_by scope listing hand later hands left ended.OutOfMemory path (inr (inr run)) helps idle =
      inr (inr (helped_on run helps (has_rows run.ends)))

  -- the same of the hands in order
  pub ends_go : (scope : Scope) (listing : List NameFacts) (before after : List T) (end : PassEnd) → HasMissedPath end
      → HandsGo
      (λ hand later. EndsPass s.world s.tells_files s.tells_tables shows (length before) scope listing (s.sees hand) (s.sees later) old new end)
      (λ hand later. Helps s.tells_files s.world.version listing (row_names old.rows) (s.sees hand) (s.sees later)) before after
      → (IsTrue (is_unwalked end) → drop 1 after ≡ drop 1 before) → EndsPassed s scope before after from into end
  ends_go scope listing (hand ∷ hands) (later ∷ left) end path goes idle = ends_by scope listing hand later hands left end path goes.0 goes.1 idle
  ends_go scope listing _ _ end path goes idle = absurd goes

-- the end of a scan over an index that was opened on a keeper
pub ends_passed : {K T : Type 0} (s : Setting T) (shows : K → ShownKeeper) (scope : Scope) (before after : List T)
    {from mid into : ShownStore} {keeper given : K} {old : StateFacts K} (end : PassEnd)
    → Opens s.tells_tables shows keeper old → ScansIndex s shows scope before after old given end
    → HasAll s.tells_tables from (shows keeper)
    → TakesKeeperBack s.tells_tables (shows given) mid into → EndsPassed s scope before after from into end
ends_passed {K} s shows scope before after {mid = mid} {into = into} end opens scans has back =
    ends_go s
    (record { opens = opens; has = has; mid = mid; back = subst (λ (k : K). TakesKeeperBack s.tells_tables (shows k) mid into) scans.value back })
    scans.holds scope scans.pass.0 before after end scans.path scans.pass.1 scans.idle
