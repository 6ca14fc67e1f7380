-- The store of a scan, around the index that was opened on it or wasn't.
use Rattle.std.proofs.Common.{◌≡◌, ◌⊎◌, inl, inr, ℕ, ◌<◌, Bool, List, [], ◌∷◌, length, Option, Some, None, sym, refl, ◌∙◌, ap, subst, IsTrue, arith}
use Rattle.std.proofs.lemmas.Bool.{true≢false}
use Rattle.std.proofs.lemmas.List.{append-nil}
use Rattle.path_scope.specs.Scope.{Scope}
use Rattle.row_types.specs.Faults.{Rose, summed}
use Rattle.row_types.specs.Row.{RowFacts}
use Rattle.index_keeper.specs.Answers.{for_rows}
use Rattle.index_keeper.specs.Keeper.{AsksKeeper, AreTablesUntouched, ShownKeeper}
use Rattle.index_keeper.specs.Store.{HasAll, FailsToOpen, IsOpened, ShownStore, TakesKeeperBack, with_opened_path}
use Rattle.index_keeper.specs.Tables.{EditFacts, KeptFacts}
use Rattle.index_keeper.specs.declared.answer.KeepAnswer.{KeepAnswer}
use Rattle.index_keeper.specs.declared.answer.KeptAnswer.{KeptAnswer}
use Rattle.index_keeper.specs.declared.answer.KeptAnswer.TheVariants as kept
use Rattle.index_state.specs.Opening.{AreRows, GivesRows, LacksStrays, LeavesRows, RefusesOpening, RefusesOn, StopsSweeping, made_swept}
use Rattle.index_state.specs.declared.open_fault.OpenFault.{OpenFault}
use Rattle.index_state.specs.declared.open_fault.OpenFault.TheVariants as refusal
use Rattle.tree_trait.specs.Shown.{HandsOn}
use Rattle.pass_runner.specs.Owned.{HandsGo}
use Rattle.pass_runner.specs.declared.pass_end.PassEnd.{PassEnd}
use Rattle.pass_runner.specs.declared.pass_end.PassEnd.TheVariants as ended
use Rattle.dbgd_commands.specs.Kept.{AreFirstGiven, GivesValues, LacksFirst}
use Rattle.dbgd_commands.specs.Scan.{EndsScan, LoadsBy, OpensBy, RefusesBy, RefusesValues, Scans}
use Rattle.dbgd_commands.specs.ScanSaid.{is_first_hand_fault, is_store_fault}
use Rattle.dbgd_commands.specs.Stage.{Setting}
use Rattle.dbgd_commands.specs.declared.scan_end.ScanEnd.{ScanEnd}
use Rattle.dbgd_commands.specs.declared.scan_end.ScanEnd.TheVariants.{Refused, Passed}
use Rattle.dbgd_commands.proofs.HandLemmas.{hands_stay}
use Rattle.dbgd_commands.proofs.PassLemmas.{gave_all}

-- nothing was removed
pub none_swept : (made : Option (List EditFacts)) → made ≡ made_swept [] made
none_swept None = refl
none_swept (Some edits) = ap Some (sym (append-nil edits))

-- a keeper that gave its rows is as it was
untouched : {tells : Bool} (before after : ShownKeeper) (answer : KeptAnswer) → AsksKeeper tells before after (for_rows answer)
    → IsTrue tells → AreTablesUntouched before after
untouched before after (kept.All rows) asks told = (asks.tells told).stays
untouched before after kept.Failed asks told = asks.tells told
untouched before after kept.OutOfMemory asks told = asks.tells told

module _ {K : Type 0} (tells : Bool) (shows : K → ShownKeeper) {from mid into : ShownStore} {keeper given : K} (has : HasAll tells from (shows keeper)) (back : TakesKeeperBack tells (shows given) mid into) where
  -- the values that the keeper gave are those of the store
  given_by : {asked : K} {values : List KeptFacts} → GivesRows tells shows keeper asked values → GivesValues tells from values
  given_by {asked = asked} {values = values} gave = record {
    by_path = gave.by_path;
    tells = λ t. gave_all (shows keeper) (shows asked) gave.answer values gave.heard gave.gave t ∙ has.tables t;
  }

  -- the rows that were swept are the first of those that it gave
  first_given : {asked : K} {values : List KeptFacts} {answer : KeepAnswer} → GivesRows tells shows keeper asked values
      → (stopped : StopsSweeping tells shows values asked given answer) → AreFirstGiven tells from stopped.stops.front
  first_given {values = values} gave stopped = record {
    values = values;
    gave = given_by gave;
    last = stopped.stops.row ∷ stopped.stops.back;
    sound = subst (λ (rows : List RowFacts). AreRows rows values) stopped.stops.parts stopped.sound;
  }

  -- whatever is left lacks rows of other editions alone
  lacks : (removed : List RowFacts) → (removed ≡ []) ⊎ AreFirstGiven tells from removed → LeavesRows tells (shows keeper) (shows given)
      → (shows given).made ≡ made_swept removed (shows keeper).made → LacksFirst tells from into
  lacks removed front left made = record {
    tables = λ t.
        subst (λ tables. (into.tables ≡ tables) ⊎ LacksStrays tables into.tables) (has.tables t) (left t into.tables (back.image t));
    removed = removed;
    front = front;
    made = back.made ∙ made ∙ ap (made_swept removed) has.made;
  }

  -- the values that the keeper gave are no reason to change anything
  keeps : {Why : List KeptFacts → Type 0} {asked : K} {values : List KeptFacts} → GivesRows tells shows keeper asked values
      → Why values → given ≡ asked → RefusesValues tells from into Why
  keeps {asked = asked} {values = values} gave why same = record {
    values = values;
    gave = given_by gave;
    why = why;
    keeps = record {
      tables = λ t.
          (has.settled t).only into.tables
          (((untouched (shows keeper) (shows asked) gave.answer gave.heard t).left into.tables).0
          (subst (λ (k : K). (shows k).images into.tables) same (back.image t)))
          ∙ has.tables t;
      made = back.made ∙ ap (λ (k : K). (shows k).made) same ∙ gave.heard.grows ∙ has.made;
    };
  }

  -- why no index was opened
  pub refused_by : (fault : OpenFault) → RefusesOpening tells shows keeper fault given
      → LeavesRows tells (shows keeper) (shows given) → RefusesBy tells from into fault
  refused_by refusal.KeeperFault (inl none) left = lacks [] (inl refl) left (none.heard.grows ∙ none_swept (shows keeper).made)
  refused_by refusal.KeeperFault (inr rows) left =
      lacks rows.why.stops.front (inr (first_given rows.gave rows.why)) left
      (rows.why.stops.asked.grows ∙ rows.why.stops.swept.made ∙ ap (made_swept rows.why.stops.front) rows.gave.heard.grows)
  refused_by (refusal.BadRow kept fault) (inl none) left = absurd none.why
  refused_by (refusal.BadRow kept fault) (inr rows) left = keeps rows.gave rows.why.0 rows.why.1
  refused_by refusal.LogFull (inl none) left = absurd none.why
  refused_by refusal.LogFull (inr rows) left = keeps rows.gave rows.why.0 rows.why.1
  refused_by refusal.OutOfMemory (inl none) left = lacks [] (inl refl) left (none.heard.grows ∙ none_swept (shows keeper).made)
  refused_by refusal.OutOfMemory (inr rows) left = wanting rows.why
    where
      wanting : RefusesOn tells shows rows.values rows.asked refusal.OutOfMemory given → LacksFirst tells from into
      wanting (inl same) =
          lacks [] (inl refl) left
          (ap (λ (k : K). (shows k).made) same ∙ rows.gave.heard.grows ∙ none_swept (shows keeper).made)
      wanting (inr stopped) =
          lacks stopped.stops.front (inr (first_given rows.gave stopped)) left
          (stopped.stops.asked.grows ∙ stopped.stops.swept.made ∙ ap (made_swept stopped.stops.front) rows.gave.heard.grows)

-- a fault of a keeper is one of its store once it is given back
pub rose_given : {old mid new keeper given : ℕ} → mid ≡ old → keeper ≡ 0 → Rose keeper given
    → new ≡ summed mid given → Rose old new
rose_given same none rose sum = omega arith

pub rose_counted : {old mid new given : ℕ} → mid ≡ old → 0 < given → new ≡ summed mid given → Rose old new
rose_counted same some sum = omega arith

-- a count that rose isn't 0
pub rose_some : (a b : ℕ) → Rose a b → 0 < b
rose_some a b rose = omega (arith, rose)

-- by which ends the store failed
pub passed_fault : (end : PassEnd) → IsTrue (is_store_fault (Passed end)) → end ≡ ended.KeeperFault
passed_fault ended.KeeperFault h = refl
passed_fault (ended.Whole summary) h = absurd (true≢false (sym h))
passed_fault (ended.Missed miss) h = absurd (true≢false (sym h))
passed_fault (ended.Walk fault) h = absurd (true≢false (sym h))
passed_fault ended.Broken h = absurd (true≢false (sym h))
passed_fault ended.LogFull h = absurd (true≢false (sym h))
passed_fault ended.OutOfMemory h = absurd (true≢false (sym h))

pub refused_fault : (fault : OpenFault) → IsTrue (is_store_fault (Refused fault)) → fault ≡ refusal.KeeperFault
refused_fault refusal.KeeperFault h = refl
refused_fault (refusal.BadRow kept fault) h = absurd (true≢false (sym h))
refused_fault refusal.LogFull h = absurd (true≢false (sym h))
refused_fault refusal.OutOfMemory h = absurd (true≢false (sym h))

-- the store was opened by the path
pub opens_once : (path : List ℕ) (old new : ShownStore) (end : ScanEnd) → new.paths ≡ with_opened_path path old.paths
    → OpensBy path old new end
opens_once path old new (Refused refusal.OutOfMemory) h = inr h
opens_once path old new (Refused refusal.KeeperFault) h = h
opens_once path old new (Refused (refusal.BadRow kept fault)) h = h
opens_once path old new (Refused refusal.LogFull) h = h
opens_once path old new (Passed end) h = h

module _ {T : Type 0} (s : Setting T) (path : List ℕ) {scope : Scope} where
  -- memory was refused before the store was opened
  pub scans_wanting : {hands : List T} {old new : ShownStore} → 0 < length hands → new ≡ old
      → Scans s path scope hands hands old new (Refused refusal.OutOfMemory)
  scans_wanting {hands} {old} {new} some same = record {
    ends = record {
      hands = refl;
      store = record {
        tables = λ t. inl (ap (λ (o : ShownStore). o.tables) same);
        removed = [];
        front = inl refl;
        made = ap (λ (o : ShownStore). o.made) same ∙ none_swept old.made;
      };
    };
    loads = tt;
    hands = hands_stay s.tells_files s.world.version s.sees hands some (λ e. absurd (cc));
    store = record { later = let a = ap (λ (o : ShownStore). o.faults) same in omega arith; rose = λ e. absurd (cc) };
    later = let a = ap (λ (o : ShownStore). o.epoch) same in omega arith;
    opened = λ e. absurd (cc);
    opens = inl (ap (λ (o : ShownStore). o.paths) same);
  }

  -- the store failed to be opened
  pub scans_closed : {hands : List T} {old new : ShownStore} → 0 < length hands → FailsToOpen s.tells_tables path old new
      → Scans s path scope hands hands old new (Refused refusal.KeeperFault)
  scans_closed {hands} {old} some closed = record {
    ends = record {
      hands = refl;
      store = record { tables = λ t. inl (closed.tables t); removed = []; front = inl refl; made = closed.made ∙ none_swept old.made };
    };
    loads = tt;
    hands = hands_stay s.tells_files s.world.version s.sees hands some (λ e. absurd (cc));
    store = record { later = closed.faults; rose = λ _. closed.cause };
    later = closed.later;
    opened = λ e. absurd (cc);
    opens = closed.paths;
  }

  -- the store was opened, and had its keeper back in the end
  pub scans_opened : {before after : List T} {old mid new : ShownStore} {keeper given : ShownKeeper} (end : ScanEnd)
      → IsOpened s.tells_tables path old mid keeper → TakesKeeperBack s.tells_tables given mid new
      → EndsScan s scope before after old new end
      → HandsGo (λ hand later. HandsOn s.tells_files s.world.version (s.sees hand) (s.sees later) ⊥ (IsTrue (is_first_hand_fault end)))
      (λ hand later. HandsOn s.tells_files s.world.version (s.sees hand) (s.sees later) ⊥ ⊥) before after
      → LoadsBy s.sees before after end → (IsTrue (is_store_fault end) → 0 < given.faults)
      → Scans s path scope before after old new end
  scans_opened {old = old} {new = new} end opened back ends hands loads counted = record {
    ends = ends;
    loads = loads;
    hands = hands;
    store = record {
      later = let a = opened.faults in let b = back.later in omega arith;
      rose = λ fails. rose_counted opened.faults (counted fails) back.counted;
    };
    later = let a = opened.later in let b = back.number in omega arith;
    opened = λ _. let a = opened.rises in let b = back.number in omega arith;
    opens = opens_once path old new end (back.paths ∙ opened.paths);
  }
