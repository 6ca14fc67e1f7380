-- What becomes of a name that was handed out.
use Rattle.std.proofs.Common.{◌≡◌, ◌≢◌, ℕ, ◌≤◌, Bool, true, false, List, [], ◌∷◌, Option, Some, None, refl, sym, ◌∙◌, ap, subst, arith}
use Rattle.std.specs.List.{All, Contains}
use Rattle.std.specs.Bool.{OnTrue, OnFalse}
use Rattle.std.proofs.lemmas.Bool.{OnTrue_at, OnFalse_at, true≢false}
use Rattle.std.proofs.lemmas.List.Elements.{All-contains_itself, All-head, All-nil, All-tail, All-weaker}
use Rattle.row_types.specs.Faults.{Rose}
use Rattle.row_types.specs.Name.{NameFacts}
use Rattle.row_types.specs.Row.{RowFacts}
use Rattle.index_keeper.specs.Keeper.{ShownKeeper}
use Rattle.index_rows.specs.Log.{drop_of, put_of}
use Rattle.index_rows.specs.Rows.{row_names}
use Rattle.scan_queue.specs.Names.{IsByPath, is_in}
use Rattle.scan_queue.specs.declared.miss.Cause.{Cause}
use Rattle.scan_queue.specs.declared.miss.Cause.TheVariants.{ReadFault, Altered, Appeared}
use Rattle.scan_queue.specs.declared.miss.Seen.{Seen}
use Rattle.scan_queue.specs.declared.miss.Seen.TheVariants as seen
use Rattle.index_state.specs.Away.{MissesOut}
use Rattle.index_state.specs.Invariant.{IndexInvariant}
use Rattle.index_state.specs.Judge.{is_name_kept}
use Rattle.index_state.specs.Marks.{is_marked}
use Rattle.index_state.specs.State.{StateFacts, pass_or_none}
use Rattle.index_state.specs.Step.{IsAwaited, Judges}
use Rattle.index_state.specs.declared.answer.Judged.{Judged}
use Rattle.index_state.specs.declared.answer.Judged.TheVariants as judged
use Rattle.scan_worker.specs.Read.{FindsOther, ReadsListed, ReadsName, heard_opening, heard_reading}
use Rattle.scan_worker.specs.declared.read.NameRead.TheVariants as given
use Rattle.index_desk.specs.declared.work_end.WorkEnd.{WorkEnd}
use Rattle.index_desk.specs.declared.work_end.WorkEnd.TheVariants.{KeeperFault, LogFull, OutOfMemory}
use Rattle.tree_trait.specs.Asks.{AsksTree}
use Rattle.tree_trait.specs.Fills.{IsReadOfFile}
use Rattle.tree_trait.specs.Found.{Versions}
use Rattle.tree_trait.specs.Heard.{Heard, load, stat, read_dir, open_file, read_at, wants_memory}
use Rattle.tree_trait.specs.Listens.{Listens, heard_or_none}
use Rattle.tree_trait.specs.Open.{OpenFacts, was_opened, was_too_large, open_gone}
use Rattle.tree_trait.specs.Shown.{ShownTree}
use Rattle.tree_trait.specs.declared.stat.StatAnswer.{StatAnswer}
use Rattle.tree_trait.specs.declared.stat.StatAnswer.TheVariants as said
use Rattle.pass_runner.specs.Ends.{IsOutOfRoom, TurnsBy}
use Rattle.pass_runner.specs.Settled.{AreReadingsAndLooks, none_heard, one_look, Advances, AlteredAreMissed, HadNoRow, IsBacked, IsPassOn, IsReadOf, MayBeAsked, Wants, is_missed, times_loaded, times_named}
use Rattle.pass_runner.specs.Turns.{AppearsBy, HasSeenFile, IsLookAmong, JudgesLeft, LooksForFile, LooksTo, PublishesNew, TurnsOver, after_judged}
use Rattle.groomer.specs.Looks.{LooksAtName, looked_of}
use Rattle.groomer.specs.declared.looking.Looked.{Looked}
use Rattle.groomer.specs.declared.looking.Looked.TheVariants as looked
use Rattle.pass_runner.proofs.Altered.{altered_by, failed_same, missed_self, read_same, unaltered_by, unaltered_looks, wanting_same}
use Rattle.pass_runner.proofs.Appearing.{appears_same, dropped_stand, left_none, left_stand, missed_none, missed_stand}
use Rattle.pass_runner.proofs.Bounding.{bounded_void}
use Rattle.pass_runner.proofs.Loads.{loads_heard, loads_looks}
use Rattle.pass_runner.proofs.ReadsHeard.{all_reading, opening_heard, readings_of}
use Rattle.tree_trait.proofs.ListenLemmas.{all_heard, is_heard, listens_none, listens_one}
use Rattle.pass_runner.proofs.NameLists.{stamp_listed}
use Rattle.pass_runner.proofs.Composed.{settles_by}
use Rattle.pass_runner.proofs.Steps.{kept_listed, kept_on, left_over_pass, listed_open, listing_by_path, missed_on, missed_over, moved_on, out_open, removed_on, same_on, seen_there, stored_on}

-- where a name is in the one list and not in the other, they differ
apart_by : (names listing : List NameFacts) (name : NameFacts) (a b : Bool) → (a ≡ b → ⊥) → is_in names name ≡ a
    → is_in listing name ≡ b → names ≢ listing
apart_by names listing name a b differs p q same = differs (sym p ∙ ap (λ (l : List NameFacts). is_in l name) same ∙ q)

false≢true : false ≡ true → ⊥
false≢true e = true≢false (sym e)

module _ {K : Type 0} (tells : Bool) (shows : K → ShownKeeper) (old new : StateFacts K) where
  -- where a row is published
  published_on : {F : Type 0} {true_row : RowFacts → Type 0} {answers : List Heard} (row : RowFacts) (end : Option WorkEnd) → IndexInvariant true_row tells shows old
      → is_in (pass_or_none old.pass).out row.name ≡ true → IsReadOf answers row → IsAwaited row.name old → PublishesNew tells shows row old new end
      → Advances shows answers F old new
  published_on row None holds out read awaited h = stored_on holds out read h
  published_on row (Some KeeperFault) holds out read awaited h =
      same_on (listed_open old.pass row.name awaited.listed) h.keeper.asked.cause.later
      (ap (λ (s : StateFacts K). s.pass) h.after) (ap (λ (s : StateFacts K). s.rows) h.after)
      (ap (λ (s : StateFacts K). s.origin) h.after)
      (bounded_void old new (pass_or_none old.pass).listing (drop_of row.name) h.can.sound (ap (λ (s : StateFacts K). s.log) h.after)
      (ap (λ (s : StateFacts K). s.rows) h.after) (ap (λ (s : StateFacts K). s.broken) h.after))
  published_on row (Some LogFull) holds out read awaited h =
      kept_on {keeper = old.keeper} (listed_open old.pass row.name awaited.listed)
      (let e = ap (λ (s : StateFacts K). (shows s.keeper).faults) h.same in omega (arith, e)) h.same
  published_on row (Some OutOfMemory) holds out read awaited h =
      kept_on (listed_open old.pass row.name awaited.listed) (let e = h.keeper.faultless in omega (arith, e)) h.same
  published_on row (Some _) holds out read awaited h = absurd h

  published_ends : (row : RowFacts) (end : Option WorkEnd) → old.broken ≡ false → IsAwaited row.name old
      → PublishesNew tells shows row old new end → TurnsBy row.name old new end
  published_ends row None sound awaited h =
      left_over_pass (listed_open old.pass row.name awaited.listed) (ap (λ (s : StateFacts K). s.broken) h.after ∙ sound)
      (ap (λ (s : StateFacts K). s.pass) h.after)
  published_ends row (Some KeeperFault) sound awaited h = ap (λ (s : StateFacts K). s.broken) h.after
  published_ends row (Some LogFull) sound awaited h =
      subst (λ (s : StateFacts K). IsOutOfRoom s) (sym h.same) (record {
        sound = sound;
        full = h.why.full;
        apart = apart_by (row_names old.rows) (pass_or_none old.pass).listing row.name false true false≢true awaited.absent awaited.listed;
      })
  published_ends row (Some OutOfMemory) sound awaited h = ap (λ (s : StateFacts K). s.broken) h.same ∙ sound
  published_ends row (Some _) sound awaited h = absurd h

  published_appears : (name : NameFacts) (row : RowFacts) (end : Option WorkEnd) → PublishesNew tells shows row old new end
      → AppearsBy (name ∷ []) old new
  published_appears name row None h = λ none. left_none old new row.name (ap (λ (s : StateFacts K). s.pass) h.after) none
  published_appears name row (Some KeeperFault) h =
      appears_same old new (name ∷ []) (ap (λ (s : StateFacts K). (pass_or_none s.pass).missed) h.after) (ap (λ (s : StateFacts K). s.rows) h.after)
  published_appears name row (Some LogFull) h =
      appears_same old new (name ∷ []) (ap (λ (s : StateFacts K). (pass_or_none s.pass).missed) h.same) (ap (λ (s : StateFacts K). s.rows) h.same)
  published_appears name row (Some OutOfMemory) h =
      appears_same old new (name ∷ []) (ap (λ (s : StateFacts K). (pass_or_none s.pass).missed) h.same) (ap (λ (s : StateFacts K). s.rows) h.same)
  published_appears name row (Some _) h = absurd h

  published_cause : (row : RowFacts) (end : Option WorkEnd) → PublishesNew tells shows row old new end
      → end ≡ Some KeeperFault → Rose (shows old.keeper).faults (shows new.keeper).faults
  published_cause row None h is = absurd (cc)
  published_cause row (Some KeeperFault) h is = h.keeper.asked.cause.rose refl
  published_cause row (Some LogFull) h is = absurd (cc)
  published_cause row (Some OutOfMemory) h is = absurd (cc)
  published_cause row (Some _) h is = absurd h

  -- where a name that isn't listed is judged
  module _ (name : NameFacts) (met : Seen) (sound : old.broken ≡ false) (unlisted : is_name_kept old.pass name ≡ false) (out : is_in (pass_or_none old.pass).out name ≡ true) where
    judged_on : {F : Type 0} {true_row : RowFacts → Type 0} {answers : List Heard} (answer : Judged) → IndexInvariant true_row tells shows old
        → (is_marked old.pass name.path ≡ true → HasSeenFile answers name met)
        → Judges tells shows name met old answer new → Advances shows answers F old new
    judged_on judged.Broken holds sees h = absurd (true≢false (sym h.why ∙ sound))
    judged_on judged.Kept holds sees h = absurd (true≢false (sym h.why.kept ∙ unlisted))
    judged_on (judged.Moved now) holds sees h =
        moved_on name (kept_listed old.pass name unlisted) (out_open old.pass name out) h.after
    judged_on judged.Strange holds sees h =
        missed_on {cause = Appeared} h.was_out (out_open old.pass name out) h.missed
        (record {
          seen = record { unlisted = kept_listed old.pass name unlisted; heard = seen_there (is_marked old.pass) sees h.strange.strange };
          row = h.strange.left_over.stands;
        })
    judged_on judged.LogFull holds sees h =
        kept_on {keeper = old.keeper} (out_open old.pass name out)
        (let e = ap (λ (s : StateFacts K). (shows s.keeper).faults) h.drops.same in omega (arith, e)) h.drops.same
    judged_on judged.OutOfMemory holds sees h =
        kept_on (out_open old.pass name out) (let e = h.drops.keeper.faultless in omega (arith, e)) h.drops.same
    judged_on judged.KeeperFault holds sees h =
        same_on (out_open old.pass name out) h.drops.keeper.cause.later
        (ap (λ (s : StateFacts K). s.pass) h.drops.after) (ap (λ (s : StateFacts K). s.rows) h.drops.after)
        (ap (λ (s : StateFacts K). s.origin) h.drops.after)
        (bounded_void old new (pass_or_none old.pass).listing (put_of name) sound (ap (λ (s : StateFacts K). s.log) h.drops.after)
        (ap (λ (s : StateFacts K). s.rows) h.drops.after) (ap (λ (s : StateFacts K). s.broken) h.drops.after))
    judged_on judged.Dropped holds sees h = removed_on holds (out_open old.pass name out) sees h.gone h.drops

    judged_ends : (answer : Judged) → Judges tells shows name met old answer new → TurnsBy name old new (after_judged answer)
    judged_ends judged.Broken h = absurd (true≢false (sym h.why ∙ sound))
    judged_ends judged.Kept h = absurd (true≢false (sym h.why.kept ∙ unlisted))
    judged_ends (judged.Moved now) h =
        left_over_pass (out_open old.pass name out) (ap (λ (s : StateFacts K). s.broken) h.after ∙ sound)
        (ap (λ (s : StateFacts K). s.pass) h.after)
    judged_ends judged.Strange h = missed_over h.was_out out sound h.missed
    judged_ends judged.LogFull h =
        subst (λ (s : StateFacts K). IsOutOfRoom s) (sym h.drops.same) (record {
          sound = sound;
          full = h.drops.why.full;
          apart =
              apart_by (row_names old.rows) (pass_or_none old.pass).listing name true false true≢false h.gone.left_over.stands
              (kept_listed old.pass name unlisted);
        })
    judged_ends judged.OutOfMemory h = ap (λ (s : StateFacts K). s.broken) h.drops.same ∙ sound
    judged_ends judged.KeeperFault h = ap (λ (s : StateFacts K). s.broken) h.drops.after
    judged_ends judged.Dropped h =
        left_over_pass (out_open old.pass name out) (ap (λ (s : StateFacts K). s.broken) h.drops.after ∙ sound)
        (ap (λ (s : StateFacts K). s.pass) h.drops.after)

    judged_appears : {true_row : RowFacts → Type 0} (answer : Judged) → IndexInvariant true_row tells shows old
        → Judges tells shows name met old answer new → AppearsBy [] old new
    judged_appears judged.Broken holds h = absurd (true≢false (sym h.why ∙ sound))
    judged_appears judged.Kept holds h = absurd (true≢false (sym h.why.kept ∙ unlisted))
    judged_appears (judged.Moved now) holds h = λ stood.
        left_stand old new name (ap (λ (s : StateFacts K). s.pass) h.after) (ap (λ (s : StateFacts K). s.rows) h.after) stood
    judged_appears judged.Strange holds h = λ stood.
        missed_stand old new {cause = Appeared} h.was_out (λ is. h.strange.left_over.stands) h.missed stood
    judged_appears judged.LogFull holds h =
        appears_same old new [] (ap (λ (s : StateFacts K). (pass_or_none s.pass).missed) h.drops.same) (ap (λ (s : StateFacts K). s.rows) h.drops.same)
    judged_appears judged.OutOfMemory holds h =
        appears_same old new [] (ap (λ (s : StateFacts K). (pass_or_none s.pass).missed) h.drops.same) (ap (λ (s : StateFacts K). s.rows) h.drops.same)
    judged_appears judged.KeeperFault holds h =
        appears_same old new [] (ap (λ (s : StateFacts K). (pass_or_none s.pass).missed) h.drops.after) (ap (λ (s : StateFacts K). s.rows) h.drops.after)
    judged_appears judged.Dropped holds h = λ stood.
        dropped_stand old new name holds.rows_sorted_and_true.ascend h.gone.left_over.stands (ap (λ (s : StateFacts K). s.pass) h.drops.after)
        (ap (λ (s : StateFacts K). s.rows) h.drops.after) stood

    judged_cause : (answer : Judged) → Judges tells shows name met old answer new → after_judged answer ≡ Some KeeperFault
        → Rose (shows old.keeper).faults (shows new.keeper).faults
    judged_cause judged.KeeperFault h is = h.drops.keeper.cause.rose refl
    judged_cause judged.Broken h is = absurd (cc)
    judged_cause judged.Kept h is = absurd (cc)
    judged_cause (judged.Moved now) h is = absurd (cc)
    judged_cause judged.Strange h is = absurd (cc)
    judged_cause judged.LogFull h is = absurd (cc)
    judged_cause judged.OutOfMemory h is = absurd (cc)
    judged_cause judged.Dropped h is = absurd (cc)

-- looks at paths that may be looked at may be asked
wanted_looks : (listing : List NameFacts) (looks : List ℕ → Bool) (names : List NameFacts) (answers : List Heard)
    → All (IsLookAmong looks) answers → All (MayBeAsked listing looks names) answers
wanted_looks listing looks names answers asked =
    All-weaker (IsLookAmong looks) (MayBeAsked listing looks names) each answers asked
  where
    each : (asked : Heard) → IsLookAmong looks asked → MayBeAsked listing looks names asked
    each (stat path answer) h = h
    each (load path limit answer) h = absurd h
    each (read_dir path answer) h = absurd h
    each (open_file path limit answer) h = absurd h
    each (read_at name at answer) h = absurd h

-- and are looks
readings_looks : (looks : List ℕ → Bool) (answers : List Heard) → All (IsLookAmong looks) answers
    → AreReadingsAndLooks looks answers
readings_looks looks [] asked = none_heard
readings_looks looks (stat path answer ∷ more) asked =
    one_look path answer more (stat path answer ∷ more) (All-head (IsLookAmong looks) (stat path answer) more asked) refl
    (readings_looks looks more (All-tail (IsLookAmong looks) (stat path answer) more asked))
readings_looks looks (load path limit answer ∷ more) asked =
    absurd (All-head (IsLookAmong looks) (load path limit answer) more asked)
readings_looks looks (read_dir path answer ∷ more) asked =
    absurd (All-head (IsLookAmong looks) (read_dir path answer) more asked)
readings_looks looks (open_file path limit answer ∷ more) asked =
    absurd (All-head (IsLookAmong looks) (open_file path limit answer) more asked)
readings_looks looks (read_at name at answer ∷ more) asked =
    absurd (All-head (IsLookAmong looks) (read_at name at answer) more asked)

-- and load nothing
unloaded : (looks : List ℕ → Bool) (answers : List Heard) → All (IsLookAmong looks) answers → (path : List ℕ)
    → times_loaded answers path ≤ times_named [] path
unloaded looks answers asked path = let none = loads_looks looks answers path asked in omega (arith, none)

-- a name is awaited in a listing by path
awaited_by_path : {K : Type 0} {true_row : RowFacts → Type 0} {tells : Bool} {shows : K → ShownKeeper} {state : StateFacts K} {name : NameFacts}
    → IndexInvariant true_row tells shows state → IsAwaited name state → IsByPath (pass_or_none state.pass).listing
awaited_by_path {state = state} {name = name} holds awaited =
    listing_by_path state.pass holds.each_name_in_one_place (listed_open state.pass name awaited.listed)

-- a name that is awaited may be opened and read
had_none : {K : Type 0} {true_row : RowFacts → Type 0} {tells : Bool} {shows : K → ShownKeeper} {state : StateFacts K}
    (name : NameFacts) → IndexInvariant true_row tells shows state → IsAwaited name state
    → HadNoRow (pass_or_none state.pass).listing (row_names state.rows) name.path
had_none {state = state} name holds awaited = record {
  stamp = name.stamp;
  listed = stamp_listed name (pass_or_none state.pass).listing (awaited_by_path holds awaited) awaited.listed;
  absent = awaited.absent;
}

wanted_read : {K : Type 0} (state : StateFacts K) (name : NameFacts)
    → HadNoRow (pass_or_none state.pass).listing (row_names state.rows) name.path
    → (asked : Heard) → IsReadOfFile name asked → Wants state asked
wanted_read state name had (read_at other at answer) own =
    subst (λ (n : NameFacts). HadNoRow (pass_or_none state.pass).listing (row_names state.rows) n.path) (sym own) had
wanted_read state name had (load path limit answer) own = absurd own
wanted_read state name had (stat path answer) own = absurd own
wanted_read state name had (read_dir path answer) own = absurd own
wanted_read state name had (open_file path limit answer) own = absurd own

wanted_reading : {K : Type 0} {true_row : RowFacts → Type 0} {tells : Bool} {shows : K → ShownKeeper} {state : StateFacts K}
    (name : NameFacts) (answer : OpenFacts) (reads : List Heard) → All (IsReadOfFile name) reads
    → IndexInvariant true_row tells shows state → IsAwaited name state
    → All (Wants state) (heard_reading name answer reads)
wanted_reading {state = state} name answer reads own holds awaited =
    let had = had_none name holds awaited in
    all_reading name answer reads (Wants state) (refl, had) (wanted_read state name had) own

-- a row that was read has the listed name
read_named : (name : NameFacts) (answer : OpenFacts) (reads : List Heard) (row : RowFacts) → ReadsListed name answer reads row
    → row.name ≡ name
read_named name (was_opened stamp) reads row h = (h.1.is h.1.bytes h.1.has).named
read_named name (was_too_large stamp) reads row h = ap (λ (r : RowFacts). r.name) h.1
read_named name _ reads row h = absurd h

-- and the name of the row is awaited, where that name is
pub reads_awaited : {K : Type 0} {state : StateFacts K} {name : NameFacts} (row : RowFacts) (answer : OpenFacts)
    (reads : List Heard) → ReadsListed name answer reads row → IsAwaited name state → IsAwaited row.name state
reads_awaited {state = state} {name = name} row answer reads says awaited =
    subst (λ (n : NameFacts). IsAwaited n state) (sym (read_named name answer reads row says)) awaited

-- an opening that found another file wasn't refused memory
pub other_heard : (name : NameFacts) (answer : OpenFacts) (met : Seen) → FindsOther name answer met
    → wants_memory (heard_opening name answer) ≡ false
other_heard name (was_opened stamp) met h = refl
other_heard name (was_too_large stamp) met h = refl
other_heard name open_gone met h = refl
other_heard name _ met h = absurd h

-- what the row says is what was read
read_of : (name : NameFacts) (answer : OpenFacts) (reads : List Heard) (row : RowFacts) → ReadsListed name answer reads row
    → row.name ≡ name → IsReadOf (heard_reading name answer reads) row
read_of name answer reads row says named = record {
  answer = answer;
  reads = reads;
  heard =
      subst (λ (n : NameFacts). All (Contains (heard_reading name answer reads)) (heard_reading n answer reads)) (sym named)
      (All-contains_itself (heard_reading name answer reads));
  says = subst (λ (n : NameFacts). ReadsListed n answer reads row) (sym named) says;
}

module _ {K : Type 0} {told : Bool} {version : Versions} {shows : K → ShownKeeper}
    {before after : ShownTree} {old new : StateFacts K} {name : NameFacts} where
  -- the file was read, and its row is published
  pub turns_read : {W : Type 0} {true_row : RowFacts → Type 0} {tells : Bool} (row : RowFacts) {end : Option WorkEnd}
      → IndexInvariant true_row tells shows old → old.broken ≡ false → IsAwaited name old
      → is_in (pass_or_none old.pass).out name ≡ true → ReadsName {W = W} told version name before after (given.Row row)
      → PublishesNew tells shows row old new end → TurnsOver told version shows (name ∷ []) name before after old new end
  turns_read {tells = tells} row {end = end} holds sound awaited out does h =
      let named : row.name ≡ name = read_named name does.answer does.reads row does.leads.0 in
      let waits : IsAwaited row.name old = subst (λ (n : NameFacts). IsAwaited n old) (sym named) awaited in
      let on : Advances shows (heard_reading name does.answer does.reads) (Rose before.faults after.faults) old new
      = published_on tells shows old new row end holds (subst (λ (n : NameFacts). is_in (pass_or_none old.pass).out n ≡ true) (sym named) out)
      (read_of name does.answer does.reads row does.leads.0 named) waits h in
      record {
        settles =
            settles_by does.listens (wanted_reading name does.answer does.reads does.own holds awaited) (readings_of name does)
            (unaltered_by (pass_or_none old.pass).listing name does.answer does.reads does.own (awaited_by_path holds awaited)
            awaited.listed new (read_same name does.answer does.reads row does.leads.0)) on;
        loads = loads_heard name does.answer does.reads does.own;
        ends = subst (λ (n : NameFacts). TurnsBy n old new end) named (published_ends tells shows old new row end sound waits h);
        appears = published_appears tells shows old new name row end h;
        keeper = record { later = on.keeper; rose = published_cause tells shows old new row end h };
      }

  -- it was missed
  missed_so : {cause : Cause} {answers : List Heard} (reads : List NameFacts) (was_out : Bool) → old.broken ≡ false
      → is_in (pass_or_none old.pass).out name ≡ true → Listens told version before after answers
      → All (Wants old) answers
      → AreReadingsAndLooks (is_marked old.pass) answers
      → IsBacked (pass_or_none old.pass).listing (row_names old.rows) answers (Rose before.faults after.faults) name cause
      → (is_missed new name ≡ true → AlteredAreMissed (pass_or_none old.pass).listing answers new) → ((path : List ℕ) → times_loaded answers path ≤ times_named reads path) → MissesOut name cause old was_out new
      → AppearsBy reads old new → TurnsOver told version shows reads name before after old new None
  missed_so {answers = answers} reads was_out sound out listens wanted parts why altered loads misses appears =
      let on : Advances shows answers (Rose before.faults after.faults) old new
      = missed_on was_out (out_open old.pass name out) misses why in
      record {
        settles = settles_by listens wanted parts (altered (missed_self was_out out misses)) on;
        loads = loads;
        ends = missed_over was_out out sound misses;
        appears = appears;
        keeper = record { later = on.keeper; rose = λ is. absurd (cc) };
      }

  -- another file stood there
  pub turns_altered : {W : Type 0} {true_row : RowFacts → Type 0} {tells : Bool} {met : Seen} (was_out : Bool)
      → IndexInvariant true_row tells shows old → old.broken ≡ false → IsAwaited name old
      → is_in (pass_or_none old.pass).out name ≡ true → ReadsName {W = W} told version name before after (given.Altered met)
      → MissesOut name (Altered met) old was_out new → TurnsOver told version shows (name ∷ []) name before after old new None
  turns_altered {met = met} was_out holds sound awaited out does misses =
      missed_so {cause = Altered met} (name ∷ []) was_out sound out does.listens
      (wanted_reading name does.answer does.reads does.own holds awaited) (readings_of name does)
      (record {
        listed = awaited.listed;
        answer = does.answer;
        heard = opening_heard name does.answer does.reads (other_heard name does.answer met does.leads.0);
        other = does.leads.0;
      })
      (altered_by (pass_or_none old.pass).listing name does.answer does.reads does.own (awaited_by_path holds awaited) awaited.listed new)
      (loads_heard name does.answer does.reads does.own) misses
      (λ none. missed_none old new {cause = Altered met} was_out (λ is. cc) misses none)

  -- the opening or a read failed
  pub turns_unread : {W : Type 0} {true_row : RowFacts → Type 0} {tells : Bool} (was_out : Bool)
      → IndexInvariant true_row tells shows old → old.broken ≡ false → IsAwaited name old
      → is_in (pass_or_none old.pass).out name ≡ true → ReadsName {W = W} told version name before after given.Failed
      → MissesOut name ReadFault old was_out new → TurnsOver told version shows (name ∷ []) name before after old new None
  turns_unread was_out holds sound awaited out does misses =
      missed_so {cause = ReadFault} (name ∷ []) was_out sound out does.listens
      (wanted_reading name does.answer does.reads does.own holds awaited) (readings_of name does) (does.hands.cause.rose refl)
      (λ missed. unaltered_by (pass_or_none old.pass).listing name does.answer does.reads does.own (awaited_by_path holds awaited)
      awaited.listed new (failed_same name does.answer does.reads does.leads))
      (loads_heard name does.answer does.reads does.own) misses
      (λ none. missed_none old new {cause = ReadFault} was_out (λ is. cc) misses none)

  -- the look failed
  pub turns_unseen : (was_out : Bool) → old.broken ≡ false → is_in (pass_or_none old.pass).out name ≡ true
      → LooksForFile told version (is_marked old.pass) name before after looked.Failed → MissesOut name ReadFault old was_out new
      → TurnsOver told version shows [] name before after old new None
  turns_unseen was_out sound out looks misses =
      missed_so {cause = ReadFault} [] was_out sound out looks.listens (wanted_looks (pass_or_none old.pass).listing (is_marked old.pass) (row_names old.rows) looks.answers looks.asked) (readings_looks (is_marked old.pass) looks.answers looks.asked) looks.leads
      (λ missed. unaltered_looks (pass_or_none old.pass).listing (is_marked old.pass) looks.answers new looks.asked)
      (unloaded (is_marked old.pass) looks.answers looks.asked) misses
      (λ stood. missed_stand old new {cause = ReadFault} was_out (λ is. absurd (cc)) misses stood)

  -- and the row is judged by what was seen
  pub turns_judged : {true_row : RowFacts → Type 0} {tells : Bool} {met : Seen} {end : Option WorkEnd} → IndexInvariant true_row tells shows old → old.broken ≡ false
      → is_name_kept old.pass name ≡ false → is_in (pass_or_none old.pass).out name ≡ true
      → LooksForFile told version (is_marked old.pass) name before after (looked.Saw met) → JudgesLeft tells shows name met old new end
      → TurnsOver told version shows [] name before after old new end
  turns_judged {tells = tells} {met = met} {end = end} holds sound unlisted out looks h =
      let on : Advances shows looks.answers (Rose before.faults after.faults) old new
      = judged_on tells shows old new name met sound unlisted out h.answer holds looks.leads h.judged in
      record {
        settles =
            settles_by looks.listens (wanted_looks (pass_or_none old.pass).listing (is_marked old.pass) (row_names old.rows) looks.answers looks.asked) (readings_looks (is_marked old.pass) looks.answers looks.asked)
            (unaltered_looks (pass_or_none old.pass).listing (is_marked old.pass) looks.answers new looks.asked) on;
        loads = unloaded (is_marked old.pass) looks.answers looks.asked;
        ends = subst (λ (e : Option WorkEnd). TurnsBy name old new e) (sym h.ends) (judged_ends tells shows old new name met sound unlisted out h.answer h.judged);
        appears = judged_appears tells shows old new name met sound unlisted out h.answer holds h.judged;
        keeper = record {
          later = on.keeper;
          rose = λ is. judged_cause tells shows old new name met sound unlisted out h.answer h.judged (sym h.ends ∙ is);
        };
      }

module _ {K : Type 0} {told : Bool} {version : Versions} {shows : K → ShownKeeper} {before after : ShownTree} {state : StateFacts K} {name : NameFacts} where
  wanting : {answers : List Heard} (reads : List NameFacts) → IsPassOn state.pass state.pass → state.broken ≡ false → Listens told version before after answers
      → All (Wants state) answers
      → AreReadingsAndLooks (is_marked state.pass) answers
      → AlteredAreMissed (pass_or_none state.pass).listing answers state
      → ((path : List ℕ) → times_loaded answers path ≤ times_named reads path)
      → TurnsOver told version shows reads name before after state state (Some OutOfMemory)
  wanting reads opened sound listens wanted parts altered loads = record {
    settles = settles_by listens wanted parts altered (same_on opened (omega arith) refl refl refl (omega arith));
    loads = loads;
    ends = sound;
    appears = appears_same state state reads refl refl;
    keeper = record { later = omega arith; rose = λ is. absurd (cc) };
  }

  -- memory was refused for the opening, for a read or for the row
  pub turns_wanting : {W : Type 0} {true_row : RowFacts → Type 0} {tells : Bool} → IndexInvariant true_row tells shows state
      → state.broken ≡ false → IsAwaited name state → ReadsName {W = W} told version name before after given.OutOfMemory
      → TurnsOver told version shows (name ∷ []) name before after state state (Some OutOfMemory)
  turns_wanting holds sound awaited does =
      wanting (name ∷ []) (listed_open state.pass name awaited.listed) sound does.listens
      (wanted_reading name does.answer does.reads does.own holds awaited) (readings_of name does)
      (unaltered_by (pass_or_none state.pass).listing name does.answer does.reads does.own (awaited_by_path holds awaited)
      awaited.listed state (wanting_same name does.answer does.leads)) (loads_heard name does.answer does.reads does.own)

  -- or for the look
  pub turns_blind : state.broken ≡ false → is_in (pass_or_none state.pass).out name ≡ true
      → LooksForFile told version (is_marked state.pass) name before after looked.OutOfMemory
      → TurnsOver told version shows [] name before after state state (Some OutOfMemory)
  turns_blind sound out looks =
      wanting [] (out_open state.pass name out) sound looks.listens (wanted_looks (pass_or_none state.pass).listing (is_marked state.pass) (row_names state.rows) looks.answers looks.asked) (readings_looks (is_marked state.pass) looks.answers looks.asked)
      (unaltered_looks (pass_or_none state.pass).listing (is_marked state.pass) looks.answers state looks.asked)
      (unloaded (is_marked state.pass) looks.answers looks.asked)

-- a look that was made
module _ {told : Bool} {version : Versions} {before after : ShownTree} (looks : List ℕ → Bool) (name : NameFacts) where
  looks_lead : (answer : StatAnswer) → AsksTree told version before after (stat name.path answer)
      → LooksTo (looks name.path) (heard_or_none (stat name.path answer)) name (Rose before.faults after.faults) (looked_of answer)
  looks_lead said.Folder asks = λ under. record { answer = said.Folder; heard = is_heard (stat name.path said.Folder) refl; saw = refl }
  looks_lead (said.File stamp) asks = λ under. record { answer = said.File stamp; heard = is_heard (stat name.path (said.File stamp)) refl; saw = refl }
  looks_lead said.Other asks = λ under. record { answer = said.Other; heard = is_heard (stat name.path said.Other) refl; saw = refl }
  looks_lead said.Gone asks = λ under. record { answer = said.Gone; heard = is_heard (stat name.path said.Gone) refl; saw = refl }
  looks_lead said.Failed asks = asks.hands.cause.rose refl
  looks_lead said.OutOfMemory asks = tt

  pub looks_by : (answer : StatAnswer) → looks name.path ≡ true → AsksTree told version before after (stat name.path answer)
      → LooksForFile told version looks name before after (looked_of answer)
  looks_by answer under asks = record {
    answers = heard_or_none (stat name.path answer);
    listens = listens_one (stat name.path answer) asks;
    asked = all_heard (IsLookAmong looks) (stat name.path answer) under;
    leads = looks_lead answer asks;
  }

-- no look was made
pub looks_none : {told : Bool} {version : Versions} {hand : ShownTree} (looks : List ℕ → Bool) (name : NameFacts) {met : Seen}
    → looks name.path ≡ false → LooksForFile told version looks name hand hand (looked.Saw met)
looks_none looks name apart = record {
  answers = [];
  listens = listens_none;
  asked = All-nil (IsLookAmong looks);
  leads = λ under. absurd (true≢false (sym under ∙ apart));
}

-- a look was made at a path that may be looked at, and none elsewhere
module _ {told : Bool} {version : Versions} {T : Type 0} (shows : T → ShownTree) (before after : T) (under : Bool) where
  pub looks_as : (looks : List ℕ → Bool) (name : NameFacts) (end : Looked) → under ≡ looks name.path
      → OnTrue under (LooksAtName told version name (shows before) (shows after) end)
      → OnFalse under (end ≡ looked.Saw seen.Gone) → OnFalse under (after ≡ before)
      → LooksForFile told version looks name (shows before) (shows after) end
  looks_as looks name end lies at apart same =
      elim under as (λ b. under ≡ b → LooksForFile told version looks name (shows before) (shows after) end) [
        | true ↦ λ is.
            let seen_there = OnTrue_at is at in
            subst (λ (e : Looked). LooksForFile told version looks name (shows before) (shows after) e) (sym seen_there.saw)
            (looks_by looks name seen_there.answer (sym lies ∙ is) seen_there.asks)
        | false ↦ λ is.
            subst (λ (t : T). LooksForFile told version looks name (shows before) (shows t) end) (sym (OnFalse_at is same))
            (subst (λ (e : Looked). LooksForFile told version looks name (shows before) (shows before) e) (sym (OnFalse_at is apart))
            (looks_none looks name (sym lies ∙ is)))
      ] refl
