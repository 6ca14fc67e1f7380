-- A row that was put stands until its path is changed.
use Rattle.std.proofs.Common.{◌≡◌, ◌⊎◌, inl, inr, ℕ, Bool, true, false, cond, eq-eqb, List, [], ◌∷◌, ◌++◌, length, Option, Some, None, refl, sym, ◌∙◌, ap, subst, arith}
use Rattle.std.specs.List.{All, filter, find}
use Rattle.std.specs.Option.{option_map}
use Rattle.std.specs.Prelude.{IsTrue}
use Rattle.std.specs.Str.{bytes_eq}
use Rattle.std.proofs.lemmas.Bool.{true≢false}
use Rattle.row_types.specs.Name.{NameFacts}
use Rattle.row_types.specs.Row.{RowFacts}
use Rattle.row_types.specs.declared.limits.TheConstants.{EDITION}
use Rattle.row_codec.specs.RowBytes.{row_bytes}
use Rattle.row_codec.specs.Spelled.{IsSpelled}
use Rattle.row_codec.proofs.OneSpelling.{one_row}
use Rattle.index_rows.specs.Log.{drop_of, put_of}
use Rattle.index_rows.specs.Rows.{row_at, row_path}
use Rattle.index_rows.specs.declared.change.Change.{Change}
use Rattle.index_rows.proofs.Lists.{IsFound, found_there}
use Rattle.scan_queue.specs.declared.miss.Seen.{Seen}
use Rattle.index_keeper.specs.Answers.{for_rows, rows_given}
use Rattle.index_keeper.specs.Keeper.{ShownKeeper, TellsTables}
use Rattle.index_keeper.specs.Tables.{AscendsByPath, KeptFacts, bytes_under, edited, put_bytes as put_under, removal_of}
use Rattle.index_keeper.specs.declared.answer.KeptAnswer.{KeptAnswer}
use Rattle.index_keeper.specs.declared.answer.KeptAnswer.TheVariants.{All as AllRows, Failed as RowsFailed, OutOfMemory as RowsNoMemory}
use Rattle.index_keeper.proofs.CutLemmas.{IsCut, after_here, cut_of, edited_cut, other_bytes, row_bytes_at}
use Rattle.index_events.specs.Events.{Calls, EventStep, Happens, IsReopening, Reopens, RunsFirst, RunsTo, StopsAfter, StoredIndex, EventWantsMemory}
use Rattle.index_state.specs.Invariant.{IndexInvariant}
use Rattle.index_state.specs.Keeping.{put_row}
use Rattle.index_state.specs.Kept.{IsDoubted, tables_of_rows}
use Rattle.index_state.specs.Opening.{current, is_current}
use Rattle.index_events.specs.Puts.{HasPut, LeavePath, MayChange, PutsLast}
use Rattle.index_state.specs.State.{StateFacts}
use Rattle.path_canon.specs.Scope.{Scope, scope_of}
use Rattle.path_canon.specs.Selected.{is_selected}
use Rattle.index_state.specs.Step.{BeginsOrNot, Judges, Publishes, Stores}
use Rattle.index_state.specs.declared.answer.Begun.{Begun}
use Rattle.index_state.specs.declared.answer.Begun.TheVariants.{Begun as BegunBy, Broken as BegunBroken, OutOfMemory as BegunNoMemory}
use Rattle.index_state.specs.declared.answer.Judged.{Judged}
use Rattle.index_state.specs.declared.answer.Judged.TheVariants.{Kept, Dropped, Moved, Strange, Broken as JudgedBroken, LogFull as JudgedFull, KeeperFault as JudgedFault, OutOfMemory as JudgedNoMemory}
use Rattle.index_state.specs.declared.answer.Published.{Published}
use Rattle.index_state.specs.declared.answer.Published.TheVariants.{Added, Replaced, Already, NotListed, Broken, LogFull, KeeperFault, OutOfMemory}
use Rattle.index_events.specs.declared.events.Event.{Event}
use Rattle.index_events.specs.declared.events.Event.TheVariants.{Begin, Take, Publish, GroomTake, Judge, Miss, Retry, Look}
use Rattle.index_events.specs.declared.events.EventAnswer.{EventAnswer}
use Rattle.index_events.specs.declared.events.EventAnswer.TheVariants.{Begin as BeginSaid, Take as TakeSaid, Publish as PublishSaid, GroomTake as GroomSaid, Judge as JudgeSaid, Miss as MissSaid, Retry as RetrySaid, Look as LookSaid}
use Rattle.index_state.proofs.ByName.{tables_by_path}
use Rattle.index_state.proofs.Lasting.{image_bytes, table_bytes}
use Rattle.index_events.proofs.Runs.{first_none, wants_self}
use Rattle.index_state.proofs.StoreSteps.{tables_put, tables_without}

-- the last elements of two lists that are one list
pub last_same : (xs ys : List Change) (x y : Change) → xs ++ x ∷ [] ≡ ys ++ y ∷ [] → x ≡ y
last_same [] [] x y e = cc
last_same [] (b ∷ []) x y e = cc
last_same [] (b ∷ (c ∷ ys)) x y e = cc
last_same (a ∷ []) [] x y e = cc
last_same (a ∷ (c ∷ xs)) [] x y e = cc
last_same (a ∷ xs) (b ∷ ys) x y e = let rest : xs ++ x ∷ [] ≡ ys ++ y ∷ [] = cc in last_same xs ys x y rest

-- what is found is found among what a filter lets through, if it lets that through
pub find_kept : {X : Type 0} (p q : X → Bool) (xs : List X) (x : X) → find p xs ≡ Some x → q x ≡ true → find p (filter q xs) ≡ Some x
find_kept p q [] x e kept = cc
find_kept p q (y ∷ ys) x e kept =
    elim (p y) as (λ b. p y ≡ b → cond b (Some y) (find p ys) ≡ Some x → find p (cond (q y) (y ∷ filter q ys) (filter q ys)) ≡ Some x) [
      | true ↦ λ here found.
          let same : y ≡ x = cc in
          let let_in : q y ≡ true = ap q same ∙ kept in
          ap (λ (b : Bool). find p (cond b (y ∷ filter q ys) (filter q ys))) let_in ∙ ap (λ (b : Bool). cond b (Some y) (find p (filter q ys))) here ∙ found
      | false ↦ λ other found.
          let deep : find p (filter q ys) ≡ Some x = find_kept p q ys x found kept in
          elim (q y) as (λ b. find p (cond b (y ∷ filter q ys) (filter q ys)) ≡ Some x) [
            | true ↦ ap (λ (b : Bool). cond b (Some y) (find p (filter q ys))) other ∙ deep
            | false ↦ deep
          ]
    ] refl e

-- the bytes that a put keeps
pub own_bytes : (path bytes : List ℕ) (rows : List KeptFacts) → AscendsByPath rows → bytes_under path (edited rows (put_under path bytes)) ≡ Some bytes
own_bytes path bytes rows ascends =
    let has = cut_of path rows ascends in
    let cut : IsCut path (edited rows (put_under path bytes)) has.front (record { path = path; bytes = bytes } ∷ []) has.back =
    record { whole = edited_cut (put_under path bytes) has.cut; apart = has.cut.apart; here = after_here path (Some bytes) } in
    row_bytes_at cut

-- the row whose bytes stand under its path is the path's
pub row_here : (row : RowFacts) (rows : List RowFacts) → All IsSpelled rows → IsSpelled row → bytes_under row.name.path (tables_of_rows rows) ≡ Some (row_bytes row) → row_at row.name.path rows ≡ Some row
row_here row rows each spelled here = of_found (row_at row.name.path rows) refl (sym (table_bytes row.name.path rows) ∙ here)
  where
    of_found : (found : Option RowFacts) → row_at row.name.path rows ≡ found → option_map row_bytes found ≡ Some (row_bytes row) → row_at row.name.path rows ≡ Some row
    of_found None is same = cc
    of_found (Some other) is same =
        let there : IsFound (λ r. bytes_eq (row_path r) row.name.path) rows other = found_there (λ r. bytes_eq (row_path r) row.name.path) rows other is in
        let own : IsSpelled other = subst IsSpelled there.there (each there.place other there.within) in
        let bytes : row_bytes other ≡ row_bytes row = cc in
        let one : other ≡ row = one_row other row (row_bytes other) (record { spelled = own; written = refl }) (record { spelled = spelled; written = bytes }) in
        is ∙ ap (λ (r : RowFacts). Some r) one

-- what a keeper that tells gave is its tables
pub told_values : (answer : KeptAnswer) (values : List KeptFacts) (before after : ShownKeeper) → TellsTables before after (for_rows answer) → rows_given answer ≡ Some values → values ≡ before.tables
told_values (AllRows rows) values before after tells gave =
    let same : rows.items ≡ values = cc in sym same ∙ tells.whole ∙ tells.stays.same
told_values RowsFailed values before after tells gave = cc
told_values RowsNoMemory values before after tells gave = cc

module _ {K : Type 0} (path : List ℕ) (old new : StateFacts K) where
  -- what the rows have under the path is as it was, and it isn't newly in doubt
  pub record LeavesAt : Type 0 where
    pub bytes : bytes_under path (tables_of_rows new.rows) ≡ bytes_under path (tables_of_rows old.rows)
    pub doubt : IsDoubted new path → IsDoubted old path

  leaves_same : new.rows ≡ old.rows → new.log ≡ old.log → new.broken ≡ old.broken → LeavesAt
  leaves_same rows log broken = record {
    bytes = ap (λ (l : List RowFacts). bytes_under path (tables_of_rows l)) rows;
    doubt = λ h. record { broken = sym broken ∙ h.broken; front = h.front; void = h.void; last = sym log ∙ h.last; here = h.here };
  }

  -- the pass, and what goes with it, changed alone
  leaves_by : (now : StateFacts K) → new ≡ now → now.rows ≡ old.rows → now.log ≡ old.log → now.broken ≡ old.broken → LeavesAt
  leaves_by now same rows log broken =
      leaves_same (ap (λ (s : StateFacts K). s.rows) same ∙ rows) (ap (λ (s : StateFacts K). s.log) same ∙ log) (ap (λ (s : StateFacts K). s.broken) same ∙ broken)

  -- a void change of another path was listed
  leaves_void : (void : Change) → new.rows ≡ old.rows → new.log ≡ old.log ++ void ∷ [] → (void.name.path ≡ path → ⊥) → LeavesAt
  leaves_void void rows log apart = record {
    bytes = ap (λ (l : List RowFacts). bytes_under path (tables_of_rows l)) rows;
    doubt = λ h.
        let same : void ≡ h.void = last_same old.log h.front void h.void (sym log ∙ h.last) in
        absurd (apart (ap (λ (c : Change). c.name.path) same ∙ h.here));
  }

  -- an index that isn't broken has no path in doubt
  leaves_sound : bytes_under path (tables_of_rows new.rows) ≡ bytes_under path (tables_of_rows old.rows) → new.broken ≡ false → LeavesAt
  leaves_sound bytes sound = record { bytes = bytes; doubt = λ h. absurd (true≢false (sym h.broken ∙ sound)) }

module _ (W : Type 0) {K : Type 0} {true_row : RowFacts → Type 0} {told : Bool} {shows : K → ShownKeeper} (path : List ℕ) {old new : StateFacts K} (h : IndexInvariant true_row told shows old) where
  begin_leaves : (listing : List NameFacts) (scope : Scope) (begun : Begun) → BeginsOrNot listing scope old begun new → LeavesAt path old new
  begin_leaves listing scope (BegunBy plan) step = leaves_by path old new _ step.after refl refl refl
  begin_leaves listing scope BegunBroken step = leaves_by path old new old step.same refl refl refl
  begin_leaves listing scope BegunNoMemory step = leaves_by path old new old step.same refl refl refl

  stored_leaves : {row : RowFacts} → Stores told shows row old new → (row.name.path ≡ path → ⊥) → LeavesAt path old new
  stored_leaves {row} stored apart =
      leaves_sound path old new
      (ap (λ (s : StateFacts K). bytes_under path (tables_of_rows s.rows)) stored.after
      ∙ ap (bytes_under path) (sym (tables_put row old.rows))
      ∙ other_bytes path (tables_of_rows old.rows) (put_row row) (tables_by_path old.rows h.rows_sorted_and_true.ascend) apart)
      (ap (λ (s : StateFacts K). s.broken) stored.after ∙ stored.can.sound)

  publish_leaves : (row : RowFacts) (said : Published) → Publishes told shows row old said new → (MayChange {W = W} path (Publish row) (PublishSaid said) → ⊥) → LeavesAt path old new
  publish_leaves row Added step apart = stored_leaves step.stored apart
  publish_leaves row Replaced step apart = stored_leaves step.stored apart
  publish_leaves row Already step apart = leaves_by path old new _ step.after refl refl refl
  publish_leaves row (NotListed listed) step apart = leaves_by path old new old step.same refl refl refl
  publish_leaves row Broken step apart = leaves_by path old new old step.same refl refl refl
  publish_leaves row LogFull step apart = leaves_by path old new old step.same refl refl refl
  publish_leaves row OutOfMemory step apart = leaves_by path old new _ step.same refl refl refl
  publish_leaves row KeeperFault step apart =
      leaves_void path old new (drop_of row.name) (ap (λ (s : StateFacts K). s.rows) step.after) (ap (λ (s : StateFacts K). s.log) step.after) apart

  judge_leaves : (name : NameFacts) (seen : Seen) (said : Judged) → Judges told shows name seen old said new → (MayChange {W = W} path (Judge name seen) (JudgeSaid said) → ⊥) → LeavesAt path old new
  judge_leaves name seen JudgedBroken step apart = leaves_by path old new old step.same refl refl refl
  judge_leaves name seen Kept step apart = leaves_by path old new old step.same refl refl refl
  judge_leaves name seen (Moved now) step apart = leaves_by path old new _ step.after refl refl refl
  judge_leaves name seen Strange step apart = leaves_by path old new _ step.missed.same refl refl refl
  judge_leaves name seen JudgedFull step apart = leaves_by path old new old step.drops.same refl refl refl
  judge_leaves name seen JudgedNoMemory step apart = leaves_by path old new _ step.drops.same refl refl refl
  judge_leaves name seen JudgedFault step apart =
      leaves_void path old new (put_of name) (ap (λ (s : StateFacts K). s.rows) step.drops.after) (ap (λ (s : StateFacts K). s.log) step.drops.after) apart
  judge_leaves name seen Dropped step apart =
      leaves_sound path old new
      (ap (λ (s : StateFacts K). bytes_under path (tables_of_rows s.rows)) step.drops.after
      ∙ ap (bytes_under path) (sym (tables_without name.path old.rows h.rows_sorted_and_true.ascend))
      ∙ other_bytes path (tables_of_rows old.rows) (removal_of name.path) (tables_by_path old.rows h.rows_sorted_and_true.ascend) apart)
      (ap (λ (s : StateFacts K). s.broken) step.drops.after ∙ step.drops.can.left_over.sound)

  -- an event that changes another path leaves this one
  event_leaves : (event : Event W) (answer : EventAnswer) → Happens told shows old event answer new → (MayChange path event answer → ⊥) → LeavesAt path old new
  event_leaves (Begin listing roots select) (BeginSaid begun) step apart = begin_leaves listing (scope_of roots.items (is_selected select)) begun step
  event_leaves Take (TakeSaid name) step apart = leaves_by path old new _ step.same refl refl refl
  event_leaves (Publish row) (PublishSaid said) step apart = publish_leaves row said step apart
  event_leaves GroomTake (GroomSaid task) step apart = leaves_by path old new _ step.same refl refl refl
  event_leaves (Judge name seen) (JudgeSaid said) step apart = judge_leaves name seen said step apart
  event_leaves (Miss name cause) (MissSaid was_out) step apart = leaves_by path old new _ step.same refl refl refl
  event_leaves Retry (RetrySaid count) step apart = leaves_by path old new _ step.same refl refl refl
  event_leaves (Look id kind) (LookSaid paths) step apart = leaves_by path old new old step.same refl refl refl
  event_leaves _ _ step apart = absurd step

-- the row has row bytes, which stand under its path, and that isn't in doubt
pub record Rests {K : Type 0} (row : RowFacts) (state : StateFacts K) : Type 0 where
  pub spelled : IsSpelled row
  pub here : bytes_under row.name.path (tables_of_rows state.rows) ≡ Some (row_bytes row)
  pub free : ¬ IsDoubted state row.name.path

module _ (W : Type 0) {K : Type 0} (true_row : RowFacts → Type 0) (told : Bool) (shows : K → ShownKeeper) (path : List ℕ) (tells : IsTrue told) (row : RowFacts) where
  -- it rests over a reopening
  reopened_rests : {old new : StoredIndex K} → IndexInvariant true_row told shows old.index → Reopens told shows path old new → Rests row old.index → Rests row new.index
  reopened_rests {old} {new} h again rests =
      let gave = again.index.gave in
      let opened = again.index.opened in
      let place : List ℕ = row.name.path in
      let kept : bytes_under place again.held.tables ≡ Some (row_bytes row) =
      image_bytes h old.index.broken refl (h.store_agrees_with_rows.tables tells) place rests.free again.held.tables (again.back.image tells) ∙ rests.here in
      let values : again.index.values ≡ again.held.tables =
      told_values gave.answer again.index.values _ _ (gave.heard.tells tells) gave.gave ∙ again.opened.holds.tables tells in
      let read : bytes_under place (tables_of_rows opened.rows) ≡ Some (row_bytes row) = ap (bytes_under place) (sym opened.sound.kept ∙ values) ∙ kept in
      let found : row_at place opened.rows ≡ Some row = row_here row opened.rows opened.sound.spelled rests.spelled read in
      let stood = row_here row old.index.rows h.rows_sorted_and_true.spelled rests.spelled rests.here in
      let is_found : IsFound (λ r. bytes_eq (row_path r) place) old.index.rows row = found_there (λ r. bytes_eq (row_path r) place) old.index.rows row stood in
      let edition : row.edition ≡ EDITION = subst (λ (r : RowFacts). r.edition ≡ EDITION) is_found.there (h.rows_sorted_and_true.edition is_found.place row is_found.within) in
      let own : is_current row ≡ true = eq-eqb row.edition EDITION edition in
      let left : row_at place (current opened.rows) ≡ Some row = find_kept (λ r. bytes_eq (row_path r) place) is_current opened.rows row found own in record {
        spelled = rests.spelled;
        here = ap (λ (s : StateFacts K). bytes_under place (tables_of_rows s.rows)) opened.value ∙ table_bytes place (current opened.rows) ∙ ap (option_map row_bytes) left;
        free = λ doubt. absurd (true≢false (sym doubt.broken ∙ ap (λ (s : StateFacts K). s.broken) opened.value));
      }

  left_rests : {old new : StateFacts K} → LeavesAt row.name.path old new → Rests row old → Rests row new
  left_rests leaves rests = record { spelled = rests.spelled; here = leaves.bytes ∙ rests.here; free = λ doubt. rests.free (leaves.doubt doubt) }

  step_rests : {old new : StoredIndex K} (event : Event W) (answer : EventAnswer) → IndexInvariant true_row told shows old.index → EventStep true_row told shows path old event answer new → (MayChange row.name.path event answer → ⊥) → Rests row old.index → Rests row new.index
  step_rests {old} {new} event answer h step apart rests = of_step step.step
    where
      of_step : Calls told shows old event answer new ⊎ IsReopening told shows path old event answer new → Rests row new.index
      of_step (inl calls) = left_rests (event_leaves W row.name.path h event answer calls.answered.step apart) rests
      of_step (inr again) = reopened_rests h again.reopens rests

  runs_rests : (old : StoredIndex K) (events : List (Event W)) (answers : List EventAnswer) (new : StoredIndex K) → IndexInvariant true_row told shows old.index → RunsTo true_row told shows path old events answers new → LeavePath row.name.path events answers → Rests row old.index → Rests row new.index
  runs_rests old [] [] new h same left rests = subst (λ (s : StoredIndex K). Rests row s.index) (sym same) rests
  runs_rests old [] (a ∷ answers) new h run left rests = absurd run
  runs_rests old (e ∷ events) [] new h run left rests = absurd run
  runs_rests old (e ∷ events) (a ∷ answers) new h run left rests =
      runs_rests run.0 events answers new run.1.holds run.2 left.1 (step_rests e a h run.1 left.0 rests)

  -- a row that was just put rests
  stored_rests : {old new : StateFacts K} → IndexInvariant true_row told shows old → Stores told shows row old new → Rests row new
  stored_rests {old} {new} h stored = record {
    spelled = stored.keeper.spelled;
    here =
        ap (λ (s : StateFacts K). bytes_under row.name.path (tables_of_rows s.rows)) stored.after
        ∙ ap (bytes_under row.name.path) (sym (tables_put row old.rows))
        ∙ own_bytes row.name.path (row_bytes row) (tables_of_rows old.rows) (tables_by_path old.rows h.rows_sorted_and_true.ascend);
    free = λ doubt. absurd (true≢false (sym doubt.broken ∙ ap (λ (s : StateFacts K). s.broken) stored.after ∙ stored.can.sound));
  }

  put_rests : (old new : StateFacts K) (event : Event W) (answer : EventAnswer) → IndexInvariant true_row told shows old → Happens told shows old event answer new → HasPut row event answer → Rests row new
  put_rests old new (Publish published) (PublishSaid Added) h step same = stored_rests h (subst (λ (r : RowFacts). Stores told shows r old new) same step.stored)
  put_rests old new (Publish published) (PublishSaid Replaced) h step same = stored_rests h (subst (λ (r : RowFacts). Stores told shows r old new) same step.stored)
  put_rests old new _ _ h step put = absurd put

  last_put : (old : StoredIndex K) (first : List (Event W)) (put : Event W) (later : List (Event W)) (early : List EventAnswer) (said : EventAnswer) (late : List EventAnswer) (new : StoredIndex K) → length first ≡ length early → IndexInvariant true_row told shows old.index → RunsTo true_row told shows path old (first ++ put ∷ later) (early ++ said ∷ late) new → HasPut row put said → LeavePath row.name.path later late → Rests row new.index
  last_put old [] put later [] said late new same h run has left =
      runs_rests run.0 later late new run.1.holds run.2 left (of_step run.1.step)
    where
      of_step : Calls told shows old put said run.0 ⊎ IsReopening told shows path old put said run.0 → Rests row run.0.index
      of_step (inl calls) = put_rests old.index run.0.index put said h calls.answered.step has
      of_step (inr again) = absurd (subst (λ (e : Event W). HasPut row e said) again.event_is has)
  last_put old (e ∷ first) put later (a ∷ early) said late new same h run has left =
      last_put run.0 first put later early said late new (omega arith) run.1.holds run.2 has left
  last_put old [] put later (a ∷ early) said late new same h run has left = absurd (omega arith)
  last_put old (e ∷ first) put later [] said late new same h run has left = absurd (omega arith)

module _ {W K : Type 0} (true_row : RowFacts → Type 0) (told : Bool) (shows : K → ShownKeeper) (path : List ℕ) where
  pub runs_hold : (old : StoredIndex K) (events : List (Event W)) (answers : List EventAnswer) (new : StoredIndex K) → IndexInvariant true_row told shows old.index → RunsTo true_row told shows path old events answers new → IndexInvariant true_row told shows new.index
  runs_hold old [] [] new h same = subst (λ (s : StoredIndex K). IndexInvariant true_row told shows s.index) (sym same) h
  runs_hold old [] (a ∷ answers) new h run = absurd run
  runs_hold old (e ∷ events) [] new h run = absurd run
  runs_hold old (e ∷ events) (a ∷ answers) new h run = runs_hold run.0 events answers new run.1.holds run.2

  -- each row that was put, and whose path no later event changed, stands in whatever a crash leaves
  pub puts_last : (old : StoredIndex K) (events : List (Event W)) (answers : List EventAnswer) (new : StoredIndex K) → IndexInvariant true_row told shows old.index → RunsTo true_row told shows path old events answers new → IsTrue told → PutsLast shows events answers new.index
  puts_last old events answers new h run tells = λ row is image left.
      let now : IndexInvariant true_row told shows new.index = runs_hold old events answers new h run in
      let P : List (Event W) → List EventAnswer → Type 0 = λ es given. RunsTo true_row told shows path old es given new in
      let split : P (is.first ++ is.put ∷ is.later) (is.early ++ is.said ∷ is.late) =
      subst (λ (given : List EventAnswer). P (is.first ++ is.put ∷ is.later) given) is.answers_are (subst (λ (es : List (Event W)). P es answers) is.events_are run) in
      let rests : Rests row new.index = last_put W true_row told shows path tells row old is.first is.put is.later is.early is.said is.late new is.one_each h split is.has_put is.left in
      image_bytes now new.index.broken refl (now.store_agrees_with_rows.tables tells) row.name.path rests.free image left ∙ rests.here

  -- the same, where memory was wanting after the first events
  pub first_lasts : (old : StoredIndex K) (events : List (Event W)) (answers : List EventAnswer) (rest : List (Event W)) (middle : StoredIndex K) (new : StateFacts K) → IndexInvariant true_row told shows old.index → (h : RunsFirst true_row told shows path old events answers rest middle) → EventWantsMemory told shows middle.index new → IsTrue told → PutsLast shows h.first answers new
  first_lasts old events answers rest middle new holds h wants tells = λ row is image left.
      puts_last old h.first answers middle holds h.run tells row is image (((wants.keeper.tells tells).left image).0 left)

  -- and where there was none for the answers to events that are there
  pub stops_unbegun : (old : StoredIndex K) (events : List (Event W)) → (length events ≡ 0 → ⊥) → IndexInvariant true_row told shows old.index → StopsAfter true_row told shows path old events 0 old
  stops_unbegun old [] some holds = absurd (some refl)
  stops_unbegun old (event ∷ events) some holds = record {
    answers = [];
    next = event;
    rest = events;
    count = refl;
    last = old.index;
    runs = first_none old (event ∷ events);
    wants = wants_self told shows old.index;
    why = inl (record { none = refl; same = refl });
    lasts = first_lasts old (event ∷ events) [] (event ∷ events) old old.index holds (first_none old (event ∷ events)) (wants_self told shows old.index);
  }
