-- The store of a server, around the index that was served or wasn't.
use Rattle.std.proofs.Common.{◌≡◌, ℕ, ◌-◌, ◌<◌, Bool, true, false, List, [], ◌∷◌, ◌++◌, drop, length, length-append, append-nil, refl, sym, ◌∙◌, ap, subst, arith}
use Rattle.std.proofs.lemmas.List.{length-map, take-append-drop}
use Rattle.std.proofs.lemmas.Bool.{false≢true}
use mathlib.Core.List.{IsPrefix}
use Rattle.index_keeper.specs.Keeper.{ShownKeeper}
use Rattle.index_keeper.specs.Store.{IsOpened, ShownStore, TakesKeeperBack}
use Rattle.index_lock.proofs.Prefixes.{prefix_self, prefix_shorter, prefix_trans}
use Rattle.row_types.specs.Row.{RowFacts}
use Rattle.index_rows.specs.Log.{put_of}
use Rattle.index_rows.specs.declared.change.Change.{Change}
use Rattle.index_state.specs.Invariant.{IndexInvariant}
use Rattle.index_state.specs.Opening.{Opens, current, puts_of}
use Rattle.index_state.specs.State.{Origin, StateFacts, lasting}
use Rattle.dbgd_commands.specs.Endings.{Streams}
use Rattle.dbgd_commands.specs.Passing.{IsLent}
use Rattle.dbgd_commands.specs.Scan.{Scans}
use Rattle.dbgd_commands.specs.declared.scan_end.ScanEnd.TheVariants as scanned
use Rattle.dbgd_commands.proofs.HandLemmas.{hands_stay}
use Rattle.dbgd_commands.proofs.PassLemmas.{has_found, has_rows, held, made_found, may_have, told_since}
use Rattle.dbgd_commands.proofs.StoreLemmas.{refused_by, refused_fault, rose_counted, scans_opened}
use Rattle.dbgd_run.specs.Rounds.{PassStage}
use Rattle.dbgd_run.specs.Serve.{HasServedLog, StoreServes}
use Rattle.dbgd_run.specs.ServeSaid.{Announces}
use Rattle.dbgd_run.specs.Serving.{ServeStage, ServeSetting, ServesFrom, ServesKeeper, ServesStore}
use Rattle.dbgd_run.specs.declared.worker.Worker.{Worker}
use Rattle.dbgd_run.specs.declared.serve_end.ServeEnd.{ServeEnd}
use Rattle.dbgd_run.specs.declared.serve_end.ServeEnd.TheVariants.{Refused, Unannounced, Unlocked, Served}

-- two beginnings of one list that are as long are the same
same_front : (xs ys zs : List Change) → IsPrefix xs zs → IsPrefix ys zs → length xs ≡ length ys → xs ≡ ys
same_front xs ys zs p q long =
    let into = prefix_shorter xs ys zs p q (omega (arith, long)) in
    let all = ap length into.1 in
    let sum = length-append xs into.0 in
    none_more xs ys into (omega (arith, all, sum, long))
  where
    none_more : (xs ys : List Change) → (into : IsPrefix xs ys) → length into.0 ≡ 0 → xs ≡ ys
    none_more xs ys ([], is) none = sym (append-nil xs) ∙ is
    none_more xs ys (z ∷ zs, is) none = absurd (omega (arith, none))

-- what lasts of a log is a beginning of it
lasting_into : (broken : Bool) (log : List Change) → IsPrefix (lasting broken log) log
lasting_into false log = prefix_self log
lasting_into true log = (drop (length log - 1) log, take-append-drop (length log - 1) log)

module _ {K T D L : Type 0} (r : ServeSetting T D L) (shows : K → ShownKeeper) (path line : List ℕ) (before : PassStage T) (workers : List (Worker T D L)) (from mid into : ShownStore) (keeper given : K) where
  -- the store was opened, had its keeper back, and its count rose where the index broke
  store_serves : (broken : Bool) → IsOpened r.setting.tells_tables path from mid (shows keeper)
      → TakesKeeperBack r.setting.tells_tables (shows given) mid into → (broken ≡ true → 0 < (shows given).faults)
      → StoreServes path broken from into
  store_serves broken opened back counted = record {
    cause = record {
      later = let a = opened.faults in let b = back.later in omega (arith, a, b);
      rose = λ is. rose_counted opened.faults (counted is) back.counted;
    };
    opened = let a = opened.rises in let b = back.number in omega (arith, a, b);
    opens = back.paths ∙ opened.paths;
  }

  lent_by : {old new : StateFacts K} → given ≡ new.keeper → Opens r.setting.tells_tables shows keeper old
      → IsOpened r.setting.tells_tables path from mid (shows keeper) → TakesKeeperBack r.setting.tells_tables (shows given) mid into
      → IsLent r.setting.tells_tables shows from into keeper old new
  lent_by value opens opened back = record {
    opens = opens;
    has = opened.holds;
    mid = mid;
    back = subst (λ (k : K). TakesKeeperBack r.setting.tells_tables (shows k) mid into) value back;
  }

  -- of an index that was served: what its log and its store say, of the store
  served_log : (old new : StateFacts K) (lent : IsLent r.setting.tells_tables shows from into keeper old new)
      → IndexInvariant r.setting.world.true_row r.setting.tells_tables shows new → new.origin ≡ old.origin
      → IsPrefix old.log new.log
      → HasServedLog r.setting.world.true_row r.setting.tells_tables lent.opens.opened.rows from into new.broken new.log
  served_log old new lent holds same begins =
      let since = holds.store_agrees_with_rows.since in
      let first : since.first ≡ puts_of (current lent.opens.opened.rows)
      = same_front since.first (puts_of (current lent.opens.opened.rows)) new.log
      (prefix_trans since.first (lasting new.broken new.log) new.log (since.since, sym since.parts) (lasting_into new.broken new.log))
      (subst (λ (log : List Change). IsPrefix log new.log) (ap (λ (st : StateFacts K). st.log) lent.opens.opened.value) begins)
      (since.count ∙ ap (λ (o : Origin). o.puts) same ∙ ap (λ (st : StateFacts K). st.origin.puts) lent.opens.opened.value
      ∙ sym (length-map (current lent.opens.opened.rows) (λ (r : RowFacts). put_of r.name))) in
      record {
        since = since.since;
        parts = subst (λ (log : List Change). lasting new.broken new.log ≡ log ++ since.since) first since.parts;
        void = holds.broken_means_a_void_last_change.void;
        made = told_since r.setting lent holds (ap (λ (o : Origin). o.made) same);
        rows = new.rows;
        names = holds.rows_replay_the_log.names;
        sound = holds.rows_sorted_and_true;
        has = has_rows r.setting lent holds;
        may_have = may_have r.setting lent holds;
      }

  pub store_opened : (end : ServeEnd) (after : ServeStage T D L) → IsOpened r.setting.tells_tables path from mid (shows keeper)
      → TakesKeeperBack r.setting.tells_tables (shows given) mid into → 0 < length before.hands
      → ServesKeeper r shows line keeper before workers end given after
      → ServesStore r path line from into before workers end after
  store_opened (Refused fault) after opened back some run = record {
    scans =
        subst (λ (hands : List T). Scans r.setting path r.scope before.hands hands from into (scanned.Refused fault))
        (sym run.same.0)
        (scans_opened r.setting path (scanned.Refused fault) opened back
        (record { hands = refl; store = refused_by r.setting.tells_tables shows opened.holds back fault run.refuses run.left })
        (hands_stay r.setting.tells_files r.setting.world.version r.setting.sees before.hands some (λ e. absurd (cc))) tt
        (λ f. run.counted (refused_fault fault f)));
    quiet = run.quiet;
    same = run.same;
  }
  store_opened Unannounced after opened back some run =
      let lent = lent_by {old = run.old} {new = run.old} run.value run.opens opened back in record {
        found = lent.opens.opened.rows;
        held = held r.setting lent run.holds;
        has = has_found r.setting lent run.holds refl;
        made = made_found r.setting lent run.holds refl;
        store = store_serves false opened back (λ e. absurd (false≢true e));
        says = run.says;
        same = run.same;
      }
  store_opened Unlocked after opened back some run =
      let lent = lent_by {old = run.old} {new = run.old} run.serves.value run.opens opened back in record {
        found = lent.opens.opened.rows;
        held = held r.setting lent run.serves.holds;
        has = has_found r.setting lent run.serves.holds refl;
        made = made_found r.setting lent run.serves.holds refl;
        store = store_serves false opened back (λ e. absurd (false≢true e));
        says =
            subst (λ (shown : Streams). Announces line true before.streams shown) (sym run.serves.quiet) run.says;
        same = run.serves.same;
      }
  store_opened (Served fate how broken) after opened back some run =
      let one = run.serves in
      let lent = lent_by {old = run.old} {new = one.new} one.value run.opens opened back in
      let logs = served_log run.old one.new lent one.holds one.origin one.begins in record {
        found = lent.opens.opened.rows;
        held = held r.setting lent one.holds;
        log = one.new.log;
        logs =
            subst
            (λ (b : Bool). HasServedLog r.setting.world.true_row r.setting.tells_tables lent.opens.opened.rows from into b one.new.log)
            one.broken_is logs;
        store =
            store_serves broken opened back
            (λ is. subst (λ (k : K). 0 < (shows k).faults) (sym one.value)
            (one.holds.broken_means_a_void_last_change.counted (one.broken_is ∙ is)));
        told = run.told;
        says = run.says;
        serves =
            subst
            (λ (log : List Change). ServesFrom r (record before { log = log; streams = run.told }) workers fate how one.new.log after)
            (ap (λ (st : StateFacts K). st.log) lent.opens.opened.value) one.serves;
      }
