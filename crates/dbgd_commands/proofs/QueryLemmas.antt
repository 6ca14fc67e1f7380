-- A query: what is said of the index that was opened is said of its store; how it ends when.
use Rattle.std.proofs.Common.{◌≡◌, inl, inr, ℕ, Bool, List, [], ◌∷◌, ◌++◌, length, length-append, codes, sym, refl, ◌∙◌, ap, subst, IsTrue, arith}
use Rattle.std.specs.Prelude.{filter}
use Rattle.std.specs.List.{Contains}
use Rattle.std.proofs.lemmas.List.{append-nil}
use Rattle.row_types.specs.Faults.{HasCause, Rose}
use Rattle.row_types.specs.Row.{RowFacts}
use Rattle.http_wire.specs.Sink.{GetsAll}
use Rattle.index_keeper.specs.Keeper.{ShownKeeper}
use Rattle.index_keeper.specs.Store.{HasAll, FailsToOpen, IsOpened, ShownStore, TakesKeeperBack, with_opened_path}
use Rattle.index_rows.specs.Classes.{has_id}
use Rattle.index_state.specs.Kept.{IsInStore, tables_of_rows}
use Rattle.index_state.specs.Opening.{AreRows, IsOverfull, Opens, current, made_swept}
use Rattle.index_state.specs.State.{StateFacts}
use Rattle.index_state.specs.declared.open_fault.OpenFault.TheVariants as refusal
use Rattle.dbgd_commands.specs.Opened.{EndsOnlyWith, HasSomeBad}
use Rattle.dbgd_commands.specs.Query.{LooksInStore, OpensOnce, LooksBy, Queries, ReadsLines, RunsQuery, SaysFound, SaysLines, id_rows, is_look_fault, reading_word, row_line, row_lines}
use Rattle.dbgd_commands.specs.QueryCauses.{IsQueryAnswered, IsFreeQuery, QueryEnds, QueryStatus}
use Rattle.dbgd_commands.specs.Stage.{CommandStage, Setting}
use Rattle.dbgd_commands.specs.declared.query_end.QueryEnd.{QueryEnd}
use Rattle.dbgd_commands.specs.declared.query_end.QueryEnd.TheVariants.{Refused, Read, OutOfMemory}
use Rattle.dbgd_commands.specs.declared.scan_end.ScanEnd.TheVariants.{Refused as ScanRefused}
use Rattle.dbgd_commands.specs.declared.status.Status.{Status}
use Rattle.dbgd_commands.specs.declared.status.Status.TheVariants as status
use Rattle.dbgd_commands.proofs.PassLemmas.{gave_all}
use Rattle.dbgd_commands.proofs.RowLemmas.{first_held, none_bad, none_overfull}
use Rattle.dbgd_commands.proofs.StoreLemmas.{none_swept, opens_once, rose_given}

-- an index that was opened, and whose keeper went back, leaves the rows of the edition
pub looks : {K : Type 0} (told : Bool) (shows : K → ShownKeeper) {from mid into : ShownStore} {keeper : K} {state : StateFacts K}
    (Of : List RowFacts → Type 0) (opens : Opens told shows keeper state) → HasAll told from (shows keeper)
    → TakesKeeperBack told (shows state.keeper) mid into → Of opens.opened.rows → LooksInStore told from into Of
looks told shows {from} {mid} {into} {keeper} {state} Of opens has back so = record {
  found = opens.opened.rows;
  held = record {
    values = opens.values;
    gave = record {
      by_path = opens.gave.by_path;
      tells = λ t.
          gave_all (shows keeper) (shows opens.asked) opens.gave.answer opens.values opens.gave.heard opens.gave.gave t
          ∙ has.tables t;
    };
    sound = opens.opened.sound;
    few = opens.opened.few;
  };
  has = λ t.
      let swept : IsInStore (current opens.opened.rows ++ []) (shows state.keeper) = opens.opened.swept.tells t in
      swept.settled.only into.tables (back.image t) ∙ swept.same ∙ ap tables_of_rows (append-nil (current opens.opened.rows));
  made = back.made ∙ opens.opened.swept.made ∙ ap (made_swept opens.opened.rows) (opens.gave.heard.grows ∙ has.made);
  so = so;
}

-- the rows of an index are those of the edition
pub opened_rows : {K : Type 0} {told : Bool} {shows : K → ShownKeeper} {keeper : K} {state : StateFacts K} (id : List ℕ)
    (opens : Opens told shows keeper state)
    → row_lines (filter (λ row. has_id id row.reading) state.rows) ≡ row_lines (id_rows id opens.opened.rows)
opened_rows {K} id opens =
    ap (λ (st : StateFacts K). row_lines (filter (λ row. has_id id row.reading) st.rows)) opens.opened.value

-- what was read of an index that was opened, once its keeper went back
pub looks_by : {K : Type 0} (told : Bool) (shows : K → ShownKeeper) (id : List ℕ) {from mid into : ShownStore} {keeper given : K}
    {state : StateFacts K} (how : QueryEnd) → ReadsLines id state.rows how → Opens told shows keeper state → given ≡ state.keeper
    → HasAll told from (shows keeper) → TakesKeeperBack told (shows given) mid into → LooksBy told id from into how
looks_by told shows id (Refused fault) read opens same has back = absurd read
looks_by {K} told shows id {mid = mid} {into = into} (Read lines) read opens same has back =
    looks told shows (λ found. lines.items ≡ row_lines (id_rows id found)) opens has
    (subst (λ (k : K). TakesKeeperBack told (shows k) mid into) same back) (read ∙ opened_rows id opens)
looks_by {K} told shows id {mid = mid} {into = into} OutOfMemory read opens same has back =
    looks told shows (λ found. Unit {0}) opens has (subst (λ (k : K). TakesKeeperBack told (shows k) mid into) same back) tt

-- the store was opened by the path
looks_once : (path : List ℕ) (old new : ShownStore) (end : QueryEnd) → new.paths ≡ with_opened_path path old.paths
    → OpensOnce path old new end
looks_once path old new (Refused fault) h = opens_once path old new (ScanRefused fault) h
looks_once path old new (Read lines) h = h
looks_once path old new OutOfMemory h = h

module _ (told : Bool) (path id : List ℕ) where
  -- memory was refused before the store was opened
  pub queries_wanting : {old new : ShownStore} → new ≡ old → Queries told path id old new (Refused refusal.OutOfMemory)
  queries_wanting {old} {new} same = record {
    ends = record {
      tables = λ t. inl (ap (λ (o : ShownStore). o.tables) same);
      removed = [];
      front = inl refl;
      made = ap (λ (o : ShownStore). o.made) same ∙ none_swept old.made;
    };
    store = record { later = let a = ap (λ (o : ShownStore). o.faults) same in omega arith; rose = λ e. absurd (cc) };
    later = let a = ap (λ (o : ShownStore). o.epoch) same in omega arith;
    opened = λ e. absurd (cc);
    opens = inl (ap (λ (o : ShownStore). o.paths) same);
  }

  -- the store failed to be opened
  pub queries_closed : {old new : ShownStore} → FailsToOpen told path old new
      → Queries told path id old new (Refused refusal.KeeperFault)
  queries_closed {old} closed = record {
    ends = record { tables = λ t. inl (closed.tables t); removed = []; front = inl refl; made = closed.made ∙ none_swept old.made };
    store = record { later = closed.faults; rose = λ _. closed.cause };
    later = closed.later;
    opened = λ e. absurd (cc);
    opens = closed.paths;
  }

  -- the store was opened, and had its keeper back in the end
  pub queries_opened : {old mid new : ShownStore} {keeper given : ShownKeeper} (end : QueryEnd)
      → IsOpened told path old mid keeper → TakesKeeperBack told given mid new → LooksBy told id old new end
      → HasCause keeper.faults given.faults (IsTrue (is_look_fault end)) → Queries told path id old new end
  queries_opened {old} {mid} {new} end opened back ends cause = record {
    ends = ends;
    store = record {
      later = let a = opened.faults in let b = back.later in omega arith;
      rose = λ fails. rose_given opened.faults opened.holds.faultless (cause.rose fails) back.counted;
    };
    later = let a = opened.later in let b = back.number in omega arith;
    opened = λ _. let a = opened.rises in let b = back.number in omega arith;
    opens = looks_once path old new end (back.paths ∙ opened.paths);
  }

-- no lines are those of no row
lines_none : (rows : List RowFacts) → row_lines rows ≡ [] → rows ≡ []
lines_none [] e = refl
lines_none (row ∷ rows) e =
    let long : length (row_lines (row ∷ rows)) ≡ 0 = ap length e in
    let parts = length-append (row_line row) (row_lines rows) in
    let end = length-append (reading_word row.reading ++ codes " " ++ row.name.path) (10 ∷ []) in
    absurd (omega (arith, parts, end))

module _ {T : Type 0} (s : Setting T) (path id : List ℕ) (before after : CommandStage T) where
  abbrev QueriesTo : QueryEnd → Type 0
  QueriesTo end = Queries s.tells_tables path id before.store after.store end

  -- what was found is so, and the rows that were found are the tables of a store that tells
  told_found : {Of : List RowFacts → Type 0} (look : LooksInStore s.tells_tables before.store after.store Of)
      → IsTrue s.tells_tables → AreRows look.found before.store.tables
  told_found look tells = subst (λ values. AreRows look.found values) (look.held.gave.tells tells) look.held.sound

  -- of the lines of rows
  by_lines : (P : Status → Type 0) (bytes : List ℕ) (end : Status)
      → (bytes ≡ [] → P status.Absent)
      → ((bytes ≡ [] → ⊥) → GetsAll bytes before.streams.out after.streams.out → P status.Done)
      → (Rose before.streams.out.write_faults after.streams.out.write_faults → P status.Fault)
      → SaysLines bytes before.streams after.streams end → P end
  by_lines P [] end none some cut said = subst P (sym said.ends) (none refl)
  by_lines P (byte ∷ bytes) end none some cut (inl whole) =
      subst P (sym whole.ends) (some (λ e. let bad : length (byte ∷ bytes) ≡ 0 = ap length e in absurd (omega (arith, bad))) whole.out)
  by_lines P (byte ∷ bytes) end none some cut (inr short) = subst P (sym short.ends) (cut short.out.rose)

  -- what the status of a query says
  status_by : (how : QueryEnd) (end : Status) → QueriesTo how → SaysFound how before.streams after.streams end
      → QueryStatus s id before after end
  status_by (Refused refusal.KeeperFault) end q said =
      subst (QueryStatus s id before after) (sym said.ends) (inl (q.store.rose refl))
  status_by (Refused (refusal.BadRow kept fault)) end q said =
      subst (QueryStatus s id before after) (sym said.ends) (record {
        opened = q.opened refl;
        values = q.ends.values;
        gave = q.ends.gave;
        so = record { kept = kept; fault = fault; first = q.ends.why };
      })
  status_by (Refused refusal.LogFull) end q said =
      subst (QueryStatus s id before after) (sym said.ends)
      (record { opened = q.opened refl; values = q.ends.values; gave = q.ends.gave; so = q.ends.why })
  status_by (Refused refusal.OutOfMemory) end q said = subst (QueryStatus s id before after) (sym said.ends) tt
  status_by (Read lines) end q said =
      by_lines (QueryStatus s id before after) lines.items end
      (λ none. record {
        found = q.ends.found;
        held = q.ends.held;
        none = lines_none (id_rows id q.ends.found) (sym q.ends.so ∙ none);
      })
      (λ some got. record {
        found = q.ends.found;
        held = q.ends.held;
        some = λ none. some (q.ends.so ∙ ap row_lines none);
        lines = subst (λ bytes. GetsAll bytes before.streams.out after.streams.out) q.ends.so got;
      })
      (λ rose. inr rose) said
  status_by OutOfMemory end q said = subst (QueryStatus s id before after) (sym said.ends) tt

  pub query_status : (end : Status) → RunsQuery s path id before after end → QueryStatus s id before after end
  query_status end run = status_by run.answers.end end run.answers.queries run.answers.said

  -- a store that tells a bad value ends the query so
  bad_end : (how : QueryEnd) (end : Status) → IsTrue s.tells_tables → HasSomeBad before.store.tables → QueriesTo how
      → SaysFound how before.streams after.streams end → EndsOnlyWith status.BadRow before.store after.store end
  bad_end (Refused refusal.KeeperFault) end tells bad q said = inr (inl (said.ends, q.store.rose refl))
  bad_end (Refused (refusal.BadRow kept fault)) end tells bad q said = inl said.ends
  bad_end (Refused refusal.LogFull) end tells bad q said =
      absurd (none_bad bad.fault q.ends.why.sound
      (subst (λ values. Contains values bad.kept) (sym (q.ends.gave.tells tells)) bad.held) bad.bad)
  bad_end (Refused refusal.OutOfMemory) end tells bad q said = inr (inr said.ends)
  bad_end (Read lines) end tells bad q said = absurd (none_bad bad.fault (told_found q.ends tells) bad.held bad.bad)
  bad_end OutOfMemory end tells bad q said = inr (inr said.ends)

  -- one that tells too many rows ends it so
  full_end : (how : QueryEnd) (end : Status) → IsTrue s.tells_tables → IsOverfull before.store.tables → QueriesTo how
      → SaysFound how before.streams after.streams end → EndsOnlyWith status.Limit before.store after.store end
  full_end (Refused refusal.KeeperFault) end tells full q said = inr (inl (said.ends, q.store.rose refl))
  full_end (Refused (refusal.BadRow kept fault)) end tells full q said =
      absurd (none_bad fault (subst (λ values. AreRows full.rows values) (sym (q.ends.gave.tells tells)) full.sound)
      (first_held q.ends.why) q.ends.why.bad)
  full_end (Refused refusal.LogFull) end tells full q said = inl said.ends
  full_end (Refused refusal.OutOfMemory) end tells full q said = inr (inr said.ends)
  full_end (Read lines) end tells full q said = absurd (none_overfull (told_found q.ends tells) q.ends.held.few full)
  full_end OutOfMemory end tells full q said = inr (inr said.ends)

  -- one that nothing stands against is answered
  free_end : (how : QueryEnd) (end : Status) → IsFreeQuery s before after → QueriesTo how
      → SaysFound how before.streams after.streams end → IsQueryAnswered end
  free_end (Refused refusal.KeeperFault) end free q said = absurd (free.store (q.store.rose refl))
  free_end (Refused (refusal.BadRow kept fault)) end free q said =
      absurd (none_bad fault (subst (λ values. AreRows free.rows values) (sym (q.ends.gave.tells free.tells)) free.held)
      (first_held q.ends.why) q.ends.why.bad)
  free_end (Refused refusal.LogFull) end free q said =
      absurd (none_overfull free.held free.few (subst (λ values. IsOverfull values) (q.ends.gave.tells free.tells) q.ends.why))
  free_end (Refused refusal.OutOfMemory) end free q said = subst IsQueryAnswered (sym said.ends) tt
  free_end (Read lines) end free q said =
      by_lines IsQueryAnswered lines.items end (λ none. tt) (λ some got. tt) (λ rose. absurd (free.out rose)) said
  free_end OutOfMemory end free q said = subst IsQueryAnswered (sym said.ends) tt

  -- how a query ends when
  pub query_ends : (end : Status) → RunsQuery s path id before after end → QueryEnds s before after end
  query_ends end run = record {
    bad = λ tells bad. bad_end run.answers.end end tells bad run.answers.queries run.answers.said;
    overfull = λ tells full. full_end run.answers.end end tells full run.answers.queries run.answers.said;
    complete = λ free. free_end run.answers.end end free run.answers.queries run.answers.said;
  }
