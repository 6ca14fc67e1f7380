-- What the store's statements give and change, by path.
use Rattle.std.proofs.Common.{◌≡◌, ◌⊎◌, inl, inr, ℕ, ℤ, Bool, true, false, List, [], ◌∷◌, map, Ok, Err, Result, None, refl, sym, ◌∙◌, ap, subst}
use Rattle.std.specs.Prelude.{not, ◌&&◌, if◌then◌else◌}
use Rattle.std.specs.Ordering.{is_eq}
use Rattle.std.specs.declared.cmp.Ordering.{Ordering}
use Rattle.std.specs.declared.cmp.Ordering.TheVariants.{Less, Equal, Greater}
use Rattle.std.proofs.lemmas.Bool.{false≢true, false_from_ne_true, and_parts}
use Rattle.std.proofs.lemmas.Cmp.{tied_itself}
use Rattle.sqlite_value.specs.declared.value.Value.TheVariants.{Null, Int, Text}
use Rattle.sqlite_value.specs.Order.{Row, value_cmp}
use Rattle.sqlite_value.proofs.OrderLemmas.{value_cmp_total}
use Rattle.sqlite_trees.specs.Tree.{Trees, rowid, has_rowid, without_rowid}
use Rattle.sqlite_sql.specs.Term.{holds, col}
use Rattle.sqlite_sql.specs.Program.{overlay}
use Rattle.sqlite_sql.specs.Query.{IsAnswer}
use Rattle.std.specs.List.{list_all}
use Rattle.sqlite_rules.specs.Lists.{Has}
use Rattle.sqlite_rules.specs.Calls.{ids_of}
use Rattle.sqlite_rules.specs.Edit.{id_in, edit_of, without_all}
use Rattle.sqlite_rules.specs.declared.error.Rowids.TheVariants.{Given}
use Rattle.sqlite_rules.proofs.ListLemmas.{has_filtered, has_kept}
use Rattle.sqlite_rules.proofs.TableLemmas.{without_all_has}
use Rattle.sqlite.specs.Table.{Table}
use Rattle.sqlite_tied.specs.Compute.{everything}
use Rattle.sqlite.specs.Listing.{understood, reads_listing}
use Rattle.sqlite.specs.Effect.{Database, IsDatabase}
use Rattle.sqlite.specs.Does.{Tally, Does}
use Rattle.sqlite.specs.Rows.{Written}
use Rattle.sqlite.specs.State.{State, Shows, mode_of, Executes, Shown}
use Rattle.sqlite.proofs.Callers.{IsPlain, command_of, statement_of, runs_as, reads_as, one_step}
use Rattle.index_keeper.specs.Tables.{KeptFacts, AscendsByPath}
use Rattle.sqlite_keeper.specs.Stored.{stored_row, stored_tables}
use Rattle.sqlite_keeper.specs.Schema.{rows_table, store_of}
use Rattle.sqlite_keeper.specs.Commands.{rows_command, remove_command, put_command, at_path, plain_query}
use Rattle.sqlite_keeper.specs.Reading.{shown_kept}
use Rattle.sqlite_keeper.specs.Statements.{rows_query, put_text, remove_text}
use Rattle.sqlite_keeper.proofs.HasLemmas.{has_map, map_has}
use Rattle.sqlite_keeper.proofs.KeptLemmas.{path_in, listed, IsWithout}
use Rattle.sqlite_keeper.proofs.QueryLemmas.{answer_from, answer_to}
use Rattle.sqlite_keeper.proofs.RowLemmas.{AreKept, IsKeptRow, one_int, one_number, texts_equal, equal_texts}

rows_is : (second : Table) → (command_of (understood (store_of second) rows_query) ≡ rows_command) × (reads_listing (store_of second) rows_query ≡ false)
unfolding understood everything
rows_is second = (refl, refl)

pub rows_plain : (second : Table) → IsPlain (understood (store_of second) rows_query)
unfolding understood everything
rows_plain second = (refl, refl)

remove_is : (second : Table) → command_of (understood (store_of second) remove_text) ≡ remove_command
unfolding understood everything
remove_is second = refl

remove_plain : (second : Table) → IsPlain (understood (store_of second) remove_text)
unfolding understood everything
remove_plain second = (refl, refl)

pub put_is : (second : Table) → command_of (understood (store_of second) put_text) ≡ put_command
unfolding understood everything
put_is second = refl

pub put_plain : (second : Table) → IsPlain (understood (store_of second) put_text)
unfolding understood everything
put_plain second = (refl, refl)

-- the rows that the query showed, strictly by path, are the tables
pub shows : (second : Table) (old new : State) (rows : List Row) (items : List KeptFacts) → old.now.schema ≡ (store_of second) → AreKept (old.now.trees 0) → Shown rows_query [] old new rows
    → items ≡ map shown_kept rows → AscendsByPath items → items ≡ stored_tables (old.now.trees 0)
shows second old new rows items has kept h is ascends =
    let answers = reads_as rows_query [] old new (store_of second) has rows_command (rows_is second).0 (rows_plain second) (rows_is second).1 rows h in
    let a = answers.answer Null in
    listed (old.now.trees 0) items kept.apart ascends
    (λ k g. let x = has_map shown_kept rows k (subst (λ l. Has l k) is g) in let r = answer_from old.now.trees [] rows _ _ _ a x.0 x.1 in (r.0, r.1, x.2 ∙ ap shown_kept r.3))
    (λ r g. subst (λ l. Has l (stored_row r)) (sym is) (map_has shown_kept rows _ (answer_to old.now.trees [] rows _ _ _ a r g refl)))

-- a row that is left has another number than those that are taken
pub without_not : (ids : List ℤ) (rows : List Row) (x : Row) (id : ℤ) → Has (without_all rows ids) x → Has ids id → has_rowid id x ≡ false
without_not [] rows x id h g = absurd g
without_not (i ∷ ids) rows x id h (inl e) =
    let passes = (has_filtered (λ r. not (has_rowid i r)) rows x (without_all_has ids (without_rowid i rows) x h)).1 in
    false_of (has_rowid id x) (ap (λ j. not (has_rowid j x)) e ∙ passes)
  where
    false_of : (b : Bool) → not b ≡ true → b ≡ false
    false_of true p = absurd (false≢true p)
    false_of false p = refl
without_not (i ∷ ids) rows x id h (inr g) = without_not ids (without_rowid i rows) x id h g

-- and a row with another number is left
pub without_has : (ids : List ℤ) (rows : List Row) (x : Row) → Has rows x → ((id : ℤ) → Has ids id → has_rowid id x ≡ false) → Has (without_all rows ids) x
without_has [] rows x h others = h
without_has (i ∷ ids) rows x h others =
    without_has ids (without_rowid i rows) x (has_kept (λ r. not (has_rowid i r)) rows x h (ap not (others i (inl refl)))) (λ id g. others id (inr g))

has_itself : (id : ℤ) → has_rowid id (Int id ∷ []) ≡ true
has_itself id = ap is_eq (tied_itself value_cmp_total (Int id))

-- a row of the number of a row is that row
pub same_row : (rows : List Row) (r s : Row) (x : IsKeptRow r) (y : IsKeptRow s) → AreKept rows → Has rows r → Has rows s → has_rowid y.id r ≡ true → r ≡ s
same_row rows r s x y kept p q e =
    one_number rows r s kept.numbers p q
    (ap rowid x.is ∙ ap Int (one_int x.id y.id (of (value_cmp (Int x.id) (Int y.id)) (ap (λ w. is_eq (value_cmp (rowid w) (Int y.id))) (sym x.is) ∙ e))) ∙ ap rowid (sym y.is))
  where
    of : (o : Ordering) → is_eq o ≡ true → o ≡ Equal
    of Less p = absurd (false≢true p)
    of Equal p = refl
    of Greater p = absurd (false≢true p)

pub went : {B E R : Type 0} {b : B} {Stops : E → Type 0} → ((stop : E) × Stops stop × (Ok b ≡ Err stop)) ⊎ R → R
went (inl stopped) = absurd (let e = stopped.2 in cc)
went (inr on) = on

pub same_value : {B E : Type 0} {a b : B} → ◌≡◌ {A = Result B E} (Ok a) (Ok b) → a ≡ b
same_value e = cc

-- the test of the statement, of a row that has the path
passes_path : (r : Row) (x : IsKeptRow r) (path : List ℕ) → x.path ≡ path → list_all (holds ((Text path ∷ []) ∷ r ∷ [])) at_path ≡ true
passes_path r x path e =
    subst (λ (q : Row). list_all (holds ((Text path ∷ []) ∷ q ∷ [])) at_path ≡ true) (sym x.is) (ap (λ b. b && true) (equal_texts x.path path e))

path_passes : (r : Row) (x : IsKeptRow r) (path : List ℕ) → list_all (holds ((Text path ∷ []) ∷ r ∷ [])) at_path ≡ true → x.path ≡ path
path_passes r x path e =
    texts_equal x.path path (and_parts _ _ (subst (λ (q : Row). list_all (holds ((Text path ∷ []) ∷ q ∷ [])) at_path ≡ true) x.is e)).0

pub its_number : (r : Row) (x : IsKeptRow r) → id_in (rowid r) ≡ x.id
its_number r x = ap (λ (q : Row). id_in (rowid q)) x.is

pub has_its : (r : Row) (x : IsKeptRow r) → has_rowid x.id r ≡ true
has_its r x = ap (has_rowid x.id) x.is ∙ ap is_eq (tied_itself value_cmp_total (Int x.id))

-- the rows that are left once those of a path are taken
taken : (db : Trees) (path : List ℕ) (found : List Row) → AreKept (db 0) → IsAnswer (plain_query at_path (col 1 0 ∷ []) []) (overlay db []) (Text path ∷ []) found → IsWithout path (db 0) (without_all (db 0) (ids_of found))
taken db path found kept a = record {
  from = λ r h.
      let there : Has (db 0) r = without_all_has (ids_of found) (db 0) r h in
      let x = kept.typed r there in (
        there,
        λ e.
            let asked : Has found (rowid r ∷ []) = answer_to db (Text path ∷ []) found at_path (col 1 0 ∷ []) [] a r there (passes_path r x path (sym (ap path_in x.is) ∙ e)) in
            let its : Has (ids_of found) (id_in (rowid r)) = map_has (λ q. id_in (rowid q)) found (rowid r ∷ []) asked in
            false≢true (sym (without_not (ids_of found) (db 0) r x.id h (subst (Has (ids_of found)) (its_number r x) its)) ∙ has_its r x),
      );
  to = λ r h differs.
      let x = kept.typed r h in
      without_has (ids_of found) (db 0) r h (λ id g.
      let q = has_map (λ q. id_in (rowid q)) found id g in
      let s = answer_from db (Text path ∷ []) found at_path (col 1 0 ∷ []) [] a q.0 q.1 in
      let y = kept.typed s.0 s.1 in
      let number : id ≡ y.id = q.2 ∙ ap (λ (z : Row). id_in (rowid z)) s.3 ∙ its_number s.0 y in
      false_from_ne_true (has_rowid id r) (λ same.
      differs (ap path_in (same_row (db 0) r s.0 x y kept h s.1 (ap (λ i. has_rowid i r) (sym number) ∙ same)) ∙ ap path_in y.is ∙ path_passes s.0 y path s.2)));
}

pub removes : (second : Table) (old new : State) (path : List ℕ) (count : ℕ) → old.now.schema ≡ (store_of second) → AreKept (old.now.trees 0) → Executes remove_text (Text path ∷ []) old new (Ok count)
    → (new.now.schema ≡ (store_of second)) × IsDatabase new.now × Shows old new new.now (if old.in_transaction then old.committed else new.now) old.in_transaction × IsWithout path (old.now.trees 0) (new.now.trees 0)
removes second old new path count has kept_now h =
    let params : Row = Text path ∷ [] in
    let db = old.now.trees in
    let w = runs_as remove_text params old new (store_of second) has remove_command (remove_is second) (remove_plain second) count h in
    let text = statement_of remove_text (understood (store_of second) remove_text) in
    let done = went (subst (λ s. Does old.step_limit (mode_of old) params (record old.now { schema = s }) text None remove_command (Ok (w.tally, new.now))) has w.changed) in
    let now = ap (λ (p : Tally × Database). p.1) (same_value (went (went done.2).2).2) in
    let asked = went done.1 in
    let written = went asked.2 in
    let trees : done.0.trees ≡ written.0 = ap (λ (it : Written). it.trees) (same_value written.2) in
    let rows = (one_step (store_of second) _ db written.0 (edit_of db rows_table (ids_of asked.0) Given 0 []) refl written.1).rows in
    let left : new.now.trees 0 ≡ without_all (db 0) (ids_of asked.0) = ap (λ (d : Database). d.trees 0) now ∙ ap (λ (t : Trees). t 0) trees ∙ rows in
    (ap (λ (d : Database). d.schema) now, w.sound, w.shown, subst (IsWithout path (db 0)) (sym left) (taken db path asked.0 kept_now (asked.1.answer Null)))
