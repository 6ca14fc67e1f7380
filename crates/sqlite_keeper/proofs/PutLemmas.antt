-- What the store's upsert changes, by path.
use Rattle.std.proofs.Common.{◌≡◌, inl, inr, ℕ, ℤ, Bool, true, false, cond, List, [], ◌∷◌, ◌++◌, map, Ok, Option, None, Some, refl, sym, ◌∙◌, ap, subst}
use Rattle.std.specs.Prelude.{◌&&◌, ◌||◌, if◌then◌else◌, drop, MatchBool}
use Rattle.std.specs.List.{list_all}
use Rattle.std.proofs.lemmas.Bool.{false≢true, false_from_ne_true, and_parts}
use Rattle.sqlite_value.specs.declared.value.Value.{Value}
use Rattle.sqlite_value.specs.declared.value.Value.TheVariants.{Null, Int, Text, Blob}
use Rattle.sqlite_value.specs.Order.{Row}
use Rattle.sqlite_trees.specs.Tree.{Trees, rowid, has_rowid}
use Rattle.sqlite_sql.specs.Term.{Term, holds, eval_all, col, op2}
use Rattle.sqlite_sql.specs.Program.{overlay}
use Rattle.sqlite_sql.specs.declared.ops.BinaryOp.TheVariants.{Compare}
use Rattle.sqlite_sql.specs.declared.ops.CompareOp.TheVariants.{Eq}
use Rattle.sqlite_value.specs.declared.keys.Collation.TheVariants.{Binary}
use Rattle.sqlite_sql.specs.Query.{IsAnswer}
use Rattle.sqlite_sql.specs.Ops.{unary}
use Rattle.sqlite_schema.specs.declared.schema.Keys.{Keys}
use Rattle.sqlite_schema.specs.declared.command.Conflict.TheVariants.{Abort}
use Rattle.sqlite_schema.specs.declared.command.Upsert.{Upsert}
use Rattle.sqlite_schema.specs.declared.program.Program.{Program}
use Rattle.sqlite_schema.specs.declared.schema.Kind.TheVariants.{Integer}
use Rattle.sqlite_schema.specs.Rules.{agree}
use Rattle.sqlite_rules.specs.Lists.{Has}
use Rattle.sqlite_rules.specs.Calls.{ids_of}
use Rattle.sqlite_rules.specs.Cast.{cast, cast_row}
use Rattle.sqlite_rules.specs.Keys.{AreConflicts, conflicts}
use Rattle.sqlite_rules.specs.Edit.{Edit, id_in, edit_of, numbered, with_rowid, next_rowid, put_all, without_all, are_fresh, Applies}
use Rattle.sqlite_rules.specs.declared.error.Rowids.TheVariants.{Given, Chosen}
use Rattle.sqlite_rules.specs.declared.error.Refusal.{Refusal}
use Rattle.sqlite_rules.proofs.TableLemmas.{without_all_has, put_all_has, put_all_keeps, put_all_adds}
use Rattle.sqlite.specs.Effect.{Database, IsDatabase, edit_error}
use Rattle.sqlite.specs.Does.{Tally, Does}
use Rattle.sqlite.specs.declared.error.Error.{Error}
use Rattle.sqlite.specs.Rows.{Written, Task, Gives, Refuses, Upserts, Meets, Judged, Tries, TriesEach, Puts, Updates, Clears, count_of, nothing, passes_over, shown}
use Rattle.sqlite.specs.State.{State, Shows, mode_of, Executes}
use Rattle.sqlite.specs.Listing.{understood}
use Rattle.sqlite.proofs.Callers.{statement_of, runs_as, one_step}
use Rattle.sqlite_keeper.specs.Stored.{stored_row}
use Rattle.sqlite_schema.specs.declared.schema.Table.{Table}
use Rattle.sqlite_keeper.specs.Schema.{kept_index, rows_table, store_of}
use Rattle.sqlite_keeper.specs.Commands.{put_command, plain_query}
use Rattle.sqlite_keeper.specs.Statements.{put_text}
use Rattle.sqlite_keeper.proofs.HasLemmas.{has_map, map_has}
use Rattle.sqlite_keeper.proofs.KeptLemmas.{path_in, IsWith}
use Rattle.sqlite_keeper.proofs.QueryLemmas.{answer_from, answer_to}
use Rattle.sqlite_keeper.proofs.RowLemmas.{AreKept, IsKeptRow, agreeing, agreed, ints_equal, equal_ints}
use Rattle.sqlite_keeper.proofs.StatementLemmas.{put_is, put_plain, went, same_value, without_not, without_has, same_row, has_its}

either : (b : Bool) (x : Value) → cond b x x ≡ x
either true x = refl
either false x = refl

cast_null : cast Integer Null ≡ Null
unfolding unary
cast_null = either _ Null

cast_int : (n : ℤ) → cast Integer (Int n) ≡ Int n
unfolding unary
cast_int n = either _ (Int n)

-- a row of these
abbrev row_of : ℤ → List ℕ → List ℕ → Row
row_of id path body = Int id ∷ Text path ∷ Blob body ∷ []

of_parts : (id : ℤ) (path body : List ℕ) → IsKeptRow (row_of id path body)
of_parts id path body = record { id = id; path = path; body = body; is = refl }

-- the row that the statement makes, and what a second cast makes of it
fresh_row : (rows : List Row) (path body : List ℕ) → with_rowid Chosen rows (cast_row rows_table (Null ∷ Text path ∷ Blob body ∷ [])) ≡ row_of (next_rowid rows) path body
fresh_row rows path body = rw cast_null refl

cast_again : (id : ℤ) (path body : List ℕ) → cast_row rows_table (row_of id path body) ≡ row_of id path body
cast_again id path body = ap (λ (v : Value). v ∷ Text path ∷ Blob body ∷ []) (cast_int id)

-- given numbers stay
numbered_given : (news rows : List Row) → numbered Given rows news ≡ news
numbered_given [] rows = refl
numbered_given (r ∷ news) rows = ap (λ l. r ∷ l) (numbered_given news _)

-- a row of the path stands in the way of the new one, and what does has the path
in_the_way : (r : Row) (x : IsKeptRow r) (id : ℤ) (path body : List ℕ) → x.path ≡ path → conflicts (Some (1 ∷ [])) (kept_index ∷ []) rows_table (row_of id path body) r ≡ true
in_the_way r x id path body e =
    subst (λ (q : Row). conflicts (Some (1 ∷ [])) (kept_index ∷ []) rows_table (row_of id path body) q ≡ true) (sym x.is)
    (ap (λ b. b || false) (agreeing x.id id x.path path x.body body e))

way_path : (r : Row) (x : IsKeptRow r) (id : ℤ) (path body : List ℕ) → conflicts (Some (1 ∷ [])) (kept_index ∷ []) rows_table (row_of id path body) r ≡ true → x.path ≡ path
way_path r x id path body e =
    agreed x.id id x.path path x.body body
    (first_of (agree (record { digits = 0 }) (1 ∷ []) (row_of x.id x.path x.body) (1 ∷ []) (row_of id path body))
    (subst (λ (q : Row). conflicts (Some (1 ∷ [])) (kept_index ∷ []) rows_table (row_of id path body) q ≡ true) x.is e))
  where
    first_of : (b : Bool) → (b || false) ≡ true → b ≡ true
    first_of true p = refl
    first_of false p = p

-- what the parts of the statement read
abbrev task_of : Table → Option ℕ → Keys → Row → Task
task_of second limit keys params = record { limit = limit; keys = keys; schema = store_of second; table = rows_table; params = params }

abbrev at_number : List Term
at_number = op2 (Compare Eq Binary) (col 1 0) (col 0 2) ∷ []

abbrev renewed : List Term
renewed = col 1 0 ∷ col 1 0 ∷ col 1 1 ∷ col 0 5 ∷ []

abbrev renewal : Program
renewal = record { lets = []; body = plain_query at_number renewed [] }

abbrev clause : Upsert
clause = record { target = Some (1 ∷ []); update = Some renewal }

module _ (second : Table) (limit : Option ℕ) (keys : Keys) (db : Trees) (path body : List ℕ) (rows_are : AreKept (db 0)) where
  abbrev params : Row
  params = Text path ∷ Blob body ∷ []

  abbrev task : Task
  task = task_of second limit keys params

  -- a row is added, where none has the path
  added : (id : ℤ) (written : Written) → ((r : Row) → Has (db 0) r → path_in r ≡ path → ⊥) → Puts task (row_of id path body) db (Ok written) → IsWith path body (db 0) (written.trees 0)
  added id written none h =
      let put = went h in
      let new = row_of id path body in
      let edit : Edit = edit_of db rows_table [] Given 0 (new ∷ []) in
      let applies : Applies (store_of second) keys db edit put.0 = one_step (store_of second) keys db put.0 edit refl put.1 in
      let news : edit.news ≡ new ∷ [] = numbered_given (cast_row rows_table new ∷ []) (db 0) ∙ ap (λ (r : Row). r ∷ []) (cast_again id path body) in
      let fresh = subst (λ (l : List Row). are_fresh (db 0) l ≡ true) news applies.fresh in
      let rows : written.trees 0 ≡ put_all (db 0) (new ∷ []) =
      ap (λ (w : Written). w.trees 0) (same_value put.2) ∙ applies.rows ∙ ap (put_all (db 0)) news in
      subst (IsWith path body (db 0)) (sym rows) (record {
        from = λ r g. elim (put_all_has (new ∷ []) (db 0) r g) [ inl own ↦ inr (only r own) | inr old ↦ inl (old, none r old) ];
        to = λ r g differs. put_all_keeps (new ∷ []) (db 0) r fresh g;
        its = new;
        there = put_all_adds (new ∷ []) (db 0) new fresh (inl refl);
        is = refl;
      })
    where
      only : (r : Row) → Has (row_of id path body ∷ []) r → stored_row r ≡ record { path = path; bytes = body }
      only r (inl e) = ap stored_row e
      only r (inr absent) = absurd absent

  -- what the renewal is given: the parameters, the number of the row in the way, and the new row
  abbrev given_for : ℤ → ℤ → Row
  given_for there id = Text path ∷ Blob body ∷ Int there ∷ Int id ∷ Text path ∷ Blob body ∷ []

  -- the row in the way is renewed
  replaced : (r : Row) (y : IsKeptRow r) (id : ℤ) (written : Written) → Has (db 0) r → y.path ≡ path → Updates task renewal (given_for y.id id) db (Ok written) → IsWith path body (db 0) (written.trees 0)
  replaced r y id written hr same h =
      let given : Row = given_for y.id id in
      let asked = went h in
      let put = went asked.2 in
      let a : IsAnswer (plain_query at_number renewed []) (overlay db []) given asked.0 = asked.1.answer Null in
      let edit : Edit = edit_of db rows_table (ids_of asked.0) Given 1 asked.0 in
      let applies : Applies (store_of second) keys db edit put.0 = one_step (store_of second) keys db put.0 edit refl put.1 in
      let sources : List Row = map (λ s. cast_row rows_table (drop 1 s)) asked.0 in
      let left : List Row = without_all (db 0) (ids_of asked.0) in
      let its : Row = row_of y.id y.path body in
      let news : edit.news ≡ sources = numbered_given sources left in
      let fresh : are_fresh left sources ≡ true = subst (λ (l : List Row). are_fresh left l ≡ true) news applies.fresh in
      let rows : written.trees 0 ≡ put_all left sources = ap (λ (w : Written). w.trees 0) (same_value put.2) ∙ applies.rows ∙ ap (put_all left) news in
      let only : (s : Row) → Has (db 0) s → list_all (holds (given ∷ s ∷ [])) at_number ≡ true → s ≡ r =
      λ s hs passes.
      let z = rows_are.typed s hs in
      let number : z.id ≡ y.id = ints_equal z.id y.id (and_parts _ _ (subst (λ (q : Row). list_all (holds (given ∷ q ∷ [])) at_number ≡ true) z.is passes)).0 in
      same_row (db 0) s r z y rows_are hs hr (ap (λ i. has_rowid i s) (sym number) ∙ has_its s z) in
      let shown_is : (s : Row) → s ≡ r → eval_all renewed (given ∷ s ∷ []) ≡ Int y.id ∷ Int y.id ∷ Text y.path ∷ Blob body ∷ [] =
      λ s e. ap (λ (q : Row). eval_all renewed (given ∷ q ∷ [])) (e ∙ y.is) in
      let asked_for : Has asked.0 (Int y.id ∷ Int y.id ∷ Text y.path ∷ Blob body ∷ []) =
      subst (Has asked.0) (shown_is r refl)
      (answer_to db given asked.0 at_number renewed [] a r hr
      (subst (λ (q : Row). list_all (holds (given ∷ q ∷ [])) at_number ≡ true) (sym y.is) (ap (λ b. b && true) (equal_ints y.id y.id refl)))) in
      let each : (q : Row) → Has asked.0 q → q ≡ Int y.id ∷ Int y.id ∷ Text y.path ∷ Blob body ∷ [] =
      λ q hq. let s = answer_from db given asked.0 at_number renewed [] a q hq in s.3 ∙ shown_is s.0 (only s.0 s.1 s.2) in
      let made : (w : Row) → Has sources w → w ≡ its =
      λ w hw. let q = has_map (λ s. cast_row rows_table (drop 1 s)) asked.0 w hw in q.2 ∙ ap (λ (z : Row). cast_row rows_table (drop 1 z)) (each q.0 q.1) ∙ cast_again y.id y.path body in
      let there : Has sources its =
      subst (Has sources) (cast_again y.id y.path body) (map_has (λ s. cast_row rows_table (drop 1 s)) asked.0 _ asked_for) in
      let ids : (i : ℤ) → Has (ids_of asked.0) i → i ≡ y.id =
      λ i hi. let q = has_map (λ s. id_in (rowid s)) asked.0 i hi in q.2 ∙ ap (λ (z : Row). id_in (rowid z)) (each q.0 q.1) in
      let gone : Has (ids_of asked.0) y.id = map_has (λ s. id_in (rowid s)) asked.0 _ asked_for in
      let is : stored_row its ≡ record { path = path; bytes = body } = ap (λ p. stored_row (row_of y.id p body)) same in
      let others : (w : Row) → Has left w → path_in w ≡ path → ⊥ =
      λ w hw e.
      let hold = without_all_has (ids_of asked.0) (db 0) w hw in
      let one : w ≡ r = rows_are.apart w r hold hr (e ∙ sym same ∙ sym (ap path_in y.is)) in
      false≢true (sym (without_not (ids_of asked.0) (db 0) w y.id hw gone) ∙ ap (has_rowid y.id) one ∙ has_its r y) in
      subst (IsWith path body (db 0)) (sym rows) (record {
        from = λ w g. elim (put_all_has sources left w g) [
          | inl new ↦ inr (ap stored_row (made w new) ∙ is)
          | inr old ↦ inl (without_all_has (ids_of asked.0) (db 0) w old, others w old)
        ];
        to = λ w g differs.
            let z = rows_are.typed w g in
            put_all_keeps sources left w fresh
            (without_has (ids_of asked.0) (db 0) w g (λ i hi.
            false_from_ne_true (has_rowid i w) (λ e.
            differs (ap path_in (same_row (db 0) w r z y rows_are g hr (ap (λ j. has_rowid j w) (sym (ids i hi)) ∙ e)) ∙ ap path_in y.is ∙ same))));
        its = its;
        there = put_all_adds sources left its fresh there;
        is = is;
      })

  clears : (id : ℤ) (written : Written) (found : List Row) → Clears task Abort (row_of id path body) db found (Ok written) → Puts task (row_of id path body) db (Ok written)
  clears id written [] h = h
  clears id written (x ∷ more) h = h

  met : (id : ℤ) (written : Written) (found : List Row) → AreConflicts (Some (1 ∷ [])) (kept_index ∷ []) rows_table (db 0) (row_of id path body) found
      → Meets task (Upserts task Abort (row_of id path body) db []) (row_of id path body) db clause found (Ok written) → IsWith path body (db 0) (written.trees 0)
  met id written [] c m =
      added id written (λ r g e. let x = rows_are.typed r g in c.complete r g (in_the_way r x id path body (sym (ap path_in x.is) ∙ e))) (clears id written m.0 m.2)
  met id written (there ∷ more) c m =
      let s = c.sound there (inl refl) in
      let y = rows_are.typed s.0 s.1 in
      replaced s.0 y id written s.1 (way_path s.0 y id path body s.2)
      (subst (λ (t : Row). Updates task renewal (params ++ rowid t ∷ shown rows_table (row_of id path body)) db (Ok written)) (s.3 ∙ ap (λ (q : Row). rowid q ∷ []) y.is) m)

  never_over : (why : Refusal) → passes_over Abort why ≡ false
  never_over why = refl

  refused : (b : Bool) (written : Written) (e : Error) → b ≡ false → MatchBool b (Gives (nothing db) (Ok written)) (Refuses e (Ok written)) → ⊥
  refused true written e off h = absurd (false≢true (sym off))
  refused false written e off h = cc

  judged : (id : ℤ) (written : Written) (verdict : Option Refusal) → Judged task Abort (clause ∷ []) (row_of id path body) db verdict (Ok written) → IsWith path body (db 0) (written.trees 0)
  judged id written None h = met id written h.0 h.1 h.2
  judged id written (Some why) h = absurd (refused (passes_over Abort why) written (edit_error why) (never_over why) h)

  tried : (id : ℤ) (written : Written) → Tries task Abort (clause ∷ []) (row_of id path body) db (Ok written) → IsWith path body (db 0) (written.trees 0)
  tried id written (inl unfit) = absurd (let e = unfit.1 in cc)
  tried id written (inr went_on) = judged id written went_on.0 went_on.2

-- the statement keeps the bytes under the path
pub puts : (second : Table) (old new : State) (path body : List ℕ) (count : ℕ) → old.now.schema ≡ (store_of second) → AreKept (old.now.trees 0) → Executes put_text (Text path ∷ Blob body ∷ []) old new (Ok count)
    → (new.now.schema ≡ (store_of second)) × IsDatabase new.now × Shows old new new.now (if old.in_transaction then old.committed else new.now) old.in_transaction × IsWith path body (old.now.trees 0) (new.now.trees 0)
puts second old new path body count has rows_are h =
    let params : Row = Text path ∷ Blob body ∷ [] in
    let db = old.now.trees in
    let w = runs_as put_text params old new (store_of second) has put_command (put_is second) (put_plain second) count h in
    let text = statement_of put_text (understood (store_of second) put_text) in
    let done = went (subst (λ s. Does old.step_limit (mode_of old) params (record old.now { schema = s }) text None put_command (Ok (w.tally, new.now))) has w.changed) in
    let now = ap (λ (p : Tally × Database). p.1) (same_value (went (went done.2).2).2) in
    let given = went done.1 in
    let counter = went given.2 in
    let tries = went counter.2 in
    let counts = went tries.2 in
    let task : Task = task_of second old.step_limit (mode_of old).keys params in
    let source : Row = Null ∷ Text path ∷ Blob body ∷ [] in
    let each : TriesEach task Abort (clause ∷ []) (source ∷ []) (count_of counter.0) (nothing db) (Ok tries.0) =
    subst (λ (rows : List Row). TriesEach task Abort (clause ∷ []) rows (count_of counter.0) (nothing db) (Ok tries.0)) given.1.1 tries.1 in
    let one = went each in
    let its : Tries task Abort (clause ∷ []) (row_of (next_rowid (db 0)) path body) db (Ok one.0) =
    subst (λ (r : Row). Tries task Abort (clause ∷ []) r db (Ok one.0)) (fresh_row (db 0) path body) one.1 in
    let trees : done.0.trees ≡ one.0.trees =
    ap (λ (it : Written). it.trees) (same_value counts.2) ∙ same_value counts.1 ∙ ap (λ (it : Written × ℤ). it.0.trees) (same_value one.2) in
    let left : new.now.trees 0 ≡ one.0.trees 0 = ap (λ (d : Database). d.trees 0) now ∙ ap (λ (t : Trees). t 0) trees in
    (ap (λ (d : Database). d.schema) now, w.sound, w.shown, subst (IsWith path body (db 0)) (sym left) (tried second old.step_limit (mode_of old).keys db path body rows_are (next_rowid (db 0)) one.0 its))
