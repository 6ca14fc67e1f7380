-- The statement that raises the number of openings writes the second table alone, whatever the CHECKs of that one ask.
use Rattle.std.proofs.Common.{◌≡◌, inl, inr, ℕ, ℤ, true, false, List, [], ◌∷◌, Ok, Option, None, Some, refl, sym, ◌∙◌, ap, subst}
use Rattle.std.specs.Prelude.{IfOk, MatchBool, ◌==◌, codes, length}
use Rattle.sqlite_value.specs.Order.{Row}
use Rattle.sqlite_trees.specs.Tree.{Trees}
use Rattle.sqlite_ast.specs.declared.Conflict.TheVariants as conflict
use Rattle.sqlite_ast.specs.declared.Rows.{Rows}
use Rattle.sqlite_ast.specs.declared.Statement.{Statement}
use Rattle.sqlite_ast.specs.declared.Statement.TheVariants as written
use Rattle.sqlite_ast.specs.declared.Upsert.{Upsert as Clause}
use Rattle.sqlite_schema.specs.declared.command.Command.{Command}
use Rattle.sqlite_schema.specs.declared.command.Command.TheVariants.{InsertOr}
use Rattle.sqlite_schema.specs.declared.command.Conflict.{Conflict}
use Rattle.sqlite_schema.specs.declared.command.Conflict.TheVariants.{Abort, Ignore, Replace}
use Rattle.sqlite_schema.specs.declared.command.Returning.{Returning}
use Rattle.sqlite_schema.specs.declared.command.Source.{Source}
use Rattle.sqlite_schema.specs.declared.command.Upsert.{Upsert}
use Rattle.sqlite_schema.specs.declared.program.Program.{Program}
use Rattle.sqlite_schema.specs.declared.schema.Keys.{Keys}
use Rattle.sqlite_schema.specs.declared.schema.Table.{Table}
use Rattle.sqlite_rules.specs.Edit.{edit_of}
use Rattle.sqlite_rules.specs.declared.error.Refusal.{Refusal}
use Rattle.sqlite_rules.specs.declared.error.Rowids.{Rowids}
use Rattle.sqlite_rules.specs.declared.error.Rowids.TheVariants.{Given}
use Rattle.sqlite_rules.specs.Calls.{ids_of}
use Rattle.sqlite_resolve.specs.Body.{table_at}
use Rattle.sqlite_resolve.specs.Compile.{command, compiled, first, insert_or, insert_or_abort, new_rows, target}
use Rattle.sqlite_resolve.specs.Given.{upserts}
use Rattle.sqlite_resolve.specs.Scope.{Name}
use Rattle.sqlite_resolve.specs.declared.compiled.Compiled.{Compiled}
use Rattle.sqlite_tied.specs.Compute.{everything}
use Rattle.sqlite.specs.Does.{Does, Tally}
use Rattle.sqlite.specs.Effect.{Database, edit_error}
use Rattle.sqlite.specs.Listing.{if_select, listing_schema, reads_listing, understood}
use Rattle.sqlite.specs.Rows.{Clears, Counts, Edited, Gives, InsertsOr, Judged, Meets, Puts, Refuses, Resolves, Task, Tries, TriesEach, Updates, Upserts, Written, nothing, passes_over}
use Rattle.sqlite.specs.State.{State, Shown, ShowsRows, Writes, mode_of}
use Rattle.sqlite.specs.declared.run.Mode.{Mode}
use Rattle.sqlite.proofs.Callers.{one_step}
use Rattle.sqlite_keeper.specs.Schema.{IsStore, second_of, store_of}
use Rattle.sqlite_keeper.specs.Statements.{raise_text}
use Rattle.sqlite_keeper.specs.Told.{first_of, tables, tables_in}
use Rattle.sqlite_keeper.proofs.StatementLemmas.{same_value, went}
use Rattle.sqlite_keeper.proofs.TextLemmas.{Holds, compiled_by, each_holds, either_holds, then_holds}

-- ---- what the text is

-- an INSERT into the table of the number of openings, with a clause for a conflict
abbrev IsRaise : Statement → Type 0
IsRaise (written.Insert conflict.Abort name columns rows clauses shown) = (name ≡ codes "epoch") × ((length clauses == 0) ≡ false)
IsRaise _ = ⊥

-- a command that puts rows into the second table
abbrev OnSecond : Command → Type 0
OnSecond (InsertOr at way from clauses) = at ≡ 1
OnSecond _ = ⊥

is_raise : IfOk (first raise_text) (λ p. IsRaise p.statement)
unfolding everything
is_raise = (refl, refl)

-- the second table is found by its name
second_target : (second : Table) → target (store_of second) (codes "epoch") ≡ Ok 1
unfolding everything
second_target second = refl

into_second : (second : Table) (base : ℕ) (way : Conflict) (name : Name) (columns : List Name) (rows : Rows) (clauses : List Clause) → name ≡ codes "epoch"
    → Holds OnSecond (insert_or (store_of second) base way name columns rows clauses)
unfolding insert_or
into_second second base way name columns rows clauses is =
    then_holds (λ at. at ≡ 1) OnSecond (target (store_of second) name) _
    (record { it = subst (λ r. IfOk r (λ at. at ≡ 1)) (sym (ap (target (store_of second)) is ∙ second_target second)) refl }) (λ at e.
    each_holds OnSecond (table_at (store_of second) at) _ (λ table. each_holds OnSecond (new_rows (store_of second) table base columns rows) _ (λ s.
    each_holds OnSecond (upserts (store_of second) at table base clauses) _ (λ found. record { it = e }))))

command_second : (second : Table) (formats : List Name) (base : ℕ) (s : Statement) → IsRaise s → Holds OnSecond (command (store_of second) formats base s)
unfolding command insert_or_abort
command_second second formats base (written.Insert conflict.Abort name columns rows clauses shown) h = rw h.1 (into_second second base Abort name columns rows clauses h.0)
command_second second formats base _ h = absurd h

-- the list of the database's own tables has none of that name
own_none : IfOk (if_select (compiled listing_schema raise_text)) (λ c. OnSecond c.command)
unfolding everything listing_schema
own_none = tt

raise_second : (second : Table) → IfOk (understood (store_of second) raise_text) (λ c. OnSecond c.command)
unfolding understood
raise_second second =
    (either_holds (λ c. OnSecond c.command) (reads_listing (store_of second) raise_text) (if_select (compiled listing_schema raise_text)) (compiled (store_of second) raise_text) (record { it = own_none })
    (compiled_by IsRaise OnSecond (store_of second) raise_text (command_second second) (record { it = is_raise }))).it

-- ---- what it writes

module _ (limit : Option ℕ) (keys : Keys) (params : Row) (second : Table) where
  abbrev task : Task
  task = record { limit = limit; keys = keys; schema = store_of second; table = second_of second; params = params }

  -- the rows of the first table stay
  abbrev Stay : Trees → Trees → Type 0
  Stay db next = next 0 ≡ db 0

  edited_stay : (db next : Trees) (gone : List ℤ) (rowids : Rowids) (from : ℕ) (sources : List Row)
      → Edited (store_of second) keys db (edit_of db (second_of second) gone rowids from sources) (Ok next) → Stay db next
  edited_stay db next gone rowids from sources h =
      (one_step (store_of second) keys db next (edit_of db (second_of second) gone rowids from sources) refl h).tables.0 (λ e. absurd cc)

  puts_stay : (new : Row) (db : Trees) (w : Written) → Puts task new db (Ok w) → Stay db w.trees
  puts_stay new db w h =
      let put = went h in ap (λ (it : Written). it.trees 0) (same_value put.2) ∙ edited_stay db put.0 [] Given 0 (new ∷ []) put.1

  updates_stay : (q : Program) (given : Row) (db : Trees) (w : Written) → Updates task q given db (Ok w) → Stay db w.trees
  updates_stay q given db w h =
      let asked = went h in
      let put = went asked.2 in
      ap (λ (it : Written). it.trees 0) (same_value put.2) ∙ edited_stay db put.0 (ids_of asked.0) Given 1 asked.0 put.1

  clears_stay : (way : Conflict) (new : Row) (db : Trees) (found : List Row) (w : Written) → Clears task way new db found (Ok w) → Stay db w.trees
  clears_stay Abort new db [] w h = puts_stay new db w h
  clears_stay Ignore new db [] w h = puts_stay new db w h
  clears_stay Replace new db [] w h = puts_stay new db w h
  clears_stay Abort new db (x ∷ more) w h = puts_stay new db w h
  clears_stay Ignore new db (x ∷ more) w h = ap (λ (it : Written). it.trees 0) (same_value h)
  clears_stay Replace new db (x ∷ more) w h =
      let cleared = went h in puts_stay new cleared.0 w cleared.2 ∙ edited_stay db cleared.0 (ids_of (x ∷ more)) Given 0 [] cleared.1

  resolves_stay : (new : Row) (db : Trees) (there : Row) (update : Option Program) (w : Written) → Resolves task new db there update (Ok w) → Stay db w.trees
  resolves_stay new db there None w h = ap (λ (it : Written). it.trees 0) (same_value h)
  resolves_stay new db there (Some q) w h = updates_stay q _ db w h

  upserts_stay : (way : Conflict) (new : Row) (db : Trees) (clauses : List Upsert) (w : Written) → Upserts task way new db clauses (Ok w) → Stay db w.trees
  upserts_stay way new db [] w h = clears_stay way new db h.0 w h.2
  upserts_stay way new db (clause ∷ more) w h = meets (λ m. upserts_stay way new db more w m) h.0 h.2
    where
      meets : (Upserts task way new db more (Ok w) → Stay db w.trees) → (found : List Row) → Meets task (Upserts task way new db more) new db clause found (Ok w) → Stay db w.trees
      meets otherwise [] m = otherwise m
      meets otherwise (there ∷ others) m = resolves_stay new db there clause.update w m

  judged_stay : (way : Conflict) (clauses : List Upsert) (new : Row) (db : Trees) (verdict : Option Refusal) (w : Written) → Judged task way clauses new db verdict (Ok w) → Stay db w.trees
  judged_stay way clauses new db None w h = upserts_stay way new db clauses w h
  judged_stay way clauses new db (Some why) w h =
      elim (passes_over way why) as (λ b. MatchBool b (Gives (nothing db) (Ok w)) (Refuses (edit_error why) (Ok w)) → Stay db w.trees)
      [ true ↦ λ e. ap (λ (it : Written). it.trees 0) (same_value e) | false ↦ λ e. absurd cc ] h

  tries_stay : (way : Conflict) (clauses : List Upsert) (new : Row) (db : Trees) (w : Written) → Tries task way clauses new db (Ok w) → Stay db w.trees
  tries_stay way clauses new db w (inl refused) = absurd (let e = refused.1 in cc)
  tries_stay way clauses new db w (inr judged) = judged_stay way clauses new db judged.0 w judged.2

  each_stay : (way : Conflict) (clauses : List Upsert) (rows : List Row) (top : ℤ) (done : Written) (all : Written × ℤ) → TriesEach task way clauses rows top done (Ok all) → Stay done.trees all.0.trees
  each_stay way clauses [] top done all h = ap (λ (it : Written × ℤ). it.0.trees 0) (same_value h)
  each_stay way clauses (source ∷ more) top done all h =
      let tried = went h in
      each_stay way clauses more _ _ all tried.2 ∙ tries_stay way clauses _ done.trees tried.0 tried.1

  counts_stay : (db next : Trees) (counter : Option Row) (top : ℤ) → Counts task db counter top (Ok next) → Stay db next
  counts_stay db next counter top h = ap (λ (t : Trees). t 0) (same_value h)

  inserts_stay : (way : Conflict) (clauses : List Upsert) (from : Source) (db : Trees) (w : Written) → InsertsOr task way clauses from db (Ok w) → Stay db w.trees
  inserts_stay way clauses from db w h =
      let sourced = went h in
      let counter = went sourced.2 in
      let tried = went counter.2 in
      let counted = went tried.2 in
      ap (λ (it : Written). it.trees 0) (same_value counted.2) ∙ counts_stay tried.0.0.trees counted.0 counter.0 tried.0.1 counted.1 ∙ each_stay way clauses sourced.0 _ (nothing db) tried.0 tried.1

-- the first table's rows and the list of tables stay
does_stay : (limit : Option ℕ) (mode : Mode) (params : Row) (second : Table) (db after : Database) (text : List ℕ) (returning : Option Returning) (k : Command) (tally : Tally) → OnSecond k
    → Does limit mode params (record db { schema = store_of second }) text returning k (Ok (tally, after)) → (after.schema ≡ store_of second) × (after.trees 0 ≡ db.trees 0)
does_stay limit mode params second db after text returning (InsertOr at way from clauses) tally on h =
    let first = subst (λ n. Does limit mode params (record db { schema = store_of second }) text returning (InsertOr n way from clauses) (Ok (tally, after))) on h in
    let wrote = went first in
    let tested = went wrote.2 in
    let shown = went tested.2 in
    let now = ap (λ (p : Tally × Database). p.1) (same_value shown.2) in (
      ap (λ (d : Database). d.schema) now,
      ap (λ (d : Database). d.trees 0) now ∙ inserts_stay limit mode.keys params second way clauses from db.trees wrote.0 wrote.1,
    )
does_stay limit mode params second db after text returning _ tally on h = absurd on

-- what the raising statement shows is of a database that keeps its tables
pub showed_run : (old new : State) (rows : List Row) → IsStore old.now.schema → Shown raise_text [] old new rows → tables new ≡ tables old
unfolding Shown
showed_run old new rows store it = by it.0 _ it.0.returning it.1.is it.2
  where
    wrote : (c : Compiled) (what : Returning) (ps : Row) (text : List ℕ) (count : ℕ) → understood old.now.schema raise_text ≡ Ok c → Writes old new (Some what) c.command text ps count → tables new ≡ tables old
    wrote c what ps text count is w =
        let on : OnSecond c.command = subst (λ r. IfOk r (λ k. OnSecond k.command)) (ap (λ s. understood s raise_text) (sym store.is) ∙ is) (raise_second store.second) in
        let stays =
        does_stay old.step_limit (mode_of old) ps store.second old.now new.now text (Some what) c.command w.tally on
        (subst (λ s. Does old.step_limit (mode_of old) ps (record old.now { schema = s }) text (Some what) c.command (Ok (w.tally, new.now))) store.is w.changed) in
        ap (λ s. first_of s.tables (new.now.trees 0)) (stays.0 ∙ sym store.is) ∙ ap (first_of old.now.schema.tables) stays.1

    by : (c : Compiled) (ps : Row) (returning : Option Returning) → understood old.now.schema raise_text ≡ Ok c → ShowsRows old new raise_text c ps rows returning → tables new ≡ tables old
    by c ps None is h = ap tables_in h.3.0.now_is
    by c ps (Some what) is h = wrote c what ps _ h.0 is h.1
