-- What the texts of the store can't be, whatever the database's schema: those that change rows or make a table begin no
-- transaction and move no savepoint, and the one that reads has no RETURNING.
use Rattle.std.proofs.Common.{◌≡◌, ℕ, ◌+◌, Bool, true, false, List, [], Ok, Err, Result, Option, None, refl}
use Rattle.std.specs.Prelude.{IfOk, if◌then◌else◌, ◌&&◌, ◌==◌, length, not}
use Rattle.std.specs.Option.{option_or}
use Rattle.std.proofs.lemmas.Bool.{false≢true}
use Rattle.sqlite_ast.specs.declared.Conflict.TheVariants as conflict
use Rattle.sqlite_ast.specs.declared.CreateTable.{CreateTable}
use Rattle.sqlite_ast.specs.declared.Rows.{Rows}
use Rattle.sqlite_ast.specs.declared.Expr.{Expr}
use Rattle.sqlite_ast.specs.declared.Upsert.{Upsert}
use Rattle.sqlite_ast.specs.declared.Statement.{Statement}
use Rattle.sqlite_ast.specs.declared.Statement.TheVariants as written
use Rattle.sqlite_schema.specs.declared.command.Command.{Command}
use Rattle.sqlite_schema.specs.declared.command.Command.TheVariants.{Begin, Savepoint, Release, RollbackTo}
use Rattle.sqlite_schema.specs.declared.command.Conflict.{Conflict}
use Rattle.sqlite_schema.specs.Names.{index_named, table_named, view_named}
use Rattle.sqlite_schema.specs.declared.schema.Schema.{Schema}
use Rattle.sqlite_resolve.specs.declared.compiled.Compiled.{Compiled}
use Rattle.sqlite_resolve.specs.declared.error.CompileError.{CompileError}
use Rattle.sqlite_resolve.specs.Scope.{Name}
use Rattle.sqlite_resolve.specs.Lowering.{Checked, and_then}
use Rattle.sqlite_resolve.specs.Body.{table_at}
use Rattle.sqlite_resolve.specs.Compile.{command, compiled, create_table, creates, delete, first, insert, insert_or, insert_or_abort, is_attached, meaning, new_rows, planned, returning, small, target, timed}
use Rattle.sqlite_resolve.specs.Define as define
use Rattle.sqlite_resolve.specs.Given.{upserts}
use Rattle.sqlite_resolve.specs.Program.{program}
use Rattle.sqlite_resolve.specs.Write.{deleted}
use Rattle.sqlite.specs.Listing.{if_select, is_select, listing_schema, reads_listing, understood}
use Rattle.sqlite_tied.specs.Compute.{everything}
use Rattle.sqlite_keeper.specs.Statements.{kept_table, epoch_table, put_text, remove_text, rows_query}

-- whether a command begins no transaction and moves no savepoint
abbrev pub begins_none : Command → Bool
begins_none Begin = false
begins_none (Savepoint name) = false
begins_none (Release name) = false
begins_none (RollbackTo name) = false
begins_none _ = true

-- the statement of a text is such a command, if the database takes it
abbrev pub BeginsNone : Result Compiled CompileError → Type 0
BeginsNone r = IfOk r (λ c. begins_none c.command ≡ true)

-- whether a statement puts or removes rows, or makes a table
abbrev is_change : Statement → Bool
is_change (written.Insert way name columns rows clauses shown) = true
is_change (written.Delete name test shown) = true
is_change (written.CreateTable def) = true
is_change _ = false

-- whether a statement is a query
abbrev is_query : Statement → Bool
is_query (written.Select s) = true
is_query _ = false

-- what holds of the value, if there is one
pub record Holds {A : Type 0} (P : A → Type 0) (x : Checked A) : Type 0 where
  pub it : IfOk x P

-- what holds of the value of the last part, by what holds of the first one's
pub then_holds : {A B : Type 0} (Q : A → Type 0) (P : B → Type 0) (x : Checked A) (f : A → Checked B) → Holds Q x → ((a : A) → Q a → Holds P (f a)) → Holds P (and_then x f)
then_holds Q P (Ok a) f q h = h a q.it
then_holds Q P (Err e) f q h = record { it = tt }

-- the same where it holds whatever the first one's is
pub each_holds : {A B : Type 0} (P : B → Type 0) (x : Checked A) (f : A → Checked B) → ((a : A) → Holds P (f a)) → Holds P (and_then x f)
each_holds P (Ok a) f h = h a
each_holds P (Err e) f h = record { it = tt }

pub either_holds : {B : Type 0} (P : B → Type 0) (b : Bool) (x y : Checked B) → Holds P x → Holds P y → Holds P (if b then x else y)
either_holds P true x y p q = p
either_holds P false x y p q = q

abbrev Out : Command → Type 0
Out k = begins_none k ≡ true

insert_out : (schema : Schema) (base : ℕ) (name : Name) (columns : List Name) (rows : Rows) → Holds Out (insert schema base name columns rows)
unfolding insert
insert_out schema base name columns rows =
    each_holds Out (target schema name) _ (λ at. each_holds Out (table_at schema at) _ (λ table. each_holds Out (new_rows schema table base columns rows) _ (λ s. record { it = refl })))

insert_or_out : (schema : Schema) (base : ℕ) (way : Conflict) (name : Name) (columns : List Name) (rows : Rows) (clauses : List Upsert) → Holds Out (insert_or schema base way name columns rows clauses)
unfolding insert_or
insert_or_out schema base way name columns rows clauses =
    each_holds Out (target schema name) _ (λ at. each_holds Out (table_at schema at) _ (λ table. each_holds Out (new_rows schema table base columns rows) _ (λ s.
    each_holds Out (upserts schema at table base clauses) _ (λ found. record { it = refl }))))

insert_or_abort_out : (schema : Schema) (base : ℕ) (name : Name) (columns : List Name) (rows : Rows) (clauses : List Upsert) → Holds Out (insert_or_abort schema base name columns rows clauses)
unfolding insert_or_abort
insert_or_abort_out schema base name columns rows clauses =
    either_holds Out _ _ _ (insert_out schema base name columns rows) (insert_or_out schema base _ name columns rows clauses)

delete_out : (schema : Schema) (name : Name) (test : Option Expr) → Holds Out (delete schema name test)
unfolding delete
delete_out schema name test =
    each_holds Out (target schema name) _ (λ at. each_holds Out (table_at schema at) _ (λ table. each_holds Out (deleted schema at table test) _ (λ d.
    each_holds Out (program schema [] d) _ (λ p. record { it = refl }))))

create_out : (schema : Schema) (formats : List Name) (def : CreateTable) → Holds Out (create_table schema formats def)
unfolding create_table
create_out schema formats def =
    either_holds Out (is_attached schema def.name) _ _ (record { it = tt })
    (each_holds Out (creates def.if_missing def.name (option_or (table_named schema def.name) (view_named schema def.name)) (index_named schema def.name)) _ (λ is_new.
    either_holds Out is_new _ _
    (each_holds Out (define.table formats def) _ (λ t.
    either_holds Out (length t.computed == length t.stamps.places && not def.resolves) _ _ (record { it = refl }) (record { it = tt })))
    (record { it = refl })))

command_out : (schema : Schema) (formats : List Name) (base : ℕ) (s : Statement) → is_change s ≡ true → Holds Out (command schema formats base s)
unfolding command
command_out schema formats base (written.Insert conflict.Abort name columns rows clauses shown) h = insert_or_abort_out schema base name columns rows clauses
command_out schema formats base (written.Insert conflict.Ignore name columns rows clauses shown) h = insert_or_out schema base _ name columns rows clauses
command_out schema formats base (written.Insert conflict.Replace name columns rows clauses shown) h = insert_or_out schema base _ name columns rows clauses
command_out schema formats base (written.Delete name test shown) h = delete_out schema name test
command_out schema formats base (written.CreateTable def) h = create_out schema formats def
command_out schema formats base _ h = absurd (false≢true h)

-- what holds of the command of each statement of a kind holds of the one that a text of the kind compiles to
pub compiled_by : (Q : Statement → Type 0) (P : Command → Type 0) (schema : Schema) (text : List ℕ)
    → ((formats : List Name) (base : ℕ) (s : Statement) → Q s → Holds P (command schema formats base s)) → Holds (λ p. Q p.statement) (first text) → Holds (λ c. P c.command) (compiled schema text)
unfolding compiled planned meaning
compiled_by Q P schema text each h =
    then_holds (λ p. Q p.statement) (λ c. P c.command) (first text) _ h (λ p is.
    then_holds (λ plan. P plan.1.0) (λ c. P c.command) _ _
    (then_holds (λ found. P found.0) (λ plan. P plan.1.0) _ _
    (each_holds (λ found. P found.0) _ _ (λ shown.
    then_holds P (λ found. P found.0) _ _ (each p.formats _ p.statement is) (λ k it. record { it = it })))
    (λ found it. record { it = it })) (λ plan it. record { it = it }))

compiled_out : (schema : Schema) (text : List ℕ) → Holds (λ p. is_change p.statement ≡ true) (first text) → Holds (λ c. begins_none c.command ≡ true) (compiled schema text)
compiled_out schema text = compiled_by (λ s. is_change s ≡ true) Out schema text (command_out schema)

returns_none : (schema : Schema) (base : ℕ) (s : Statement) → is_query s ≡ true → Holds (λ shown. shown ≡ None) (returning schema base s)
unfolding returning
returns_none schema base (written.Select s) h = record { it = refl }
returns_none schema base _ h = absurd (false≢true h)

compiled_shows_none : (schema : Schema) (text : List ℕ) → Holds (λ p. is_query p.statement ≡ true) (first text) → Holds (λ c. c.returning ≡ None) (compiled schema text)
unfolding compiled planned meaning
compiled_shows_none schema text h =
    then_holds (λ p. is_query p.statement ≡ true) (λ c. c.returning ≡ None) (first text) _ h (λ p is.
    then_holds (λ plan. plan.1.1 ≡ None) (λ c. c.returning ≡ None) _ _
    (then_holds (λ found. found.1 ≡ None) (λ plan. plan.1.1 ≡ None) _ _
    (then_holds (λ shown. shown ≡ None) (λ found. found.1 ≡ None) (returning schema _ p.statement) _ (returns_none schema _ p.statement is) (λ shown e.
    each_holds (λ found. found.1 ≡ None) (command schema p.formats (small p.names + small (timed schema p.formats p.statement)) p.statement) _ (λ k. record { it = e })))
    (λ found it. record { it = it })) (λ plan it. record { it = it }))

-- a query on the list of the database's own tables is one of the same text
of_understood : (P : Compiled → Type 0) (schema : Schema) (text : List ℕ) → ((s : Schema) → Holds P (compiled s text)) → Holds P (understood schema text)
unfolding understood
of_understood P schema text h = either_holds P (reads_listing schema text) _ _ (selected (compiled listing_schema text) (h listing_schema)) (h schema)
  where
    selected : (r : Checked Compiled) → Holds P r → Holds P (if_select r)
    selected (Ok c) p = either_holds P (is_select c.command) _ _ p (record { it = tt })
    selected (Err e) p = record { it = tt }

changes : IfOk (first kept_table) (λ p. is_change p.statement ≡ true) × IfOk (first epoch_table) (λ p. is_change p.statement ≡ true)
    × IfOk (first put_text) (λ p. is_change p.statement ≡ true) × IfOk (first remove_text) (λ p. is_change p.statement ≡ true) × IfOk (first rows_query) (λ p. is_query p.statement ≡ true)
unfolding everything
changes = (refl, refl, refl, refl, refl)

pub kept_begins_none : (schema : Schema) → BeginsNone (understood schema kept_table)
kept_begins_none schema = (of_understood _ schema kept_table (λ s. compiled_out s kept_table (record { it = changes.0 }))).it

pub epoch_begins_none : (schema : Schema) → BeginsNone (understood schema epoch_table)
epoch_begins_none schema = (of_understood _ schema epoch_table (λ s. compiled_out s epoch_table (record { it = changes.1 }))).it

pub put_begins_none : (schema : Schema) → BeginsNone (understood schema put_text)
put_begins_none schema = (of_understood _ schema put_text (λ s. compiled_out s put_text (record { it = changes.2 }))).it

pub remove_begins_none : (schema : Schema) → BeginsNone (understood schema remove_text)
remove_begins_none schema = (of_understood _ schema remove_text (λ s. compiled_out s remove_text (record { it = changes.3 }))).it

pub rows_show_none : (schema : Schema) → IfOk (understood schema rows_query) (λ c. c.returning ≡ None)
rows_show_none schema = (of_understood _ schema rows_query (λ s. compiled_shows_none s rows_query (record { it = changes.4 }))).it
