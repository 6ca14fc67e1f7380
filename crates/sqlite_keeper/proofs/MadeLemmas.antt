-- What the two statements that make tables do to a database that has nothing, the table of the rows alone, or both.
use Rattle.std.proofs.Common.{◌≡◌, ◌⊎◌, inl, inr, ℕ, false, List, [], Ok, None, refl, sym, ◌∙◌, ap, subst}
use Rattle.std.specs.Prelude.{IfOk, IsTrue, if◌then◌else◌}
use Rattle.std.proofs.lemmas.Result.{IfOk-weaker}
use Rattle.sqlite_tied.specs.Compute.{everything}
use Rattle.sqlite_schema.specs.declared.command.Command.TheVariants.{CreateTable, Nothing}
use Rattle.sqlite_resolve.specs.Compile.{table_defined_by}
use Rattle.sqlite_catalog.specs.Change.{KeepsRows, created, next_tree}
use Rattle.sqlite.specs.Effect.{Database}
use Rattle.sqlite.specs.Does.{Does, Tally, lacks_sequence}
use Rattle.sqlite.specs.Listing.{understood}
use Rattle.sqlite.specs.Schema.{Schema}
use Rattle.sqlite.specs.State.{State, Executes, Writes, mode_of}
use Rattle.sqlite.specs.Table.{Table}
use Rattle.sqlite.proofs.Callers.{IsPlain, command_of, runs_as, statement_of}
use Rattle.sqlite_keeper.specs.Schema.{Fits, IsStore, begun_schema, no_schema, store_of}
use Rattle.sqlite_keeper.specs.Statements.{epoch_table, kept_table}
use Rattle.sqlite_keeper.specs.Stored.{stored_tables}
use Rattle.sqlite_keeper.specs.Told.{first_of, tables, tables_in}
use Rattle.sqlite_keeper.proofs.StatementLemmas.{same_value, went}

-- the statement makes the table of the rows, or finds it
makes_kept : (command_of (understood no_schema kept_table) ≡ CreateTable) × IsPlain (understood no_schema kept_table)
    × IfOk (table_defined_by (statement_of kept_table (understood no_schema kept_table))) (λ t. (created no_schema t ≡ begun_schema) × (lacks_sequence (created no_schema t) ≡ false))
unfolding understood everything
makes_kept = (refl, (refl, refl), (refl, refl))

finds_kept : (command_of (understood begun_schema kept_table) ≡ Nothing) × IsPlain (understood begun_schema kept_table)
unfolding understood everything
finds_kept = (refl, (refl, refl))

finds_kept_first : (second : Table) → (command_of (understood (store_of second) kept_table) ≡ Nothing) × IsPlain (understood (store_of second) kept_table)
unfolding understood everything
finds_kept_first second = (refl, (refl, refl))

-- and the other that of the number of openings
makes_epoch : (command_of (understood begun_schema epoch_table) ≡ CreateTable) × IsPlain (understood begun_schema epoch_table)
    × IfOk (table_defined_by (statement_of epoch_table (understood begun_schema epoch_table))) (λ t. (created begun_schema t ≡ store_of t) × (lacks_sequence (created begun_schema t) ≡ false))
unfolding understood everything
makes_epoch = (refl, (refl, refl), (refl, refl))

finds_epoch : (second : Table) → (command_of (understood (store_of second) epoch_table) ≡ Nothing) × IsPlain (understood (store_of second) epoch_table)
unfolding understood everything
finds_epoch second = (refl, (refl, refl))

-- a database at rest: no transaction is open, all is committed
pub record IsAtRest (now : State) : Type 0 where
  pub outside : now.in_transaction ≡ false
  pub settled : IsTrue now.is_open → now.now ≡ now.committed

-- it is at rest afterwards too, and shows the same tables
pub record Rests (old new : State) : Type 0 where
  pub rests : IsAtRest new
  pub same : tables new ≡ tables old

-- a statement that finds the table changes nothing
found : (sql : List ℕ) (old new : State) (schema : Schema) (count : ℕ) → old.now.schema ≡ schema → (command_of (understood schema sql) ≡ Nothing) × IsPlain (understood schema sql) → IsAtRest old
    → Executes sql [] old new (Ok count) → (new.now ≡ old.now) × Rests old new
found sql old new schema count has is rest h =
    let ran = runs_as sql [] old new schema has Nothing is.0 is.1 count h in
    let same = ran.0.0 in (
      same.now_is,
      record {
        rests = record { outside = same.mode ∙ rest.outside; settled = λ opened. same.now_is ∙ rest.settled same.was_open ∙ sym same.committed_is };
        same = ap tables_in same.now_is;
      },
    )

-- a statement that makes a table: its tree is empty, and the tables before it keep their rows
made : (sql : List ℕ) (old new : State) (schema : Schema) (count : ℕ) (P : Schema → Type 0) → old.now.schema ≡ schema → command_of (understood schema sql) ≡ CreateTable → IsPlain (understood schema sql)
    → IfOk (table_defined_by (statement_of sql (understood schema sql))) (λ t. P (created schema t) × (lacks_sequence (created schema t) ≡ false)) → IsAtRest old → Executes sql [] old new (Ok count)
    → P new.now.schema × (new.now.trees (next_tree schema) ≡ []) × KeepsRows schema.tables old.now.trees new.now.trees × IsAtRest new
made sql old new schema count P has is plain defined rest h =
    let text = statement_of sql (understood schema sql) in
    let w : Writes old new None CreateTable text [] count = runs_as sql [] old new schema has CreateTable is plain count h in
    let does = went (subst (λ (s : Schema). Does old.step_limit (mode_of old) [] (record old.now { schema = s }) text None CreateTable (Ok (w.tally, new.now))) has w.changed) in
    let did = went does.1 in
    let creates = did.1 in
    let table = subst (λ r. IfOk r (λ t. P (created schema t) × (lacks_sequence (created schema t) ≡ false))) creates.defined defined in
    let lacks : lacks_sequence did.0.schema ≡ false = ap lacks_sequence creates.is ∙ table.1 in
    let whole : does.0 ≡ did.0 = same_value (rw lacks at did.2) in
    let now : new.now ≡ did.0 = ap (λ (p : Tally × Database). p.1) (same_value does.2) ∙ whole in (
      subst P (sym (ap (λ (d : Database). d.schema) now ∙ creates.is)) table.0,
      ap (λ (d : Database). d.trees (next_tree schema)) now ∙ creates.empty,
      subst (λ (d : Database). KeepsRows schema.tables old.now.trees d.trees) (sym now) creates.others,
      record {
        outside = w.shown.mode ∙ rest.outside;
        settled = λ opened. sym (w.shown.committed_is ∙ ap (λ b. if b then old.committed else new.now) rest.outside);
      },
    )

-- the table of the rows is there, and maybe that of the number of openings
abbrev pub HasKept : Schema → Type 0
HasKept schema = (schema ≡ begun_schema) ⊎ IsStore schema

-- the rows of the first table, by the schema
first_is : (db : Database) (schema : Schema) → db.schema ≡ schema → tables_in db ≡ first_of schema.tables (db.trees 0)
first_is db schema is = ap (λ (s : Schema). first_of s.tables (db.trees 0)) is

pub kept_run : (old new : State) (count : ℕ) → Fits old.now.schema → IsAtRest old → Executes kept_table [] old new (Ok count) → HasKept new.now.schema × Rests old new
kept_run old new count (inl none) rest h =
    let m = made kept_table old new no_schema count (λ s. s ≡ begun_schema) none makes_kept.0 makes_kept.1 makes_kept.2 rest h in (
      inl m.0,
      record { rests = m.3; same = first_is new.now begun_schema m.0 ∙ ap stored_tables m.1 ∙ sym (first_is old.now no_schema none) },
    )
kept_run old new count (inr (inl begun)) rest h =
    let f = found kept_table old new begun_schema count begun finds_kept rest h in (inl (ap (λ (d : Database). d.schema) f.0 ∙ begun), f.1)
kept_run old new count (inr (inr store)) rest h =
    let f = found kept_table old new (store_of store.second) count store.is (finds_kept_first store.second) rest h in
    (inr (record { second = store.second; is = ap (λ (d : Database). d.schema) f.0 ∙ store.is }), f.1)

pub epoch_run : (old new : State) (count : ℕ) → HasKept old.now.schema → IsAtRest old → Executes epoch_table [] old new (Ok count) → IsStore new.now.schema × Rests old new
epoch_run old new count (inl begun) rest h =
    let made_of = table_defined_by (statement_of epoch_table (understood begun_schema epoch_table)) in
    let defined : IfOk made_of (λ t. IsStore (created begun_schema t) × (lacks_sequence (created begun_schema t) ≡ false)) =
    IfOk-weaker made_of (λ t. (created begun_schema t ≡ store_of t) × (lacks_sequence (created begun_schema t) ≡ false)) (λ t. IsStore (created begun_schema t) × (lacks_sequence (created begun_schema t) ≡ false))
    (λ t it. (record { second = t; is = it.0 }, it.1)) makes_epoch.2 in
    let m = made epoch_table old new begun_schema count IsStore begun makes_epoch.0 makes_epoch.1 defined rest h in (
      m.0,
      record { rests = m.3; same = first_is new.now (store_of m.0.second) m.0.is ∙ ap stored_tables m.2.0 ∙ sym (first_is old.now begun_schema begun) },
    )
epoch_run old new count (inr store) rest h =
    let f = found epoch_table old new (store_of store.second) count store.is (finds_epoch store.second) rest h in
    (record { second = store.second; is = ap (λ (d : Database). d.schema) f.0 ∙ store.is }, f.1)
