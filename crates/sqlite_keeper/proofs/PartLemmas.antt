-- Records of the parts that they are compared by.
use Rattle.std.proofs.Common.{◌≡◌, ℕ, Bool, true, false, List, [], ◌∷◌, Option, None, Some, codes, ◌∙◌, ap}
use Rattle.sqlite.specs.Kind.{Kind}
use Rattle.sqlite.specs.Term.{Term}
use Rattle.sqlite.specs.Table.{Table}
use Rattle.sqlite.specs.Collation.TheVariants.{Binary}
use Rattle.sqlite.specs.declared.types.Value.TheVariants.{Null}
use Rattle.sqlite_value.specs.declared.value.Value.{Value}
use Rattle.sqlite_value.specs.declared.keys.Collation.{Collation}
use Rattle.sqlite_value.specs.declared.keys.Order.{Order}
use Rattle.sqlite_schema.specs.declared.schema.Column.{Column}
use Rattle.sqlite_schema.specs.declared.schema.Index.{Index}
use Rattle.sqlite_schema.specs.declared.schema.Stamps.{Stamps}
use Rattle.sqlite_schema.specs.declared.schema.Reference.{Reference}
use Rattle.sqlite_keeper.specs.Schema.{column_of, kept_index, rows_table, second_of}

abbrev column : List ℕ → Kind → Bool → Bool → Value → Collation → Column
column n k s o d c = record { name = n; kind = k; is_strict = s; not_null = o; default = d; collation = c }

pub column_is : (it : Column) (name : List ℕ) (kind : Kind) (not_null : Bool) → it.name ≡ name → it.kind ≡ kind → it.is_strict ≡ true → it.not_null ≡ not_null → it.default ≡ Null → it.collation ≡ Binary → it ≡ column_of name kind not_null
column_is it name kind not_null a b c d e f =
    ap (λ x. column x it.kind it.is_strict it.not_null it.default it.collation) a
    ∙ ap (λ x. column name x it.is_strict it.not_null it.default it.collation) b
    ∙ ap (λ x. column name kind x it.not_null it.default it.collation) c
    ∙ ap (λ x. column name kind true x it.default it.collation) d
    ∙ ap (λ x. column name kind true not_null x it.collation) e
    ∙ ap (λ x. column name kind true not_null Null x) f

abbrev stamps : List ℕ → List Term → List (List ℕ) → Stamps
stamps p t f = record { places = p; terms = t; formats = f }

pub stamps_is : (it : Stamps) → it.places ≡ [] → it.terms ≡ [] → it.formats ≡ [] → it ≡ rows_table.stamps
stamps_is it a b c = ap (λ x. stamps x it.terms it.formats) a ∙ ap (λ x. stamps [] x it.formats) b ∙ ap (λ x. stamps [] [] x) c

abbrev table : List ℕ → ℕ → List Column → Option ℕ → List ℕ → List (List ℕ) → List Order → List Term → List Reference → List ℕ → Stamps → Bool → Table
table n t c k p u o h r m s i =
    record { name = n; tree = t; columns = c; key = k; primary = p; uniques = u; orders = o; checks = h; references = r; computed = m; stamps = s; is_counted = i }

pub table_is : (it : Table) → it.name ≡ codes "kept" → it.tree ≡ 0 → it.columns ≡ rows_table.columns → it.key ≡ None → it.primary ≡ 1 ∷ [] → it.uniques ≡ rows_table.uniques → it.orders ≡ rows_table.orders
    → it.checks ≡ [] → it.references ≡ [] → it.computed ≡ [] → it.stamps ≡ rows_table.stamps → it.is_counted ≡ false → it ≡ rows_table
table_is it a b c d e f g h i j k l =
    ap (λ x. table x it.tree it.columns it.key it.primary it.uniques it.orders it.checks it.references it.computed it.stamps it.is_counted) a
    ∙ ap (λ x. table rows_table.name x it.columns it.key it.primary it.uniques it.orders it.checks it.references it.computed it.stamps it.is_counted) b
    ∙ ap (λ x. table rows_table.name 0 x it.key it.primary it.uniques it.orders it.checks it.references it.computed it.stamps it.is_counted) c
    ∙ ap (λ x. table rows_table.name 0 rows_table.columns x it.primary it.uniques it.orders it.checks it.references it.computed it.stamps it.is_counted) d
    ∙ ap (λ x. table rows_table.name 0 rows_table.columns None x it.uniques it.orders it.checks it.references it.computed it.stamps it.is_counted) e
    ∙ ap (λ x. table rows_table.name 0 rows_table.columns None rows_table.primary x it.orders it.checks it.references it.computed it.stamps it.is_counted) f
    ∙ ap (λ x. table rows_table.name 0 rows_table.columns None rows_table.primary rows_table.uniques x it.checks it.references it.computed it.stamps it.is_counted) g
    ∙ ap (λ x. table rows_table.name 0 rows_table.columns None rows_table.primary rows_table.uniques rows_table.orders x it.references it.computed it.stamps it.is_counted) h
    ∙ ap (λ x. table rows_table.name 0 rows_table.columns None rows_table.primary rows_table.uniques rows_table.orders [] x it.computed it.stamps it.is_counted) i
    ∙ ap (λ x. table rows_table.name 0 rows_table.columns None rows_table.primary rows_table.uniques rows_table.orders [] [] x it.stamps it.is_counted) j
    ∙ ap (λ x. table rows_table.name 0 rows_table.columns None rows_table.primary rows_table.uniques rows_table.orders [] [] [] x it.is_counted) k
    ∙ ap (λ x. table rows_table.name 0 rows_table.columns None rows_table.primary rows_table.uniques rows_table.orders [] [] [] rows_table.stamps x) l

abbrev index : List ℕ → ℕ → ℕ → List ℕ → Order → Bool → Index
index n t o c r u = record { name = n; tree = t; table = o; columns = c; order = r; is_unique = u }

pub index_is : (it : Index) → it.name ≡ codes "sqlite_autoindex_kept_1" → it.tree ≡ 1 → it.table ≡ 0 → it.columns ≡ 1 ∷ [] → it.order.digits ≡ 0 → it.is_unique ≡ true → it ≡ kept_index
index_is it a b c d e f =
    ap (λ x. index x it.tree it.table it.columns it.order it.is_unique) a
    ∙ ap (λ x. index kept_index.name x it.table it.columns it.order it.is_unique) b
    ∙ ap (λ x. index kept_index.name 1 x it.columns it.order it.is_unique) c
    ∙ ap (λ x. index kept_index.name 1 0 x it.order it.is_unique) d
    ∙ ap (λ x. index kept_index.name 1 0 (1 ∷ []) (record { digits = x }) it.is_unique) e
    ∙ ap (λ x. index kept_index.name 1 0 (1 ∷ []) (record { digits = 0 }) x) f

-- the table of the number of openings
pub second_is : (it : Table) → it.name ≡ codes "epoch" → it.tree ≡ 2 → it.columns ≡ (second_of it).columns → it.key ≡ Some 0 → it.primary ≡ 0 ∷ [] → it.uniques ≡ [] → it.orders ≡ []
    → it.references ≡ [] → it.computed ≡ [] → it.stamps ≡ rows_table.stamps → it.is_counted ≡ false → it ≡ second_of it
second_is it a b c d e f g h i j k =
    ap (λ x. table x it.tree it.columns it.key it.primary it.uniques it.orders it.checks it.references it.computed it.stamps it.is_counted) a
    ∙ ap (λ x. table (codes "epoch") x it.columns it.key it.primary it.uniques it.orders it.checks it.references it.computed it.stamps it.is_counted) b
    ∙ ap (λ x. table (codes "epoch") 2 x it.key it.primary it.uniques it.orders it.checks it.references it.computed it.stamps it.is_counted) c
    ∙ ap (λ x. table (codes "epoch") 2 (second_of it).columns x it.primary it.uniques it.orders it.checks it.references it.computed it.stamps it.is_counted) d
    ∙ ap (λ x. table (codes "epoch") 2 (second_of it).columns (Some 0) x it.uniques it.orders it.checks it.references it.computed it.stamps it.is_counted) e
    ∙ ap (λ x. table (codes "epoch") 2 (second_of it).columns (Some 0) (0 ∷ []) x it.orders it.checks it.references it.computed it.stamps it.is_counted) f
    ∙ ap (λ x. table (codes "epoch") 2 (second_of it).columns (Some 0) (0 ∷ []) [] x it.checks it.references it.computed it.stamps it.is_counted) g
    ∙ ap (λ x. table (codes "epoch") 2 (second_of it).columns (Some 0) (0 ∷ []) [] [] it.checks x it.computed it.stamps it.is_counted) h
    ∙ ap (λ x. table (codes "epoch") 2 (second_of it).columns (Some 0) (0 ∷ []) [] [] it.checks [] x it.stamps it.is_counted) i
    ∙ ap (λ x. table (codes "epoch") 2 (second_of it).columns (Some 0) (0 ∷ []) [] [] it.checks [] [] x it.is_counted) j
    ∙ ap (λ x. table (codes "epoch") 2 (second_of it).columns (Some 0) (0 ∷ []) [] [] it.checks [] [] rows_table.stamps x) k
