-- The tables of the store as the database lists them (this project's format): that of the rows with the index of its
-- paths, and behind it that of the number of openings, of which nothing is open but the conditions of its CHECKs.
use Rattle.std.specs.Prelude.{◌≡◌, ◌⊎◌, ℕ, Bool, true, false, List, [], ◌∷◌, None, Some, codes}
use Rattle.sqlite.specs.Collation.TheVariants.{Binary}
use Rattle.sqlite.specs.Kind.{Kind}
use Rattle.sqlite.specs.Kind.TheVariants.{Integer, Text, Blob}
use Rattle.sqlite.specs.Schema.{Schema}
use Rattle.sqlite.specs.Table.{Table}
use Rattle.sqlite.specs.declared.types.Value.TheVariants.{Null}
use Rattle.sqlite_schema.specs.declared.schema.Column.{Column}
use Rattle.sqlite_schema.specs.declared.schema.Index.{Index}

-- a strict column without a default, by its name, its type and whether it is NOT NULL
abbrev pub column_of : List ℕ → Kind → Bool → Column
column_of name kind not_null = record { name = name; kind = kind; is_strict = true; not_null = not_null; default = Null; collation = Binary }

-- the table of the rows: a path, which is its key, and bytes
abbrev pub rows_table : Table
rows_table = record {
  name = codes "kept";
  tree = 0;
  columns = column_of (codes "path") Text true ∷ column_of (codes "body") Blob true ∷ [];
  key = None;
  primary = 1 ∷ [];
  uniques = (1 ∷ []) ∷ [];
  orders = (record { digits = 0 }) ∷ [];
  checks = [];
  references = [];
  computed = [];
  stamps = record { places = []; terms = []; formats = [] };
  is_counted = false;
}

-- the index of the paths
abbrev pub kept_index : Index
kept_index = record { name = codes "sqlite_autoindex_kept_1"; tree = 1; table = 0; columns = 1 ∷ []; order = record { digits = 0 }; is_unique = true }

-- the table of the number of openings: its key, which is the rowid, and the number; with the CHECKs of this table
abbrev pub second_of : Table → Table
second_of table = record {
  name = codes "epoch";
  tree = 2;
  columns = column_of (codes "one") Integer false ∷ column_of (codes "n") Integer true ∷ [];
  key = Some 0;
  primary = 0 ∷ [];
  uniques = [];
  orders = [];
  checks = table.checks;
  references = [];
  computed = [];
  stamps = record { places = []; terms = []; formats = [] };
  is_counted = false;
}

-- the table of the rows, and this one behind it
abbrev pub store_of : Table → Schema
store_of table = record { tables = rows_table ∷ second_of table ∷ []; indexes = kept_index ∷ []; views = [] }

-- no table at all
abbrev pub no_schema : Schema
no_schema = record { tables = []; indexes = []; views = [] }

-- the table of the rows alone
abbrev pub begun_schema : Schema
begun_schema = record { tables = rows_table ∷ []; indexes = kept_index ∷ []; views = [] }

-- the database has the tables of the store, and nothing else
pub record IsStore (schema : Schema) : Type 0 where
  pub second : Table
  pub is : schema ≡ store_of second

-- it has nothing, the table of the rows alone, or the tables of the store: an opening takes no other
abbrev pub Fits : Schema → Type 0
Fits schema = (schema ≡ no_schema) ⊎ ((schema ≡ begun_schema) ⊎ IsStore schema)
