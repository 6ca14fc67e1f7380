-- What the database understands by the texts of the store, where it has the store's tables (this project's format).
use Rattle.std.specs.Prelude.{List, [], ◌∷◌, None, Some, false, codes, pos, negsuc}
use Rattle.sqlite.specs.Collation.TheVariants.{Binary}
use Rattle.sqlite.specs.Command.{Command}
use Rattle.sqlite.specs.Command.TheVariants.{Select, Delete, InsertOr}
use Rattle.sqlite.specs.Query.{Query, inner, end}
use Rattle.sqlite.specs.Source.TheVariants.{Values}
use Rattle.sqlite.specs.Term.{Term, lit, col, op2}
use Rattle.sqlite.specs.declared.types.Value.TheVariants.{Null, Int}
use Rattle.sqlite_schema.specs.declared.command.Conflict.TheVariants.{Abort}
use Rattle.sqlite_sql.specs.declared.ops.BinaryOp.TheVariants.{Compare}
use Rattle.sqlite_sql.specs.declared.ops.CompareOp.TheVariants.{Eq}
use Rattle.sqlite_value.specs.declared.keys.Key.{Key}

-- a query over the first tree, with no group, no limit and all rows
abbrev pub plain_query : List Term → List Term → List (Term × Key) → Query
plain_query filter project order = record {
  from = inner 0 end;
  filter = filter;
  group = None;
  project = project;
  distinct = false;
  collations = [];
  order = order;
  limit = lit (Int (negsuc 0));
  offset = lit (Int (pos 0));
}

-- the query of all rows, by path
abbrev pub rows_command : Command
rows_command =
    Select (record { lets = []; body = plain_query [] (col 1 1 ∷ col 1 2 ∷ []) ((col 1 1, record { collation = Binary; descending = false }) ∷ []) })
    (codes "path" ∷ codes "body" ∷ [])

-- the path is that of the first parameter
abbrev pub at_path : List Term
at_path = op2 (Compare Eq Binary) (col 1 1) (col 0 0) ∷ []

-- the removal of the rows of a path
abbrev pub remove_command : Command
remove_command = Delete 0 (record { lets = []; body = plain_query at_path (col 1 0 ∷ []) [] })

-- the new row, or the renewal of the bytes of the row that has its path
abbrev pub put_command : Command
put_command =
    InsertOr 0 Abort (Values (lit Null ∷ col 0 0 ∷ col 0 1 ∷ []) 3)
    (record {
      target = Some (1 ∷ []);
      update = Some (record { lets = []; body = plain_query (op2 (Compare Eq Binary) (col 1 0) (col 0 2) ∷ []) (col 1 0 ∷ col 1 0 ∷ col 1 1 ∷ col 0 5 ∷ []) [] });
    } ∷ [])
