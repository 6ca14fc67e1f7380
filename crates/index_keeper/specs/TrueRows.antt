-- What is true of what a store keeps (this project's rule). Bytes of another edition, and bytes of no row, may
-- stand there too.
use Rattle.std.specs.Prelude.{◌≡◌, ℕ, List}
use Rattle.row_types.specs.Row.{RowFacts}
use Rattle.row_types.specs.declared.limits.TheConstants.{EDITION}
use Rattle.row_codec.specs.RowBytes.{IsRowBytes}
use Rattle.index_keeper.specs.Tables.{KeptFacts}

-- bytes that spell a row of the edition spell a true one
pub record IsTrueValue (true_row : RowFacts → Type 0) (bytes : List ℕ) : Type 0 where
  pub holds : (row : RowFacts) → IsRowBytes row bytes → row.edition ≡ EDITION → true_row row

-- the bytes of the row are such
abbrev pub IsTrueKept : (RowFacts → Type 0) → KeptFacts → Type 0
IsTrueKept true_row kept = IsTrueValue true_row kept.bytes

-- the bytes spell a true row of this path
pub record SpellsTrueRow (true_row : RowFacts → Type 0) (path bytes : List ℕ) : Type 0 where
  pub row : RowFacts
  pub spelled : IsRowBytes row bytes
  pub placed : row.name.path ≡ path
  pub holds : true_row row
