-- What a world says (this project's rule): all that contracts know of it.
use Rattle.std.specs.Prelude.{ℕ, Bool, List}
use Rattle.row_types.specs.Row.{RowFacts}
use Rattle.row_types.specs.Stamp.{StampFacts}

-- the versions of a world's files, its true rows, and whether it is told
pub record Rules : Type 1 where
  pub version : List ℕ → StampFacts → List ℕ → Type 0
  pub true_row : RowFacts → Type 0
  pub told : Bool

-- the rules of this world
abbrev pub rules : (List ℕ → StampFacts → List ℕ → Type 0) → (RowFacts → Type 0) → Bool → Rules
rules version true_row told = record { version = version; true_row = true_row; told = told }
