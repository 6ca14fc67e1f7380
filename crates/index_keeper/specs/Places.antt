-- Where a path stands among rows by path (this project's rule).
use Rattle.std.specs.Prelude.{ℕ, List, All}
use Rattle.row_types.specs.Ascends.{IsBefore}
use Rattle.index_keeper.specs.Tables.{KeptFacts}

-- the first rows stand before the path, the last ones after it
pub record StandApart (path : List ℕ) (front back : List KeptFacts) : Type 0 where
  pub before : All (λ row. IsBefore row.path path) front
  pub after : All (λ row. IsBefore path row.path) back
