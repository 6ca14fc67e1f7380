-- What contracts see of the counter table and of its shares, and what a new share is (this project's rule).
use Rattle.std.specs.Prelude.{◌≡◌, ℕ, List, Bool, false, Option, Some, None}
use Rattle.atomic_table.specs.Seated.{TableId}
use Rattle.dbgd_metrics.specs.declared.view.Load.{Load}
use Rattle.dbgd_metrics.specs.Numbers.{zeros}

-- which table it is, and how many rows it has
pub record BookFacts : Type 0 where
  pub id : TableId
  pub rows : ℕ

-- which table a share is of, its row, its numbers, whether a count was ever refused, the loads that it has noted, and how many rows
-- it knows to be drawn
pub record ShareFacts : Type 0 where
  pub book : TableId
  pub row : Option ℕ
  pub numbers : List ℕ
  pub marked : Bool
  pub loads : List Load
  pub drawn : ℕ

-- a share of that table without a row, which has counted nothing and isn't marked
pub record IsNewShare (book : TableId) (share : ShareFacts) : Type 0 where
  pub of_book : share.book ≡ book
  pub no_row : share.row ≡ None
  pub nothing : share.numbers ≡ zeros
  pub unmarked : share.marked ≡ false

-- both have a row, and the same
abbrev pub HaveOneRow : ShareFacts → ShareFacts → Type 0
HaveOneRow one other = (row : ℕ) × (one.row ≡ Some row) × (other.row ≡ Some row)

-- where both have a row, the rows differ
abbrev pub HaveOtherRows : ShareFacts → ShareFacts → Type 0
HaveOtherRows one other = HaveOneRow one other → ⊥
