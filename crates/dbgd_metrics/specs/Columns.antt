-- What the seat notes while the totals are added up (this crate's bookkeeping, which no public clause cites).
use Rattle.std.specs.Prelude.{◌≡◌, ℕ, ◌<◌, ◌≤◌, List, length, slice_index, map, Some, All, sum}
use Rattle.dbgd_metrics.specs.Rule.{CountToken, Looked}
use Rattle.dbgd_metrics.specs.Totals.{column_loads, found_at, page_loads}

-- the number at a place was loaded in each of the first rows, and the sum of what was found is no smaller than the own number, where the own row is one of them
pub record AddsUp (rows place : ℕ) (old new : CountToken) (total : ℕ) : Type 0 where
  pub column : List ℕ
  pub each : length column ≡ rows
  pub looked : Looked old new (column_loads place 0 column)
  pub value : total ≡ sum column
  pub own : (row : ℕ) → old.me.0.row ≡ Some row → row < rows → slice_index old.me.0.numbers place ≤ total
  pub exact : (row : ℕ) → old.me.0.row ≡ Some row → row < rows → slice_index column row ≡ slice_index old.me.0.numbers place  -- the load of the own row found the own number

-- the same for each of the first numbers, one after the other
pub record AddUp (rows places : ℕ) (old new : CountToken) (totals : List ℕ) : Type 0 where
  pub columns : List (List ℕ)
  pub all : length columns ≡ places
  pub each : All (λ (column : List ℕ). length column ≡ rows) columns
  pub looked : Looked old new (page_loads 0 columns)
  pub values : totals ≡ map sum columns
  pub own : (row place : ℕ) → old.me.0.row ≡ Some row → row < rows → place < places → slice_index old.me.0.numbers place ≤ slice_index totals place
  pub exact : (row place : ℕ) → old.me.0.row ≡ Some row → row < rows → place < places → found_at columns place row ≡ slice_index old.me.0.numbers place  -- the loads of the own row found the own numbers
