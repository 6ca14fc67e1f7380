-- The totals of a page (this project's rule): what was loaded for them, and what they add up.
use Rattle.std.specs.Prelude.{◌≡◌, ℕ, ◌+◌, ◌≤◌, List, [], ◌∷◌, ◌++◌, map, length, slice_index, slice_index_or, Some, All, sum}
use Rattle.dbgd_metrics.specs.declared.number.Number.{Number}
use Rattle.dbgd_metrics.specs.declared.view.Load.{Load}
use Rattle.dbgd_metrics.specs.Numbers.{number_of_row, number_place, count_of_numbers}
use Rattle.dbgd_metrics.specs.Page.{metrics_text}
use Rattle.dbgd_metrics.specs.Rule.{word_at}
use Rattle.dbgd_metrics.specs.Shares.{ShareFacts}

-- the loads of the number at a place, in this row and those behind it, which found these
abbrev pub column_loads : ℕ → ℕ → List ℕ → List Load
column_loads place row [] = []
column_loads place row (n ∷ column) = record { word = word_at row place; found = n } ∷ column_loads place (row + 1) column

-- the loads of the number at this place, and then of those behind it, each in all rows
abbrev pub page_loads : ℕ → List (List ℕ) → List Load
page_loads place [] = []
page_loads place (column ∷ columns) = column_loads place 0 column ++ page_loads (place + 1) columns

-- what the load of the number at a place found in a row
abbrev pub found_at : List (List ℕ) → ℕ → ℕ → ℕ
found_at columns place row = slice_index (slice_index_or columns place []) row

-- every word of every row was loaded once, and found these numbers. These are the loads that the share notes: without them the
-- totals of its own row alone would be a page, by some numbers in the other rows
pub record Loads (rows : ℕ) (columns : List (List ℕ)) (old new : ShareFacts) : Type 0 where
  pub all : length columns ≡ count_of_numbers
  pub each : All (λ column. length column ≡ rows) columns
  pub share : new ≡ record old { loads = old.loads ++ page_loads 0 columns }

-- the page of the totals, each the sum of what its loads found; those of the share's own row found its own numbers, so no total is smaller than the own number
pub record IsPage (rows : ℕ) (old new : ShareFacts) (text : List ℕ) : Type 0 where
  pub columns : List (List ℕ)
  pub loads : Loads rows columns old new
  pub own : (number : Number) → number_of_row old.numbers number ≤ number_of_row (map sum columns) number
  pub exact : (row : ℕ) (number : Number) → old.row ≡ Some row → found_at columns (number_place number) row ≡ number_of_row old.numbers number
  pub lines : text ≡ metrics_text (map sum columns)

-- the share noted loads, and nothing else of it changed
pub record OnlyNotes (old new : ShareFacts) : Type 0 where
  pub more : List Load
  pub share : new ≡ record old { loads = old.loads ++ more }
