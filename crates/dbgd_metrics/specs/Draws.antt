-- How a share draws its row (this project's rule): it loads the number of drawn rows until it takes the next one, or finds that none is
-- left.
use Rattle.std.specs.Prelude.{◌≡◌, ℕ, ◌+◌, ◌<◌, ◌≤◌, List, [], ◌∷◌, ◌++◌, Some, All}
use Rattle.dbgd_metrics.specs.declared.view.Load.{Load}
use Rattle.dbgd_metrics.specs.declared.share.Drawn.{Drawn}
use Rattle.dbgd_metrics.specs.declared.share.Drawn.TheVariants.{Drawn as drawn, Full as full}
use Rattle.dbgd_metrics.specs.Numbers.{zeros}
use Rattle.dbgd_metrics.specs.Rule.{CountToken, IsRowInside}
use Rattle.dbgd_metrics.specs.Shares.{ShareFacts}
use Rattle.dbgd_metrics.specs.Splits.{SplitsShare}
use Rattle.dbgd_metrics.specs.declared.share.ShareSplit.TheVariants.{Two}

-- these loads of the number of drawn rows found some row left
abbrev pub FindRoom : ℕ → List Load → Type 0
FindRoom rows tries = All (λ (l : Load). (l.word ≡ 0) × (l.found < rows)) tries

-- a load of the number of drawn rows, which found this
abbrev pub finds : ℕ → Load
finds n = record { word = 0; found = n }

-- the last load found a row left, the first of those, which is now the share's, behind those that it knew to be drawn; it has
-- counted nothing
pub record TakesRow (rows : ℕ) (old new : ShareFacts) : Type 0 where
  pub tries : List Load
  pub free : FindRoom rows tries
  pub row : ℕ
  pub below : row < rows
  pub behind : old.drawn ≤ row
  pub share : new ≡ record old { row = Some row; loads = old.loads ++ tries ++ finds row ∷ []; drawn = row + 1 }
  pub nothing : new.numbers ≡ zeros

-- the last load found every row drawn, and the share stays without one
pub record FindsNoRow (rows : ℕ) (old new : ShareFacts) : Type 0 where
  pub tries : List Load
  pub free : FindRoom rows tries
  pub found : ℕ
  pub all : rows ≤ found
  pub share : new ≡ record old { loads = old.loads ++ tries ++ finds found ∷ [] }

-- what a share without a row draws
abbrev pub Draws : ℕ → ShareFacts → Drawn → Type 0
Draws rows old (drawn new) = TakesRow rows old new
Draws rows old (full new) = FindsNoRow rows old new

-- a share that knows the row of another to be drawn draws a row behind it, so that no two of them have one row: each that drew
-- knows its own row to be drawn, and each that a split gives knows what the share knew that it is of. A call is handed one share,
-- and can't speak of all others
pub record DrawsApart : Type 0 where
  pub behind : (rows : ℕ) (one old new : ShareFacts) (row next : ℕ) → one.row ≡ Some row → row < one.drawn → one.drawn ≤ old.drawn
      → TakesRow rows old new → new.row ≡ Some next → row < next
  pub knows : (rows : ℕ) (old new : ShareFacts) (row : ℕ) → TakesRow rows old new → new.row ≡ Some row → row < new.drawn
  -- so two shares have different rows where the second was split off once the first had its row
  pub two : (rows : ℕ) (share drawn_one : ShareFacts) (first second : ShareFacts) (new : ShareFacts) (row next : ℕ) → TakesRow rows share drawn_one
      → SplitsShare drawn_one (Two first second) → TakesRow rows second new → first.row ≡ Some row → new.row ≡ Some next → row < next

-- the same of the share's seat, where it gets a row, which lies within the table
pub record GetsRow (rows : ℕ) (old new : CountToken) (row : ℕ) : Type 0 where
  pub tries : List Load
  pub free : FindRoom rows tries
  pub below : row < rows
  pub behind : old.me.0.drawn ≤ row
  pub there : IsRowInside row new.table_id.words
  pub table : new.table_id ≡ old.table_id
  pub me : new.me ≡ (record old.me.0 { row = Some row; loads = old.me.0.loads ++ tries ++ finds row ∷ []; drawn = row + 1 }, old.me.1)

-- the same of the share's seat, where it finds none
pub record SeesNone (rows : ℕ) (old new : CountToken) : Type 0 where
  pub tries : List Load
  pub free : FindRoom rows tries
  pub found : ℕ
  pub all : rows ≤ found
  pub table : new.table_id ≡ old.table_id
  pub me : new.me ≡ (record old.me.0 { loads = old.me.0.loads ++ tries ++ finds found ∷ [] }, old.me.1)
