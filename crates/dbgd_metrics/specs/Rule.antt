-- What the counters' table keeps, and what each kind of step on it tells (this project's rule). Word 0 is the number of rows that were
-- drawn; behind it lie the rows, a word for each number.
use Rattle.std.specs.Prelude.{◌≡◌, ◌≢◌, ℕ, ◌+◌, ◌*◌, ◌<◌, ◌≤◌, List, [], ◌∷◌, ◌++◌, length, slice_index, slice_set, Some, None}
use mathlib.Core.Option.{some}
use lib.ListN.{get_elem?}
use Rattle.atomic_table.specs.Table.{State, Me, Step}
use Rattle.atomic_table.specs.declared.shared.Seat.{Seat}
use Rattle.dbgd_metrics.specs.declared.view.Known.{Known}
use Rattle.dbgd_metrics.specs.declared.view.Load.{Load}
use Rattle.dbgd_metrics.specs.Numbers.{zeros, count_of_numbers, most_rows}

-- the word of a number in a row
abbrev pub word_at : ℕ → ℕ → ℕ
word_at row place = 1 + count_of_numbers * row + place

-- the row lies within a table of so many words
abbrev pub IsRowInside : ℕ → ℕ → Type 0
IsRowInside row words = (row < most_rows) × (word_at (row + 1) 0 ≤ words)

-- a seat without a row, that has counted and noted nothing
abbrev pub blank : Known
blank = record { row = None; numbers = zeros; loads = []; drawn = 0 }

-- the same, but for what another knows of the drawn rows
abbrev pub heir : Known → Known
heir known = record blank { drawn = known.drawn }

-- what no seat knows: it has no numbers
abbrev pub no_seat : Known
no_seat = record blank { numbers = [] }

-- what the table keeps at every moment
pub record KeepsBook {S : Type 0} (rows : ℕ) (state : State S Known) : Type 0 where
  pub size : length state.words ≡ 1 + count_of_numbers * rows  -- one word, and one for each number of each row
  pub drawn : slice_index state.words 0 ≤ rows  -- no more rows were drawn than there are
  pub below : (id : ℕ) (known : Known) (row : ℕ) → get_elem? state.views id ≡ some known → known.row ≡ Some row → row < slice_index state.words 0  -- a seat's row was drawn
  pub owned : (row : ℕ) → row < slice_index state.words 0 → (id : ℕ) × (known : Known) × (get_elem? state.views id ≡ some known) × (known.row ≡ Some row)  -- each drawn row is a seat's
  pub alone : (i j : ℕ) (one other : Known) (row : ℕ) → get_elem? state.views i ≡ some one → get_elem? state.views j ≡ some other → one.row ≡ Some row → other.row ≡ Some row → i ≡ j  -- no two seats have one row
  pub behind : (id : ℕ) (known : Known) → get_elem? state.views id ≡ some known → known.drawn ≤ slice_index state.words 0  -- what a seat knows to be drawn was drawn
  pub whole : (id : ℕ) (known : Known) → get_elem? state.views id ≡ some known → length known.numbers ≡ count_of_numbers  -- a seat has all numbers
  pub same : (id : ℕ) (known : Known) (row place : ℕ) → get_elem? state.views id ≡ some known → known.row ≡ Some row → place < count_of_numbers → slice_index state.words (word_at row place) ≡ slice_index known.numbers place  -- the words of its row are its numbers
  pub idle : (id : ℕ) (known : Known) → get_elem? state.views id ≡ some known → known.row ≡ None → known.numbers ≡ zeros  -- a seat without a row has counted nothing
  pub rest : (word : ℕ) → count_of_numbers * slice_index state.words 0 < word → word ≤ count_of_numbers * rows → slice_index state.words word ≡ 0  -- rows that weren't drawn are zeros

-- what a seat knows once it has noted more loads
abbrev pub known_after : Known → List Load → Known
known_after known more = record known { loads = known.loads ++ more }

module _ {S : Type 0} where
  -- where the word is one of the own row, it holds the own number
  abbrev pub TellsOwn : Step S → Me S Known → ℕ → Type 0
  TellsOwn step before found = (row place : ℕ) → before.0.row ≡ Some row → place < count_of_numbers → step.word ≡ word_at row place → found ≡ slice_index before.0.numbers place

  -- a load, which changes nothing
  abbrev pub read : Step S → Me S Known → ℕ → Me S Known → Type 0
  read step before found after = (after ≡ before) × TellsOwn step before found

  -- a load, which changes nothing but that it is noted with what it found
  abbrev pub noticed : Step S → Me S Known → ℕ → Me S Known → Type 0
  noticed step before found after = (after ≡ (known_after before.0 (record { word = step.word; found = found } ∷ []), before.1)) × TellsOwn step before found

  -- an exchange on the number of drawn rows: the seat has the row of the number that it found, behind those that it knew to be drawn, or the number was another and nothing changes
  abbrev pub drew : Step S → Me S Known → ℕ → Me S Known → Type 0
  drew step before found after = (found ≡ step.first → (after ≡ (record before.0 { row = Some found; drawn = found + 1 }, before.1)) × (before.0.drawn ≤ found)) × (found ≢ step.first → after ≡ before)

  -- an addition to a word of the own row, by which that number of the seat grows
  abbrev pub added : Step S → Me S Known → ℕ → Me S Known → Type 0
  added step before found after = (row place : ℕ) → before.0.row ≡ Some row → place < count_of_numbers → step.word ≡ word_at row place
      → after ≡ (record before.0 { numbers = slice_set before.0.numbers place (slice_index before.0.numbers place + step.first) }, before.1)

  -- a step that no seat makes
  abbrev pub never_comes : Step S → Me S Known → ℕ → Me S Known → Type 0
  never_comes step before found after = ⊥

-- a seat of the table
abbrev pub CountToken : Type 0
CountToken = Seat (Unit {0}) Known

-- the seat has noted more loads, and nothing else of it changed
pub record Looked (old new : CountToken) (more : List Load) : Type 0 where
  pub table : new.table_id ≡ old.table_id
  pub me : new.me ≡ (known_after old.me.0 more, old.me.1)
