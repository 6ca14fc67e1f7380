-- How many places ranges cover together (this project's rule): those of their union, so that a place of two ranges counts once.
use Rattle.std.specs.Prelude.{ℕ, ◌+◌, ◌<◌, ◌≤◌, List, [], ◌∷◌, All, length}
use Rattle.file_formats.specs.Windows.{Range}

-- the place lies in the range
pub record IsIn (p : ℕ) (r : Range) : Type 0 where
  pub above : r.at ≤ p
  pub below : p < r.at + r.len

-- the places rise, from a place on
abbrev pub Rise : ℕ → List ℕ → Type 0
Rise from [] = Unit {0}
Rise from (p ∷ ps) = (from ≤ p) × Rise (p + 1) ps

-- the place lies in one of such ranges
pub record IsPlaceOf (Of : Range → Type 0) (p : ℕ) : Type 0 where
  pub range : Range
  pub of : Of range
  pub inside : IsIn p range

-- such ranges together cover more than n places
pub record CoverMore (Of : Range → Type 0) (n : ℕ) : Type 0 where
  pub places : List ℕ
  pub rise : Rise 0 places
  pub each : All (IsPlaceOf Of) places
  pub more : n < length places
