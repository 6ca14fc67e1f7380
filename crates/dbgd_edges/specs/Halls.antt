-- The places of a lobby (this project's rule): an entry for each, in which a connection stands or none does.
use Rattle.std.specs.Prelude.{◌≡◌, ◌≢◌, ℕ, List, Option, None, slice_index_or}

-- what stands at a place, if something does
abbrev pub conn_at : {X : Type 0} → List (Option X) → ℕ → Option X
conn_at rows place = slice_index_or rows place None

-- at each other place stands what stood there
abbrev pub KeepsOtherPlaces : {X : Type 0} → ℕ → List (Option X) → List (Option X) → Type 0
KeepsOtherPlaces place old new = (k : ℕ) → k ≢ place → conn_at new k ≡ conn_at old k
