-- Path order (this project's rule): by bytes, each path once.
use Rattle.std.specs.Prelude.{◌≡◌, ℕ, Bool, List}
use Rattle.std.specs.List.{AllPairs}
use Rattle.std.specs.Ordering.{is_lt, nat_cmp}
use Rattle.std.specs.Cmp.Lexicographic.{slice_cmp}
use Rattle.std.specs.declared.cmp.Ordering.TheVariants.{Less}

-- the first path stands before the second
abbrev pub IsBefore : List ℕ → List ℕ → Type 0
IsBefore path other = slice_cmp nat_cmp path other ≡ Less

-- whether the first path stands before the second
abbrev pub is_before : List ℕ → List ℕ → Bool
is_before path other = is_lt (slice_cmp nat_cmp path other)

-- each path stands before each later one
abbrev pub Ascends : List (List ℕ) → Type 0
Ascends paths = AllPairs IsBefore paths

-- the path of each stands before that of each later one
abbrev pub AscendsBy : {X : Type 0} → (X → List ℕ) → List X → Type 0
AscendsBy path xs = AllPairs (λ x y. IsBefore (path x) (path y)) xs
