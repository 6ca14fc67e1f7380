-- Ranges that lie in a file cover no more than it has.
use Rattle.std.proofs.Common.{ℕ, zero, suc, ◌+◌, ◌<◌, ◌≤◌, List, [], ◌∷◌, length, All, arith}
use Rattle.std.proofs.lemmas.List.Elements.{All-head, All-tail}
use Rattle.file_formats.specs.Cover.{IsPlaceOf, CoverMore, Rise}
use Rattle.file_formats.specs.Windows.{Range}

-- places that rise below a bound are no more than lie below it
rising_fit : (from n : ℕ) (ps : List ℕ) → from ≤ n → Rise from ps → All (λ p. p < n) ps → from + length ps ≤ n
rising_fit from n [] within rise below = omega (arith, within)
rising_fit from n (p ∷ ps) within rise below =
    let first : p < n = All-head (λ q. q < n) p ps below in
    let above = rise.0 in
    let rest = rising_fit (p + 1) n ps (omega (arith, first)) rise.1 (All-tail (λ q. q < n) p ps below) in
    omega (arith, above, rest)

pub cover-within : (Of : Range → Type 0) (size n : ℕ) → ((r : Range) → Of r → r.at + r.len ≤ size) → size ≤ n → CoverMore Of n → ⊥
cover-within Of size n inside small c =
    let fit = rising_fit 0 size c.places (omega arith) c.rise (λ i d within. under (c.each i d within)) in
    let more = c.more in
    omega (arith, fit, more, small)
  where
    under : {place : ℕ} → IsPlaceOf Of place → place < size
    under h = let fits = inside h.range h.of in let below = h.inside.below in omega (arith, fits, below)

-- ranges that are among others cover no more than these
pub cover-less : (Of Other : Range → Type 0) (n : ℕ) → ((r : Range) → Of r → Other r) → CoverMore Of n → CoverMore Other n
cover-less Of Other n among c = record {
  places = c.places;
  rise = c.rise;
  each = λ i d within. let h = c.each i d within in record { range = h.range; of = among h.range h.of; inside = h.inside };
  more = c.more;
}
