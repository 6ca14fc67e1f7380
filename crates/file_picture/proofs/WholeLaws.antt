-- All of a whole file is there.
use Rattle.std.proofs.Common.{◌≡◌, sym, ◌∙◌, ap, subst, ℕ, suc, zero, ◌+◌, ◌<◌, ◌≤◌, List, [], ◌∷◌, length, get_or, arith, Option, Some, None}
use Rattle.std.specs.Prelude.{is_some, MatchOption}
use Rattle.std.specs.Borrow.{Bor}
use Rattle.std.specs.Option.{unwrap_or}
use Rattle.std.proofs.lemmas.List.{get_or_default, same_lists}
use Rattle.file_formats.specs.Numbers.{bytes_at}
use Rattle.file_picture.specs.Agrees.{filled_with_zeros}
use Rattle.file_picture.specs.Picture.{PieceFacts, PictureFacts, IsPicture, IsCovered, GivesRange, known_byte, piece_end}
use Rattle.file_picture.specs.Pieces.{piece_of}
use Rattle.file_picture.specs.Whole.{whole}
use Rattle.file_picture.proofs.AgreeLaws.{filled-sized, filled-byte, filled-agrees, given-bytes, given-covered}
use Rattle.file_picture.proofs.PieceLemmas.{byte_some}

-- it is a picture
pub whole-picture : (b : List ℕ) → IsPicture (whole b)
whole-picture [] = record { apart = tt; within = λ i d below. absurd (omega (arith, below)) }
whole-picture (x ∷ xs) = record { apart = (omega arith, omega arith, tt); within = of }
  where
    of : (i : ℕ) (d : PieceFacts) → i < 1 → piece_end (get_or (piece_of 0 (x ∷ xs) ∷ []) i d) ≤ length (x ∷ xs)
    of zero d below = omega arith
    of (suc i) d below = absurd (omega (arith, below))

-- each of its bytes is known
pub whole-byte : (b : List ℕ) (place : ℕ) → place < length b → known_byte (whole b) place ≡ Some (get_or b place 0)
whole-byte [] place below = absurd (omega (arith, below))
whole-byte (x ∷ xs) place below =
    byte_some 0 (whole (x ∷ xs)).pieces (whole-picture (x ∷ xs)).apart zero (piece_of 0 (x ∷ xs)) (omega arith) place (omega arith)
    (omega (arith, below))
    ∙ ap (λ k. Some (get_or (x ∷ xs) k 0)) (omega arith)

-- filled, it is the file
pub filled-whole : (b : List ℕ) → filled_with_zeros (whole b) ≡ b
filled-whole b =
    let sized = filled-sized (whole b) in
    same_lists (filled_with_zeros (whole b)) b sized
    (λ k d below.
    let under : k < length b = omega (arith, below, sized) in
    get_or_default (filled_with_zeros (whole b)) k d 0 below ∙ filled-byte (whole b) k under
    ∙ ap (λ (o : Option ℕ). unwrap_or o 0) (whole-byte b k under) ∙ get_or_default b k 0 d under)

-- each range of it is there
pub whole-covered : (b : List ℕ) (at len : ℕ) → at + len ≤ length b → IsCovered (whole b) at len
whole-covered b at len fits = record {
  inside = fits;
  known = λ place low high. ap is_some (whole-byte b place (omega (arith, high, fits)));
}

-- what a picture gives stands in it where it is filled
pub part_gives : (p v : PictureFacts) → IsPicture v → (at len : ℕ) (r : Option (Bor (List ℕ))) → p ≡ v
    → MatchOption r (IsCovered p at len → ⊥) (λ bytes. GivesRange p at len bytes.now)
    → MatchOption r (IsCovered v at len → ⊥) (λ bytes. IsCovered v at len × (bytes.now ≡ bytes_at (filled_with_zeros v) at len))
part_gives p v is at len r e given = by r (subst (λ q. MatchOption r (IsCovered q at len → ⊥) (λ bytes. GivesRange q at len bytes.now)) e given)
  where
    by : (r : Option (Bor (List ℕ))) → MatchOption r (IsCovered v at len → ⊥) (λ bytes. GivesRange v at len bytes.now)
        → MatchOption r (IsCovered v at len → ⊥) (λ bytes. IsCovered v at len × (bytes.now ≡ bytes_at (filled_with_zeros v) at len))
    by None none = none
    by (Some bytes) found =
        (given-covered v at len bytes.now found, given-bytes v (filled_with_zeros v) at len bytes.now (filled-agrees v is) found)

-- so do the bytes of a file
pub whole_gives : (b : List ℕ) (v : PictureFacts) (at len : ℕ) (r : Option (Bor (List ℕ))) → whole b ≡ v
    → MatchOption r (length b < at + len) (λ bytes. (at + len ≤ length b) × (bytes.now ≡ bytes_at b at len))
    → MatchOption r (IsCovered v at len → ⊥) (λ bytes. IsCovered v at len × (bytes.now ≡ bytes_at (filled_with_zeros v) at len))
whole_gives b v at len r e given =
    subst (λ w. MatchOption r (IsCovered w at len → ⊥) (λ bytes. IsCovered w at len × (bytes.now ≡ bytes_at (filled_with_zeros w) at len))) e
    (by r given)
  where
    by : (r : Option (Bor (List ℕ)))
        → MatchOption r (length b < at + len) (λ bytes. (at + len ≤ length b) × (bytes.now ≡ bytes_at b at len))
        → MatchOption r (IsCovered (whole b) at len → ⊥)
        (λ bytes. IsCovered (whole b) at len × (bytes.now ≡ bytes_at (filled_with_zeros (whole b)) at len))
    by None short = λ covered. let inside = covered.inside in omega (arith, inside, short)
    by (Some bytes) found =
        (whole-covered b at len found.0, found.1 ∙ ap (λ f. bytes_at f at len) (sym (filled-whole b)))

-- the file's length
pub whole_sized : (b : List ℕ) (v : PictureFacts) → whole b ≡ v → length b ≡ length (filled_with_zeros v)
whole_sized b v e = ap length (sym (filled-whole b)) ∙ ap (λ w. length (filled_with_zeros w)) e
