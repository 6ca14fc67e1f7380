-- Paths without a last slash.
use Rattle.std.proofs.Common.{◌≡◌, ◌≢◌, ℕ, Bool, false, List, [], ◌∷◌, ◌++◌, refl, sym, ap, arith, if◌then◌else◌}
use Rattle.std.specs.Prelude.{◌==◌}
use Rattle.std.proofs.lemmas.Bool.Decides.{nat_tests}
use Rattle.federation.specs.Address.{base_of}

pub base_of_slash : (front : List ℕ) → base_of (front ++ 47 ∷ []) ≡ front
base_of_slash [] = refl
base_of_slash (a ∷ []) = refl
base_of_slash (a ∷ b ∷ front) = ap (λ t. a ∷ t) (base_of_slash (b ∷ front))

other : (b : ℕ) → b ≢ 47 → (b == 47) ≡ false
other b not = grind (arith, nat_tests)

pub base_of_other : (path : List ℕ) → ((front : List ℕ) → path ≢ front ++ (47 ∷ [])) → path ≡ base_of path
base_of_other [] none = refl
base_of_other (b ∷ []) none =
    sym (ap (λ (t : Bool). if t then [] else b ∷ []) (other b (λ is. none [] (ap (λ x. x ∷ []) is))))
base_of_other (b ∷ c ∷ path) none =
    ap (λ t. b ∷ t) (base_of_other (c ∷ path) (λ front is. none (b ∷ front) (ap (λ t. b ∷ t) is)))
