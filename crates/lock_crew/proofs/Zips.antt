-- Two lists side by side (lemmas over std's AllZip).
use Rattle.std.proofs.Common.{◌≡◌, ℕ, suc, ◌<◌, List, [], ◌∷◌, ◌++◌, All, length, take, refl, ap, ◌∙◌, arith, slice_index_or}
use Rattle.std.specs.List.{AllZip}
use Rattle.std.proofs.lemmas.List.Elements.{All-cons, All-nil}

module _ {A B : Type 0} where
  -- what follows from what holds of each pair holds of each pair
  pub zip_weaker : {R Q : A → B → Type 0} → ((x : A) (y : B) → R x y → Q x y) → (xs : List A) (ys : List B)
      → AllZip R xs ys → AllZip Q xs ys
  zip_weaker so [] [] holds = tt
  zip_weaker so [] (y ∷ ys) holds = absurd holds
  zip_weaker so (x ∷ xs) [] holds = absurd holds
  zip_weaker so (x ∷ xs) (y ∷ ys) holds = (so x y holds.0, zip_weaker so xs ys holds.1)

  -- what follows from each pair of its right element holds of all right elements
  pub zip_right : {R : A → B → Type 0} {Q : B → Type 0} → ((x : A) (y : B) → R x y → Q y) → (xs : List A) (ys : List B)
      → AllZip R xs ys → All Q ys
  zip_right {Q = Q} so [] [] holds = All-nil Q
  zip_right so [] (y ∷ ys) holds = absurd holds
  zip_right so (x ∷ xs) [] holds = absurd holds
  zip_right {Q = Q} so (x ∷ xs) (y ∷ ys) holds =
      All-cons Q y ys (so x y holds.0) (zip_right so xs ys holds.1)

module _ {A : Type 0} where
  -- lists of one length, of which the elements at each place stand so
  pub zip_by_index : (R : A → A → Type 0) → (xs ys : List A) → length ys ≡ length xs
      → ((i : ℕ) (d : A) → i < length xs → R (slice_index_or xs i d) (slice_index_or ys i d)) → AllZip R xs ys
  zip_by_index R [] [] same each = tt
  zip_by_index R [] (y ∷ ys) same each = absurd (omega (arith, same))
  zip_by_index R (x ∷ xs) [] same each = absurd (omega (arith, same))
  zip_by_index R (x ∷ xs) (y ∷ ys) same each = (
    each 0 x (omega arith),
    zip_by_index R xs ys (omega (arith, same)) (λ i d below. each (suc i) d (omega (arith, below))),
  )

  -- a front of the right length is the whole first list
  pub front_all : (n : ℕ) (xs ys : List A) → n ≡ length xs → take n (xs ++ ys) ≡ xs
  front_all n [] ys long = ap (λ k. take k ys) long
  front_all n (x ∷ xs) ys long =
      ap (λ k. take k (x ∷ (xs ++ ys))) long ∙ ap (λ zs. x ∷ zs) (front_all (length xs) xs ys refl)

  -- a list without elements is the empty list
  pub none_left : (xs : List A) → length xs ≡ 0 → xs ≡ []
  none_left [] none = refl
  none_left (x ∷ xs) none = absurd (omega (arith, none))
