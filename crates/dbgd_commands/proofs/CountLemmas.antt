-- Lists without repeats are no longer than the lists that have all their elements.
use Rattle.std.proofs.Common.{◌≡◌, ◌⊎◌, inl, inr, ℕ, zero, suc, ◌+◌, ◌*◌, ◌<◌, ◌≤◌}
use Rattle.std.proofs.Common.{◌&&◌, ◌||◌, Bool, true, false, not, cond}
use Rattle.std.proofs.Common.{List, [], ◌∷◌, length, map, refl, sym, ◌∙◌, ap, subst, arith}
use Rattle.std.specs.List.{Contains, list_any, sum_by}
use Rattle.std.proofs.Math.Nat.{mul-suc}
use Rattle.std.proofs.lemmas.Bool.{and_parts, false_from_ne_true, false≢true, not-true, or_cases}
use Rattle.std.proofs.lemmas.List.Elements.{Contains-append_right}
use Rattle.std.proofs.lemmas.List.Folds.{list_any_at}
use Rattle.std.proofs.lemmas.List.Sums.{sum_by-append}

any_map : {X Y : Type 0} (p : X → Bool) (f : Y → X) (ys : List Y) → list_any p (map f ys) ≡ list_any (λ y. p (f y)) ys
any_map p f [] = refl
any_map p f (y ∷ ys) = ap (λ b. p (f y) || b) (any_map p f ys)

module _ {X : Type 0} (same : X → X → Bool)
    (decides : (a b : X) → (same a b ≡ true → a ≡ b) × (a ≡ b → same a b ≡ true)) where
  abbrev pub has : List X → X → Bool
  has xs x = list_any (same x) xs

  abbrev pub once : List X → Bool
  once [] = true
  once (x ∷ xs) = not (has xs x) && once xs

  -- without its first x
  abbrev cut : X → List X → List X
  cut x [] = []
  cut x (y ∷ ys) = cond (same x y) ys (y ∷ cut x ys)

  or_left : (a b : Bool) → a ≡ true → (a || b) ≡ true
  or_left true b h = refl
  or_left false b h = absurd (false≢true h)

  or_right : (a b : Bool) → b ≡ true → (a || b) ≡ true
  or_right true b h = refl
  or_right false b h = h

  pub has_it : (xs : List X) (x : X) → Contains xs x → has xs x ≡ true
  has_it xs x h =
      list_any_at (same x) xs h.0 x h.1 (subst (λ (y : X). same x y ≡ true) (sym h.2) ((decides x x).1 refl))

  cut_shorter : (x : X) (ys : List X) → has ys x ≡ true → length ys ≡ suc (length (cut x ys))
  cut_shorter x [] h = absurd (false≢true h)
  cut_shorter x (y ∷ ys) h = go (same x y) refl (λ t. cut_shorter x ys t)
    where
      go : (b : Bool) → same x y ≡ b → (has ys x ≡ true → length ys ≡ suc (length (cut x ys)))
          → length (y ∷ ys) ≡ suc (length (cond b ys (y ∷ cut x ys)))
      go true e deeper = refl
      go false e deeper =
          ap suc (deeper (elim (or_cases (same x y) (has ys x) h) [
            | inl t ↦ absurd (false≢true (sym e ∙ t))
            | inr t ↦ t
          ]))

  cut_keeps : (x z : X) (ys : List X) → same z x ≡ false → has ys z ≡ true → has (cut x ys) z ≡ true
  cut_keeps x z [] other h = absurd (false≢true h)
  cut_keeps x z (y ∷ ys) other h = go (same x y) refl (or_cases (same z y) (has ys z) h) (λ t. cut_keeps x z ys other t)
    where
      go : (b : Bool) → same x y ≡ b → (same z y ≡ true) ⊎ (has ys z ≡ true)
          → (has ys z ≡ true → has (cut x ys) z ≡ true)
          → has (cond b ys (y ∷ cut x ys)) z ≡ true
      go true e (inl t) deeper = absurd (false≢true (sym other ∙ ap (same z) ((decides x y).0 e) ∙ t))
      go true e (inr t) deeper = t
      go false e (inl t) deeper = or_left (same z y) _ t
      go false e (inr t) deeper = or_right (same z y) _ (deeper t)

  -- what stands once isn't among the rest
  differs : (x : X) (xs : List X) → not (has xs x) ≡ true → (z : X) → Contains xs z → same z x ≡ false
  differs x xs lacks z within = false_from_ne_true (same z x) (λ t.
      false≢true (sym (not-true (has xs x) lacks)
      ∙ has_it xs x (subst (λ (y : X). Contains xs y) ((decides z x).0 t) within)))

  pub as_many_at_most : (xs ys : List X) → once xs ≡ true → ((x : X) → Contains xs x → has ys x ≡ true)
      → length xs ≤ length ys
  as_many_at_most [] ys single each = omega arith
  as_many_at_most (x ∷ xs) ys single each =
      let parts = and_parts (not (has xs x)) (once xs) single in
      let shorter = cut_shorter x ys (each x (0, omega arith, refl)) in
      let rest : length xs ≤ length (cut x ys)
      = as_many_at_most xs (cut x ys) parts.1 (λ z within.
      cut_keeps x z ys (differs x xs parts.0 z within) (each z (Contains-append_right (x ∷ []) xs z within))) in
      omega (arith, shorter, rest)

  -- what they weigh, where each weighs so much at most, and has a home of its own if it weighs something
  module _ {Y : Type 0} (key : Y → X) (weight : Y → ℕ) where
    has_key : (ys : List Y) (y : Y) → Contains ys y → has (map key ys) (key y) ≡ true
    has_key ys y h =
        any_map (same (key y)) key ys
        ∙ list_any_at (λ z. same (key y) (key z)) ys h.0 y h.1
        (subst (λ (z : Y). same (key y) (key z) ≡ true) (sym h.2) ((decides (key y) (key y)).1 refl))

    pub weigh_at_most : (most : ℕ) (ys : List Y) (homes : List X) → once (map key ys) ≡ true
        → ((y : Y) → Contains ys y → weight y ≤ most)
        → ((y : Y) → Contains ys y → 0 < weight y → has homes (key y) ≡ true)
        → sum_by weight ys ≤ most * length homes
    weigh_at_most most [] homes single light home = omega arith
    weigh_at_most most (y ∷ ys) homes single light home =
        let parts = and_parts (not (has (map key ys) (key y))) (once (map key ys)) single in
        subst (λ n. n ≤ most * length homes) (sym (sum_by-append weight (y ∷ []) ys))
        (go (weight y) refl
        (λ further. weigh_at_most most ys homes parts.1
        (λ z within. light z (Contains-append_right (y ∷ []) ys z within))
        (λ z within some. home z (Contains-append_right (y ∷ []) ys z within) some))
        (λ further. weigh_at_most most ys (cut (key y) homes) parts.1
        (λ z within. light z (Contains-append_right (y ∷ []) ys z within))
        (λ z within some.
        cut_keeps (key y) (key z) homes (apart parts.0 z within)
        (home z (Contains-append_right (y ∷ []) ys z within) some))))
      where
        apart : not (has (map key ys) (key y)) ≡ true → (z : Y) → Contains ys z → same (key z) (key y) ≡ false
        apart lacks z within = false_from_ne_true (same (key z) (key y)) (λ t.
            false≢true (sym (not-true (has (map key ys) (key y)) lacks)
            ∙ subst (λ (x : X). has (map key ys) x ≡ true) ((decides (key z) (key y)).0 t) (has_key ys z within)))

        go : (w : ℕ) → weight y ≡ w → (Unit {0} → sum_by weight ys ≤ most * length homes)
            → (Unit {0} → sum_by weight ys ≤ most * length (cut (key y) homes))
            → sum_by weight (y ∷ []) + sum_by weight ys ≤ most * length homes
        go zero e same_homes fewer =
            let rest = same_homes tt in
            let one : sum_by weight (y ∷ []) ≡ weight y = omega arith in
            omega (arith, e, one, rest)
        go (suc w) e same_homes fewer =
            let shorter = cut_shorter (key y) homes (home y (0, omega arith, refl) (omega (arith, e))) in
            let rest = fewer tt in
            let first = light y (0, omega arith, refl) in
            let whole : most * length homes ≡ most * length (cut (key y) homes) + most
            = ap (λ n. most * n) shorter ∙ mul-suc most (length (cut (key y) homes)) in
            let one : sum_by weight (y ∷ []) ≡ weight y = omega arith in
            omega (arith, one, rest, first, whole)
