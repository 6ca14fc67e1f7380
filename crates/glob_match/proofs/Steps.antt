-- The definition step by step: what a pattern with one more character in front matches.
use Rattle.std.proofs.Common.{◌≡◌, ◌≢◌, sym, ap, ℕ, Bool, true, false, ◌==◌, ◌&&◌, List, [], ◌∷◌, ◌++◌, refl, inl, inr}
use Rattle.std.proofs.lemmas.Bool.{ne_eqb, or_cases, or_left, or_right}
use Rattle.glob_match.specs.Glob.{first_and_rest, is_glob_match, some_end, stands_for}
use Rattle.glob_match.specs.declared.matching.TheConstants.{ANY_TEXT}

-- a star in front: the rest matches some end
pub star_is : (p t : List ℕ) → is_glob_match (ANY_TEXT ∷ p) t ≡ some_end (is_glob_match p) t
unfolding is_glob_match
star_is p t = refl

-- another character in front
pub other_is : (w : ℕ) (p t : List ℕ) → w ≢ ANY_TEXT
    → is_glob_match (w ∷ p) t ≡ first_and_rest (stands_for w) (is_glob_match p) t
unfolding is_glob_match
other_is w p t other = let no : (w == ANY_TEXT) ≡ false = ne_eqb w ANY_TEXT other in rw no refl

-- nothing in front
pub nothing_is : (t : List ℕ) → is_glob_match [] t ≡ true → t ≡ []
unfolding is_glob_match
nothing_is [] h = refl
nothing_is (c ∷ t) h = cc

pub nothing_fits : is_glob_match [] [] ≡ true
unfolding is_glob_match
nothing_fits = refl

pub no_true : {X : Type 0} → false ≡ true → X
no_true e = cc

pub and_left : (a b : Bool) → (a && b) ≡ true → a ≡ true
and_left true b h = refl
and_left false b h = no_true h

pub and_right : (a b : Bool) → (a && b) ≡ true → b ≡ true
and_right true b h = h
and_right false b h = no_true h

pub and_true : (a b : Bool) → a ≡ true → (a && b) ≡ b
and_true true b h = refl
and_true false b h = no_true h

-- two truth values are one where each follows from the other
pub same_bool : (a b : Bool) → (a ≡ true → b ≡ true) → (b ≡ true → a ≡ true) → a ≡ b
same_bool true true f g = refl
same_bool true false f g = sym (f refl)
same_bool false true f g = g refl
same_bool false false f g = refl

pub not_true : (b : Bool) → (b ≡ true → ⊥) → b ≡ false
not_true true f = absurd (f refl)
not_true false f = refl

pub true_and_false : {X : Type 0} (b : Bool) → b ≡ true → b ≡ false → X
true_and_false b is_true is_false = cc

-- an end that passes, with what stands in front of it
pub record PassesBehind (passes : List ℕ → Bool) (text : List ℕ) : Type 0 where
  pub front : List ℕ
  pub end : List ℕ
  pub whole : text ≡ front ++ end
  pub here : passes end ≡ true

pub end_found : (f : List ℕ → Bool) (t : List ℕ) → some_end f t ≡ true → PassesBehind f t
end_found f [] h = record { front = []; end = []; whole = refl; here = h }
end_found f (c ∷ t) h =
    elim (or_cases (f (c ∷ t)) (some_end f t) h) [
      | inl here ↦ record { front = []; end = c ∷ t; whole = refl; here = here }
      | inr later ↦
          let found : PassesBehind f t = end_found f t later in
          record { front = c ∷ found.front; end = found.end; whole = ap (λ (x : List ℕ). c ∷ x) found.whole; here = found.here }
    ]

-- the whole text is an end of it
pub end_whole : (f : List ℕ → Bool) (t : List ℕ) → f t ≡ true → some_end f t ≡ true
end_whole f [] h = h
end_whole f (c ∷ t) h = or_left (f (c ∷ t)) (some_end f t) h

-- an end of a text is an end of a longer one
pub end_longer : (f : List ℕ → Bool) (front t : List ℕ) → some_end f t ≡ true → some_end f (front ++ t) ≡ true
end_longer f [] t h = h
end_longer f (c ∷ front) t h = or_right (f (c ∷ (front ++ t))) (some_end f (front ++ t)) (end_longer f front t h)

pub end_at : (f : List ℕ → Bool) (front t : List ℕ) → f t ≡ true → some_end f (front ++ t) ≡ true
end_at f front t h = end_longer f front t (end_whole f t h)
