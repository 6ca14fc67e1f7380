-- Paths in order, and pairs of a list.
use Rattle.std.proofs.Common.{◌≡◌, ℕ, suc, ◌+◌, ◌-◌, ◌≤◌, ◌<◌, ◌↔◌, Bool, true, false, List, [], ◌∷◌, length, All, Contains, slice_index_or, refl, sym, ◌∙◌, ap, subst, arith, below_more}
use Rattle.std.specs.Prelude.{IsTrue}
use Rattle.std.specs.BTreeSet.{contains}
use Rattle.std.specs.Cmp.Lexicographic.{slice_cmp}
use Rattle.std.specs.List.{AllPairs}
use Rattle.std.specs.List.Sorted.{IsStrictlySortedBy}
use Rattle.std.specs.Ordering.{nat_cmp, is_lt, is_eq}
use Rattle.std.specs.Str.{bytes_eq}
use Rattle.std.specs.declared.cmp.Ordering.{Ordering}
use Rattle.std.specs.declared.cmp.Ordering.TheVariants.{Less, Equal, Greater}
use Rattle.std.proofs.lemmas.Bool.{false≢true}
use Rattle.std.proofs.lemmas.Cmp.{nat_list_cmp_total}
use Rattle.std.proofs.lemmas.List.{get_or_read}
use Rattle.std.proofs.lemmas.List.Elements.{recursion_from_All}
use Rattle.std.proofs.lemmas.Map.Lookups.{btree_set_from_contains, exact_bytes}
use Rattle.std.proofs.lemmas.Map.Text.{is_eq-slice_cmp}
use Rattle.std.proofs.lemmas.Map.Views.{btree_set_contains_iff}
use Rattle.row_types.specs.Ascends.{Ascends, IsBefore}

-- each of the first elements stands after each one before it, by its path
abbrev pub AscendsBelow : {X : Type 0} → (X → List ℕ) → List X → ℕ → Type 0
AscendsBelow {X} path xs end = (later : ℕ) → later < end → (k : ℕ) (d : X) → k < later → IsBefore (path (slice_index_or xs k d)) (path (slice_index_or xs later d))

-- one more element, which stands after the one before it, stands after all before it
pub ascends_more : {X : Type 0} (path : X → List ℕ) (xs : List X) (i : ℕ) (x y : X) → 1 ≤ i → i < length xs → x ≡ slice_index_or xs (i - 1) x → y ≡ slice_index_or xs i y → IsBefore (path x) (path y) → AscendsBelow path xs i → AscendsBelow path xs (i + 1)
ascends_more {X} path xs i x y some within first second before ascends =
    below_more (λ later. (k : ℕ) (d : X) → k < later → IsBefore (path (slice_index_or xs k d)) (path (slice_index_or xs later d))) i ascends
    (λ k d lt.
    let step : IsBefore (path (slice_index_or xs (i - 1) d)) (path (slice_index_or xs i d)) =
    subst (λ (z : X). IsBefore (path z) (path (slice_index_or xs i d))) (get_or_read xs (i - 1) x (omega arith) first d)
    (subst (λ (z : X). IsBefore (path x) (path z)) (get_or_read xs i y within second d) before) in
    let earlier : (j : ℕ) → j < i - 1 → IsBefore (path (slice_index_or xs j d)) (path (slice_index_or xs i d)) =
    λ j h. nat_list_cmp_total.trans (path (slice_index_or xs j d)) (path (slice_index_or xs (i - 1) d)) (path (slice_index_or xs i d)) (ascends (i - 1) (omega arith) j d h) step in
    below_more (λ j. IsBefore (path (slice_index_or xs j d)) (path (slice_index_or xs i d))) (i - 1) earlier step k (omega arith))

-- paths of which one doesn't stand after the one before it don't ascend
pub not_ascending : (paths : List (List ℕ)) (i : ℕ) (path other : List ℕ) → 1 ≤ i → i < length paths → path ≡ slice_index_or paths (i - 1) path → other ≡ slice_index_or paths i other → (IsBefore path other → ⊥) → Ascends paths → ⊥
not_ascending paths i path other some within first second not_before ascends =
    not_before
    (subst (λ p. IsBefore p other) (sym (get_or_read paths (i - 1) path (omega arith) first path))
    (subst (IsBefore (slice_index_or paths (i - 1) path)) (sym (get_or_read paths i other within second path))
    (ascends (i - 1) i path (omega arith) within)))

-- a path that passes the test of their order stands before the other
pub before_from_test : (path other : List ℕ) → is_lt (slice_cmp nat_cmp path other) ≡ true → IsBefore path other
before_from_test path other passes = of_less (slice_cmp nat_cmp path other) passes
  where
    of_less : (o : Ordering) → is_lt o ≡ true → o ≡ Less
    of_less Less e = refl
    of_less Equal e = absurd (false≢true e)
    of_less Greater e = absurd (false≢true e)

-- paths of which one stands before the other differ
pub before_differs : (path other : List ℕ) → IsBefore path other → bytes_eq path other ≡ false
before_differs path other before = sym (is_eq-slice_cmp path other) ∙ ap is_eq before

-- the first of a list is related to each later one
pub first_related : {X : Type 0} (R : X → X → Type 0) (x : X) (xs : List X) → AllPairs R (x ∷ xs) → All (R x) xs
first_related R x xs h = λ k d within. h 0 (suc k) d (omega arith) (omega (arith, within))

-- the later ones of a list are related
pub rest_related : {X : Type 0} (R : X → X → Type 0) (x : X) (xs : List X) → AllPairs R (x ∷ xs) → AllPairs R xs
rest_related R x xs h = λ i j d later within. h (suc i) (suc j) d (omega (arith, later)) (omega (arith, within))

-- what ascends is sorted as the keys of a set are
as_keys : (paths : List (List ℕ)) → Ascends paths → IsStrictlySortedBy (slice_cmp nat_cmp) paths
unfolding IsStrictlySortedBy
as_keys [] h = tt
as_keys (path ∷ rest) h =
    (recursion_from_All (IsBefore path) rest (first_related IsBefore path rest h), as_keys rest (rest_related IsBefore path rest h))

-- a set of these paths has a path exactly where the list has it
is_listed : (paths : List (List ℕ)) (path : List ℕ) → IsTrue (contains (slice_cmp nat_cmp) (record { keys = paths }) path) ↔ Contains paths path
is_listed paths path = btree_set_contains_iff nat_list_cmp_total exact_bytes (record { keys = paths }) path

one_truth : (a b : Bool) → (a ≡ true → b ≡ true) → (b ≡ true → a ≡ true) → a ≡ b
one_truth true b to from = sym (to refl)
one_truth false true to from = from refl
one_truth false false to from = refl

-- lists that ascend and have the same paths are the same
pub same_paths : (paths others : List (List ℕ)) → Ascends paths → Ascends others
    → ((path : List ℕ) → Contains paths path → Contains others path) → ((path : List ℕ) → Contains others path → Contains paths path) → paths ≡ others
same_paths paths others p q to from =
    btree_set_from_contains nat_list_cmp_total (record { keys = paths }) (record { keys = others }) (as_keys paths p) (as_keys others q)
    (λ path. one_truth _ _ (λ h. (is_listed others path).1 (to path ((is_listed paths path).0 h))) (λ h. (is_listed paths path).1 (from path ((is_listed others path).0 h))))
    exact_bytes
