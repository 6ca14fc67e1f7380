-- Filters, finds and pairs of lists.
use Rattle.std.proofs.Common.{map, ◌≡◌, ℕ, ◌<◌, suc, Bool, true, false, cond, List, [], ◌∷◌, ◌++◌, length, get_or, take, drop, Some, None, refl, sym, ◌∙◌, ap, subst, arith}
use Rattle.std.specs.List.{All, AllPairs, filter, find}
use Rattle.std.proofs.lemmas.Option.{none-some}
use Rattle.std.proofs.lemmas.List.{append-nil, set-get_or, set_split}
use Rattle.std.proofs.lemmas.List.Elements.{All-head, All-tail, All-append, filter-append}
use Rattle.std.proofs.lemmas.List.Kept.{AllPairs-cons}
pub use Rattle.row_types.proofs.AscendsLemmas.{first_related, rest_related}

-- a test that is always true keeps all
pub filter_true : {X : Type 0} (xs : List X) → filter (λ _. true) xs ≡ xs
filter_true [] = refl
filter_true (x ∷ xs) = ap (λ ys. x ∷ ys) (filter_true xs)

-- a test that all pass keeps all
pub filter_all : {X : Type 0} (p : X → Bool) (xs : List X) → All (λ x. p x ≡ true) xs → filter p xs ≡ xs
filter_all p [] h = refl
filter_all p (x ∷ xs) h =
    let head : p x ≡ true = All-head (λ y. p y ≡ true) x xs h in
    rw head (ap (λ ys. x ∷ ys) (filter_all p xs (All-tail (λ y. p y ≡ true) x xs h)))

-- a test that none passes keeps none
pub filter_none : {X : Type 0} (p : X → Bool) (xs : List X) → All (λ x. p x ≡ false) xs → filter p xs ≡ []
filter_none p [] h = refl
filter_none p (x ∷ xs) h =
    let head : p x ≡ false = All-head (λ y. p y ≡ false) x xs h in
    rw head (filter_none p xs (All-tail (λ y. p y ≡ false) x xs h))

-- tests that agree on the elements keep the same
pub filter_same : {X : Type 0} (p q : X → Bool) (xs : List X) → All (λ x. p x ≡ q x) xs → filter p xs ≡ filter q xs
filter_same p q [] h = refl
filter_same p q (x ∷ xs) h =
    ap (λ b. cond b (x ∷ filter p xs) (filter p xs)) (All-head (λ y. p y ≡ q y) x xs h)
    ∙ ap (λ ys. cond (q x) (x ∷ ys) ys) (filter_same p q xs (All-tail (λ y. p y ≡ q y) x xs h))

-- a filter by what f gives, before f and after it
pub map_filter : {X Y : Type 0} (f : X → Y) (p : Y → Bool) (xs : List X) → map f (filter (λ x. p (f x)) xs) ≡ filter p (map f xs)
map_filter f p [] = refl
map_filter f p (x ∷ xs) =
    elim (p (f x)) as (λ b. map f (cond b (x ∷ filter (λ y. p (f y)) xs) (filter (λ y. p (f y)) xs)) ≡ cond b (f x ∷ filter p (map f xs)) (filter p (map f xs)))
    [ true ↦ ap (λ ys. f x ∷ ys) (map_filter f p xs) | false ↦ map_filter f p xs ]

-- the front is kept, and nothing behind it
pub filter_front : {X : Type 0} (p : X → Bool) (front back : List X) → All (λ x. p x ≡ true) front → All (λ x. p x ≡ false) back → filter p (front ++ back) ≡ front
filter_front p front back passes fails =
    filter-append p front back
    ∙ ap (λ ys. ys ++ filter p back) (filter_all p front passes)
    ∙ ap (λ ys. front ++ ys) (filter_none p back fails)
    ∙ append-nil front

-- the back is kept, and nothing before it
pub filter_back : {X : Type 0} (p : X → Bool) (front back : List X) → All (λ x. p x ≡ false) front → All (λ x. p x ≡ true) back → filter p (front ++ back) ≡ back
filter_back p front back fails passes =
    filter-append p front back
    ∙ ap (λ ys. ys ++ filter p back) (filter_none p front fails)
    ∙ filter_all p back passes

-- what fails is not kept
pub filter_skips : {X : Type 0} (p : X → Bool) (x : X) (xs : List X) → p x ≡ false → filter p (x ∷ xs) ≡ filter p xs
filter_skips p x xs fails = ap (λ b. cond b (x ∷ filter p xs) (filter p xs)) fails

-- all but one are kept
pub filter_but : {X : Type 0} (p : X → Bool) (front : List X) (x : X) (back : List X) → All (λ y. p y ≡ true) front → p x ≡ false → All (λ y. p y ≡ true) back → filter p (front ++ x ∷ back) ≡ front ++ back
filter_but p front x back before fails after =
    filter-append p front (x ∷ back)
    ∙ ap (λ ys. ys ++ filter p (x ∷ back)) (filter_all p front before)
    ∙ ap (λ ys. front ++ ys) (filter_skips p x back fails ∙ filter_all p back after)

-- the same about one element
pub around : {X : Type 0} (x : X) (front back head tail : List X) → front ≡ head → back ≡ tail → front ++ x ∷ back ≡ head ++ x ∷ tail
around x front back head tail p q = ap (λ ys. ys ++ x ∷ back) p ∙ ap (λ ys. head ++ x ∷ ys) q

-- the list about one of its places
pub split_place : {X : Type 0} (xs : List X) (i : ℕ) (d : X) → i < length xs → xs ≡ take i xs ++ get_or xs i d ∷ drop (suc i) xs
split_place xs i d within = sym (set-get_or xs i d) ∙ set_split xs i (get_or xs i d) within

-- nothing is found where nothing passes
pub find_none : {X : Type 0} (p : X → Bool) (xs : List X) → All (λ x. p x ≡ false) xs → find p xs ≡ None
find_none p [] h = refl
find_none p (x ∷ xs) h =
    ap (λ b. cond b (Some x) (find p xs)) (All-head (λ y. p y ≡ false) x xs h) ∙ find_none p xs (All-tail (λ y. p y ≡ false) x xs h)

-- the first that passes is found
pub find_first : {X : Type 0} (p : X → Bool) (front : List X) (x : X) (back : List X) → All (λ y. p y ≡ false) front → p x ≡ true → find p (front ++ x ∷ back) ≡ Some x
find_first p [] x back h passes = ap (λ b. cond b (Some x) (find p back)) passes
find_first p (y ∷ front) x back h passes =
    ap (λ b. cond b (Some y) (find p (front ++ x ∷ back))) (All-head (λ z. p z ≡ false) y front h)
    ∙ find_first p front x back (All-tail (λ z. p z ≡ false) y front h) passes

-- what was found passes, and stands at some place
pub record IsFound {X : Type 0} (p : X → Bool) (xs : List X) (x : X) : Type 0 where
  pub place : ℕ
  pub within : place < length xs
  pub there : get_or xs place x ≡ x
  pub passes : p x ≡ true

-- what is found stands there
pub found_there : {X : Type 0} (p : X → Bool) (xs : List X) (x : X) → find p xs ≡ Some x → IsFound p xs x
found_there p [] x e = absurd (none-some x e)
found_there p (y ∷ ys) x e =
    elim (p y) as (λ b. p y ≡ b → cond b (Some y) (find p ys) ≡ Some x → IsFound p (y ∷ ys) x)
    [ true ↦ λ passes here. first passes here | false ↦ λ _ later. behind (found_there p ys x later) ] refl e
  where
    first : p y ≡ true → Some y ≡ Some x → IsFound p (y ∷ ys) x
    first passes here =
        let same : y ≡ x = cc in
        record { place = 0; within = omega arith; there = same; passes = subst (λ z. p z ≡ true) same passes }

    behind : IsFound p ys x → IsFound p (y ∷ ys) x
    behind found = record { place = suc found.place; within = omega (arith, found.within); there = found.there; passes = found.passes }

-- the pairs of two lists, and those across
pub all_pairs_append : {X : Type 0} (R : X → X → Type 0) (xs ys : List X) → AllPairs R xs → AllPairs R ys → All (λ x. All (R x) ys) xs → AllPairs R (xs ++ ys)
all_pairs_append R [] ys front back across = back
all_pairs_append R (x ∷ xs) ys front back across =
    AllPairs-cons R x (xs ++ ys)
    (All-append (R x) xs ys (first_related R x xs front) (All-head (λ z. All (R z) ys) x xs across))
    (all_pairs_append R xs ys (rest_related R x xs front) back (All-tail (λ z. All (R z) ys) x xs across))
