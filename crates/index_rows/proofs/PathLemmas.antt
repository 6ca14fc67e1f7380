-- Lists in path order: their places, and what puts and drops make of them.
use Rattle.std.proofs.Common.{map, ◌≡◌, ℕ, ◌+◌, ◌<◌, ◌≤◌, suc, true, false, not, List, ◌∷◌, ◌++◌, length, get_or, set, take, drop, Some, None, Result, Ok, Err, sym, ◌∙◌, ap, subst, arith}
use Rattle.std.specs.List.{All, HoldsAt, filter, find, insert, remove}
use Rattle.std.specs.List.Sorted.{IsBinarySearchResult, IsSearchInRange, IsSortedBy}
use Rattle.std.specs.Ordering.{nat_cmp, is_lt, is_eq, ordering_reverse}
use Rattle.std.specs.Cmp.Lexicographic.{slice_cmp}
use Rattle.std.specs.Str.{bytes_eq}
use Rattle.std.specs.declared.cmp.Ordering.TheVariants.{Less, Greater}
use Rattle.std.proofs.lemmas.Cmp.{nat_list_cmp_total, tied_itself}
use Rattle.std.proofs.lemmas.Map.Lookups.{exact_bytes}
use Rattle.std.proofs.lemmas.Map.Text.{is_eq-slice_cmp}
use Rattle.std.proofs.lemmas.Slice.Eq.{bytes_eq-Decides}
use Rattle.std.proofs.lemmas.List.{set-get_or, set_split, take-append-drop, get_or-take, get_or-drop, get_or_default, length-take, length-drop, map-append}
use Rattle.std.proofs.lemmas.List.Elements.{All-append, All-cons, All-filter, All-weaker, filter-append, filter_passes}
use Rattle.std.proofs.lemmas.List.Kept.{AllPairs-cons, AllPairs-filter}
use Rattle.std.proofs.lemmas.List.Sorted.{searchable_from_sorted}
use Rattle.row_types.specs.Ascends.{IsBefore, is_before, AscendsBy}
use Rattle.row_types.proofs.AscendsLemmas.{before_differs, before_from_test}
use Rattle.index_rows.specs.ByPath.{put_at, find_at, without_at}
use Rattle.index_rows.specs.Places.{StandsAt, BelongsAt, IsPathPlace}
use Rattle.index_rows.proofs.Lists.{filter_all, filter_none, filter_front, filter_back, filter_skips, filter_but, around, split_place, find_none, find_first, map_filter, all_pairs_append, IsFound, found_there}

-- the order the other way round
pub after_before : (path other : List ℕ) → IsBefore path other → slice_cmp nat_cmp other path ≡ Greater
after_before path other before = nat_list_cmp_total.antisymm other path ∙ ap ordering_reverse before

-- a path that stands after another has it before
pub before_after : (path other : List ℕ) → slice_cmp nat_cmp path other ≡ Greater → IsBefore other path
before_after path other after = nat_list_cmp_total.antisymm other path ∙ ap ordering_reverse after

-- the test of what stands before
pub tests_before : (path other : List ℕ) → IsBefore path other → is_before path other ≡ true
tests_before path other before = ap is_lt before

-- the test fails the other way round
pub fails_after : (path other : List ℕ) → IsBefore path other → is_before other path ≡ false
fails_after path other before = ap is_lt (after_before path other before)

-- the test fails of a path and itself
pub fails_itself : (path other : List ℕ) → path ≡ other → is_before path other ≡ false
fails_itself path other same = ap (λ p. is_before p other) same ∙ ap is_lt (tied_itself nat_list_cmp_total other)

-- a path that stands after another differs from it
pub differs_after : (path other : List ℕ) → IsBefore path other → bytes_eq other path ≡ false
differs_after path other before = sym (is_eq-slice_cmp other path) ∙ ap is_eq (after_before path other before)

-- what stands before a place that has the path
pub below_place : {X : Type 0} (path : X → List ℕ) (key : List ℕ) (xs : List X) (place : ℕ) → AscendsBy path xs → place < length xs → HoldsAt (λ x. path x ≡ key) xs place → All (λ x. IsBefore (path x) key) (take place xs)
below_place {X} path key xs place ascends within here = λ k d inside.
    let short : k < place = omega (arith, inside, length-take place xs) in
    let first : IsBefore (path (get_or xs k d)) (path (get_or xs place d)) = ascends k place d short within in
    let before : IsBefore (path (get_or xs k d)) key = subst (IsBefore (path (get_or xs k d))) (here d) first in
    subst (λ (x : X). IsBefore (path x) key) (sym (get_or-take place xs k d short)) before

-- what stands behind a place that has the path
pub above_place : {X : Type 0} (path : X → List ℕ) (key : List ℕ) (xs : List X) (place : ℕ) → AscendsBy path xs → place < length xs → HoldsAt (λ x. path x ≡ key) xs place → All (λ x. IsBefore key (path x)) (drop (suc place) xs)
above_place {X} path key xs place ascends within here = λ k d inside.
    let long : suc place + k < length xs = omega (arith, inside, length-drop (suc place) xs) in
    let first : IsBefore (path (get_or xs place d)) (path (get_or xs (suc place + k) d)) = ascends place (suc place + k) d (omega arith) long in
    let after : IsBefore key (path (get_or xs (suc place + k) d)) = subst (λ (q : List ℕ). IsBefore q (path (get_or xs (suc place + k) d))) (here d) first in
    subst (λ (x : X). IsBefore key (path x)) (sym (get_or-drop (suc place) xs k d)) after

-- a place that has the path is where it stands
pub stands_here : {X : Type 0} (path : X → List ℕ) (key : List ℕ) (xs : List X) (place : ℕ) → AscendsBy path xs → place < length xs → HoldsAt (λ x. path x ≡ key) xs place → StandsAt path key xs place
stands_here path key xs place ascends within here = record {
  within = within;
  below = below_place path key xs place ascends within here;
  here = here;
  above = above_place path key xs place ascends within here;
}

-- a place that splits the list at the path is where it belongs
belongs_here : {X : Type 0} (path : X → List ℕ) (key : List ℕ) (xs : List X) (place : ℕ) → place ≤ length xs → ((k : ℕ) (d : X) → 0 ≤ k → k < place → slice_cmp nat_cmp (path (get_or xs k d)) key ≡ Less) → ((k : ℕ) (d : X) → place ≤ k → k < length xs → slice_cmp nat_cmp (path (get_or xs k d)) key ≡ Greater) → BelongsAt path key xs place
belongs_here {X} path key xs place within less greater = record {
  within = within;
  below = λ k d inside.
      let short : k < place = omega (arith, inside, length-take place xs) in
      subst (λ (x : X). IsBefore (path x) key) (sym (get_or-take place xs k d short)) (less k d (omega arith) short);
  above = λ k d inside.
      let long : place + k < length xs = omega (arith, inside, length-drop place xs) in
      subst (λ (x : X). IsBefore key (path x)) (sym (get_or-drop place xs k d)) (before_after (path (get_or xs (place + k) d)) key (greater (place + k) d (omega arith) long));
}

-- a list in path order is one that a search by path can halve
pub searchable : {X : Type 0} (path : X → List ℕ) (xs : List X) → AscendsBy path xs → IsSortedBy (λ a b. is_lt (slice_cmp nat_cmp (path a) (path b))) xs
searchable path xs ascends = λ k d low high. fails_after (path (get_or xs k d)) (path (get_or xs (k + 1) d)) (ascends k (k + 1) d (omega arith) high)

-- a search by path gives the path's place
pub place_found : {X : Type 0} (path : X → List ℕ) (key : List ℕ) (xs : List X) (r : Result ℕ ℕ) → AscendsBy path xs → IsSearchInRange r (length xs) → IsBinarySearchResult (λ x. slice_cmp nat_cmp (path x) key) xs r → IsPathPlace path key xs r
place_found path key xs (Ok place) ascends range found =
    stands_here path key xs place ascends range (λ d. exact_bytes (path (get_or xs place d)) key (found d))
place_found path key xs (Err place) ascends range found =
    let split = found (searchable_from_sorted nat_list_cmp_total path xs key (searchable path xs ascends)) in
    belongs_here path key xs place range split.0 split.1

-- an insert where the path belongs is a put
pub put_new : {X : Type 0} (path : X → List ℕ) (x : X) (xs : List X) (place : ℕ) → BelongsAt path (path x) xs place → insert xs place x ≡ put_at path x xs
put_new {X} path x xs place h =
    around x (take place xs) (drop place xs) (filter (λ y. is_before (path y) (path x)) xs) (filter (λ y. is_before (path x) (path y)) xs)
    (sym (ap (filter (λ y. is_before (path y) (path x))) (sym (take-append-drop place xs)) ∙ front))
    (sym (ap (filter (λ y. is_before (path x) (path y))) (sym (take-append-drop place xs)) ∙ back))
  where
    front : filter (λ y. is_before (path y) (path x)) (take place xs ++ drop place xs) ≡ take place xs
    front = filter_front (λ y. is_before (path y) (path x)) (take place xs) (drop place xs)
        (All-weaker (λ y. IsBefore (path y) (path x)) (λ y. is_before (path y) (path x) ≡ true) (λ y. tests_before (path y) (path x)) (take place xs) h.below)
        (All-weaker (λ y. IsBefore (path x) (path y)) (λ y. is_before (path y) (path x) ≡ false) (λ y. fails_after (path x) (path y)) (drop place xs) h.above)

    back : filter (λ y. is_before (path x) (path y)) (take place xs ++ drop place xs) ≡ drop place xs
    back = filter_back (λ y. is_before (path x) (path y)) (take place xs) (drop place xs)
        (All-weaker (λ y. IsBefore (path y) (path x)) (λ y. is_before (path x) (path y) ≡ false) (λ y. fails_after (path y) (path x)) (take place xs) h.below)
        (All-weaker (λ y. IsBefore (path x) (path y)) (λ y. is_before (path x) (path y) ≡ true) (λ y. tests_before (path x) (path y)) (drop place xs) h.above)

-- a write where the path stands is a put
pub put_over : {X : Type 0} (path : X → List ℕ) (x : X) (xs : List X) (place : ℕ) → StandsAt path (path x) xs place → set xs place x ≡ put_at path x xs
put_over {X} path x xs place h =
    set_split xs place x h.within
    ∙ around x (take place xs) (drop (suc place) xs) (filter (λ y. is_before (path y) (path x)) xs) (filter (λ y. is_before (path x) (path y)) xs)
    (sym (ap (filter (λ y. is_before (path y) (path x))) (split_place xs place x h.within) ∙ front))
    (sym (ap (filter (λ y. is_before (path x) (path y))) (split_place xs place x h.within) ∙ back))
  where
    front : filter (λ y. is_before (path y) (path x)) (take place xs ++ get_or xs place x ∷ drop (suc place) xs) ≡ take place xs
    front = filter_front (λ y. is_before (path y) (path x)) (take place xs) (get_or xs place x ∷ drop (suc place) xs)
        (All-weaker (λ y. IsBefore (path y) (path x)) (λ y. is_before (path y) (path x) ≡ true) (λ y. tests_before (path y) (path x)) (take place xs) h.below)
        (All-cons (λ y. is_before (path y) (path x) ≡ false) (get_or xs place x) (drop (suc place) xs)
        (fails_itself (path (get_or xs place x)) (path x) (h.here x))
        (All-weaker (λ y. IsBefore (path x) (path y)) (λ y. is_before (path y) (path x) ≡ false) (λ y. fails_after (path x) (path y)) (drop (suc place) xs) h.above))

    behind : filter (λ y. is_before (path x) (path y)) (get_or xs place x ∷ drop (suc place) xs) ≡ drop (suc place) xs
    behind =
        filter_skips (λ y. is_before (path x) (path y)) (get_or xs place x) (drop (suc place) xs) (fails_itself (path x) (path (get_or xs place x)) (sym (h.here x)))
        ∙ filter_all (λ y. is_before (path x) (path y)) (drop (suc place) xs)
        (All-weaker (λ y. IsBefore (path x) (path y)) (λ y. is_before (path x) (path y) ≡ true) (λ y. tests_before (path x) (path y)) (drop (suc place) xs) h.above)

    back : filter (λ y. is_before (path x) (path y)) (take place xs ++ get_or xs place x ∷ drop (suc place) xs) ≡ drop (suc place) xs
    back =
        filter-append (λ y. is_before (path x) (path y)) (take place xs) (get_or xs place x ∷ drop (suc place) xs)
        ∙ ap (λ ys. ys ++ filter (λ y. is_before (path x) (path y)) (get_or xs place x ∷ drop (suc place) xs))
        (filter_none (λ y. is_before (path x) (path y)) (take place xs)
        (All-weaker (λ y. IsBefore (path y) (path x)) (λ y. is_before (path x) (path y) ≡ false) (λ y. fails_after (path y) (path x)) (take place xs) h.below))
        ∙ behind

-- a removal where the path stands leaves the list without it
pub removed : {X : Type 0} (path : X → List ℕ) (key : List ℕ) (xs : List X) (place : ℕ) (d : X) → StandsAt path key xs place → remove xs place ≡ without_at path key xs
removed {X} path key xs place d h =
    sym (ap (filter (λ x. not (bytes_eq (path x) key))) (split_place xs place d h.within)
    ∙ filter_but (λ x. not (bytes_eq (path x) key)) (take place xs) (get_or xs place d) (drop (suc place) xs)
    (All-weaker (λ x. IsBefore (path x) key) (λ x. not (bytes_eq (path x) key) ≡ true) (λ x before. ap not (before_differs (path x) key before)) (take place xs) h.below)
    (ap not ((bytes_eq-Decides (path (get_or xs place d)) key).1 (h.here d)))
    (All-weaker (λ x. IsBefore key (path x)) (λ x. not (bytes_eq (path x) key) ≡ true) (λ x after. ap not (differs_after key (path x) after)) (drop (suc place) xs) h.above))

-- what stands is found
pub found_standing : {X : Type 0} (path : X → List ℕ) (key : List ℕ) (xs : List X) (place : ℕ) (d : X) → StandsAt path key xs place → find_at path key xs ≡ Some (get_or xs place d)
found_standing path key xs place d h =
    ap (find (λ x. bytes_eq (path x) key)) (split_place xs place d h.within)
    ∙ find_first (λ x. bytes_eq (path x) key) (take place xs) (get_or xs place d) (drop (suc place) xs)
    (All-weaker (λ x. IsBefore (path x) key) (λ x. bytes_eq (path x) key ≡ false) (λ x. before_differs (path x) key) (take place xs) h.below)
    ((bytes_eq-Decides (path (get_or xs place d)) key).1 (h.here d))

-- what doesn't stand isn't found
pub not_standing : {X : Type 0} (path : X → List ℕ) (key : List ℕ) (xs : List X) (place : ℕ) → BelongsAt path key xs place → find_at path key xs ≡ None
not_standing path key xs place h =
    ap (find (λ x. bytes_eq (path x) key)) (sym (take-append-drop place xs))
    ∙ find_none (λ x. bytes_eq (path x) key) (take place xs ++ drop place xs)
    (All-append (λ x. bytes_eq (path x) key ≡ false) (take place xs) (drop place xs)
    (All-weaker (λ x. IsBefore (path x) key) (λ x. bytes_eq (path x) key ≡ false) (λ x. before_differs (path x) key) (take place xs) h.below)
    (All-weaker (λ x. IsBefore key (path x)) (λ x. bytes_eq (path x) key ≡ false) (λ x. differs_after key (path x)) (drop place xs) h.above))

-- a put keeps the order
pub put_ascends : {X : Type 0} (path : X → List ℕ) (x : X) (xs : List X) → AscendsBy path xs → AscendsBy path (put_at path x xs)
put_ascends {X} path x xs ascends =
    all_pairs_append Before front (x ∷ back)
    (AllPairs-filter Before (λ y. is_before (path y) (path x)) xs ascends)
    (AllPairs-cons Before x back behind (AllPairs-filter Before (λ y. is_before (path x) (path y)) xs ascends))
    (All-weaker (λ y. IsBefore (path y) (path x)) (λ y. All (Before y) (x ∷ back))
    (λ y before. All-cons (Before y) x back before
    (All-weaker (Before x) (Before y) (λ z after. nat_list_cmp_total.trans (path y) (path x) (path z) before after) back behind))
    front ahead)
  where
    Before : X → X → Type 0
    Before y z = IsBefore (path y) (path z)

    front : List X
    front = filter (λ y. is_before (path y) (path x)) xs

    back : List X
    back = filter (λ y. is_before (path x) (path y)) xs

    ahead : All (λ y. IsBefore (path y) (path x)) front
    ahead = All-weaker (λ y. is_before (path y) (path x) ≡ true) (λ y. IsBefore (path y) (path x)) (λ y. before_from_test (path y) (path x)) front (filter_passes (λ y. is_before (path y) (path x)) xs)

    behind : All (Before x) back
    behind = All-weaker (λ y. is_before (path x) (path y) ≡ true) (Before x) (λ y. before_from_test (path x) (path y)) back (filter_passes (λ y. is_before (path x) (path y)) xs)

-- the others keep the order
pub without_ascends : {X : Type 0} (path : X → List ℕ) (key : List ℕ) (xs : List X) → AscendsBy path xs → AscendsBy path (without_at path key xs)
without_ascends path key xs ascends = AllPairs-filter (λ x y. IsBefore (path x) (path y)) (λ x. not (bytes_eq (path x) key)) xs ascends

-- what holds of all and of x holds of all after a put
pub put_holds : {X : Type 0} (P : X → Type 0) (path : X → List ℕ) (x : X) (xs : List X) → All P xs → P x → All P (put_at path x xs)
put_holds P path x xs all one =
    All-append P (filter (λ y. is_before (path y) (path x)) xs) (x ∷ filter (λ y. is_before (path x) (path y)) xs)
    (All-filter (λ y. is_before (path y) (path x)) P xs all)
    (All-cons P x (filter (λ y. is_before (path x) (path y)) xs) one (All-filter (λ y. is_before (path x) (path y)) P xs all))

-- a put of what f gives, where f keeps the path
pub map_put : {X Y : Type 0} (f : X → Y) (path : Y → List ℕ) (x : X) (xs : List X) → map f (put_at (λ y. path (f y)) x xs) ≡ put_at path (f x) (map f xs)
map_put {X} {Y} f path x xs =
    map-append f (filter (λ y. is_before (path (f y)) (path (f x))) xs) (x ∷ filter (λ y. is_before (path (f x)) (path (f y))) xs)
    ∙ around (f x) _ _ _ _ (map_filter f (λ y. is_before (path y) (path (f x))) xs) (map_filter f (λ y. is_before (path (f x)) (path y)) xs)

-- what was found by its path stands at a place
pub found_stands : {X : Type 0} (path : X → List ℕ) (key : List ℕ) (xs : List X) (x : X) (ascends : AscendsBy path xs) (found : IsFound (λ y. bytes_eq (path y) key) xs x) → StandsAt path key xs found.place
found_stands {X} path key xs x ascends found =
    let key_is : path x ≡ key = (bytes_eq-Decides (path x) key).0 found.passes in
    stands_here path key xs found.place ascends found.within
    (λ d. ap path (get_or_default xs found.place d x found.within ∙ found.there) ∙ key_is)

-- to put again what stands changes nothing
pub put_again : {X : Type 0} (path : X → List ℕ) (xs : List X) (x : X) → AscendsBy path xs → find_at path (path x) xs ≡ Some x → put_at path x xs ≡ xs
put_again {X} path xs x ascends e =
    let found : IsFound (λ y. bytes_eq (path y) (path x)) xs x = found_there (λ y. bytes_eq (path y) (path x)) xs x e in
    sym (put_over path x xs found.place (found_stands path (path x) xs x ascends found))
    ∙ ap (set xs found.place) (sym found.there)
    ∙ set-get_or xs found.place x
