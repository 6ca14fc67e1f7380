-- Lists in path order, cut at a path: what is found, put and left.
use Rattle.std.proofs.Common.{◌≡◌, ℕ, true, false, not, List, [], ◌∷◌, ◌++◌, Option, Some, None, refl, sym, ◌∙◌, ap}
use Rattle.std.specs.List.{All, filter, find}
use Rattle.std.specs.Option.{option_or, option_to_list}
use Rattle.std.specs.Prelude.{Bool}
use Rattle.std.specs.Str.{bytes_eq}
use Rattle.std.proofs.lemmas.List.{append-nil}
use Rattle.std.proofs.lemmas.List.Elements.{All-head, All-weaker, filter-append}
use Rattle.std.proofs.lemmas.List.Folds.{find-append}
use Rattle.std.proofs.lemmas.Slice.Eq.{bytes_eq-Decides}
use Rattle.row_types.specs.Ascends.{IsBefore, is_before}
use Rattle.row_types.proofs.AscendsLemmas.{before_differs}
use Rattle.index_rows.specs.ByPath.{put_at, find_at, without_at}
use Rattle.index_rows.proofs.Lists.{around, filter_all, filter_none, find_none}
use Rattle.index_rows.proofs.PathLemmas.{differs_after, fails_after, fails_itself, tests_before}

-- what stands before the path, what has it, and what stands behind it
pub record IsApart {X : Type 0} (path : X → List ℕ) (key : List ℕ) (xs front own back : List X) : Type 0 where
  pub whole : xs ≡ front ++ (own ++ back)
  pub below : All (λ x. IsBefore (path x) key) front
  pub here : All (λ x. path x ≡ key) own
  pub above : All (λ x. IsBefore key (path x)) back

-- a filter of three lists
filter_apart : {X : Type 0} (p : X → Bool) (front own back : List X) → filter p (front ++ (own ++ back)) ≡ filter p front ++ (filter p own ++ filter p back)
filter_apart p front own back = filter-append p front (own ++ back) ∙ ap (λ l. filter p front ++ l) (filter-append p own back)

-- the first of three lists is kept
keeps_first : {X : Type 0} (p : X → Bool) (front own back : List X) → All (λ x. p x ≡ true) front → All (λ x. p x ≡ false) own → All (λ x. p x ≡ false) back → filter p (front ++ (own ++ back)) ≡ front
keeps_first p front own back f g h =
    filter_apart p front own back
    ∙ ap (λ l. l ++ (filter p own ++ filter p back)) (filter_all p front f)
    ∙ ap (λ l. front ++ (l ++ filter p back)) (filter_none p own g)
    ∙ ap (λ l. front ++ l) (filter_none p back h)
    ∙ append-nil front

-- the last of three lists is kept
keeps_last : {X : Type 0} (p : X → Bool) (front own back : List X) → All (λ x. p x ≡ false) front → All (λ x. p x ≡ false) own → All (λ x. p x ≡ true) back → filter p (front ++ (own ++ back)) ≡ back
keeps_last p front own back f g h =
    filter_apart p front own back
    ∙ ap (λ l. l ++ (filter p own ++ filter p back)) (filter_none p front f)
    ∙ ap (λ l. l ++ filter p back) (filter_none p own g)
    ∙ filter_all p back h

-- all but the one in the middle are kept
keeps_ends : {X : Type 0} (p : X → Bool) (front own back : List X) → All (λ x. p x ≡ true) front → All (λ x. p x ≡ false) own → All (λ x. p x ≡ true) back → filter p (front ++ (own ++ back)) ≡ front ++ back
keeps_ends p front own back f g h =
    filter_apart p front own back
    ∙ ap (λ l. l ++ (filter p own ++ filter p back)) (filter_all p front f)
    ∙ ap (λ l. front ++ (l ++ filter p back)) (filter_none p own g)
    ∙ ap (λ l. front ++ l) (filter_all p back h)

-- a put takes the place of what has the path
pub put_apart : {X : Type 0} {path : X → List ℕ} (x : X) {xs front own back : List X} → IsApart path (path x) xs front own back → put_at path x xs ≡ front ++ x ∷ back
put_apart {X} {path} x {xs} {front} {own} {back} cut =
    around x (filter (λ y. is_before (path y) (path x)) xs) (filter (λ y. is_before (path x) (path y)) xs) front back
    (ap (filter (λ y. is_before (path y) (path x))) cut.whole
    ∙ keeps_first (λ y. is_before (path y) (path x)) front own back
    (All-weaker (λ y. IsBefore (path y) (path x)) (λ y. is_before (path y) (path x) ≡ true) (λ y. tests_before (path y) (path x)) front cut.below)
    (All-weaker (λ y. path y ≡ path x) (λ y. is_before (path y) (path x) ≡ false) (λ y. fails_itself (path y) (path x)) own cut.here)
    (All-weaker (λ y. IsBefore (path x) (path y)) (λ y. is_before (path y) (path x) ≡ false) (λ y. fails_after (path x) (path y)) back cut.above))
    (ap (filter (λ y. is_before (path x) (path y))) cut.whole
    ∙ keeps_last (λ y. is_before (path x) (path y)) front own back
    (All-weaker (λ y. IsBefore (path y) (path x)) (λ y. is_before (path x) (path y) ≡ false) (λ y. fails_after (path y) (path x)) front cut.below)
    (All-weaker (λ y. path y ≡ path x) (λ y. is_before (path x) (path y) ≡ false) (λ y same. fails_itself (path x) (path y) (sym same)) own cut.here)
    (All-weaker (λ y. IsBefore (path x) (path y)) (λ y. is_before (path x) (path y) ≡ true) (λ y. tests_before (path x) (path y)) back cut.above))

-- without what has the path
pub without_apart : {X : Type 0} {path : X → List ℕ} {key : List ℕ} {xs front own back : List X} → IsApart path key xs front own back → without_at path key xs ≡ front ++ back
without_apart {X} {path} {key} {xs} {front} {own} {back} cut =
    ap (filter (λ x. not (bytes_eq (path x) key))) cut.whole
    ∙ keeps_ends (λ x. not (bytes_eq (path x) key)) front own back
    (All-weaker (λ x. IsBefore (path x) key) (λ x. not (bytes_eq (path x) key) ≡ true) (λ x before. ap not (before_differs (path x) key before)) front cut.below)
    (All-weaker (λ x. path x ≡ key) (λ x. not (bytes_eq (path x) key) ≡ false) (λ x same. ap not ((bytes_eq-Decides (path x) key).1 same)) own cut.here)
    (All-weaker (λ x. IsBefore key (path x)) (λ x. not (bytes_eq (path x) key) ≡ true) (λ x after. ap not (differs_after key (path x) after)) back cut.above)

-- what has the path is found
pub found_apart : {X : Type 0} {path : X → List ℕ} {key : List ℕ} {xs front back : List X} {own : Option X} → IsApart path key xs front (option_to_list own) back → find_at path key xs ≡ own
found_apart {X} {path} {key} {xs} {front} {back} {own} cut =
    ap (find is_its) cut.whole
    ∙ find-append is_its front (option_to_list own ++ back)
    ∙ ap (λ o. option_or o (find is_its (option_to_list own ++ back))) (find_none is_its front (All-weaker (λ x. IsBefore (path x) key) (λ x. is_its x ≡ false) (λ x. before_differs (path x) key) front cut.below))
    ∙ find-append is_its (option_to_list own) back
    ∙ ap (λ o. option_or (find is_its (option_to_list own)) o) (find_none is_its back (All-weaker (λ x. IsBefore key (path x)) (λ x. is_its x ≡ false) (λ x. differs_after key (path x)) back cut.above))
    ∙ own_only own cut.here
  where
    is_its : X → Bool
    is_its x = bytes_eq (path x) key

    own_only : (o : Option X) → All (λ x. path x ≡ key) (option_to_list o) → option_or (find is_its (option_to_list o)) None ≡ o
    own_only None h = refl
    own_only (Some x) h =
        let same : bytes_eq (path x) key ≡ true = (bytes_eq-Decides (path x) key).1 (All-head (λ y. path y ≡ key) x [] h) in
        rw same refl
