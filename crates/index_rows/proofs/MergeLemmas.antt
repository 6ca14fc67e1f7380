-- Entries and paths, merged in path order.
use Rattle.std.proofs.Common.{◌≡◌, ◌⊎◌, inl, inr, ℕ, Bool, true, false, cond, List, [], ◌∷◌, ◌++◌, map, Option, None, Some, refl, sym, ◌∙◌, ap, subst, arith}
use Rattle.std.specs.Cmp.Lexicographic.{slice_cmp}
use Rattle.std.specs.List.{All, AllPairs, filter}
use Rattle.std.specs.Option.{option_map_or, option_or}
use Rattle.std.specs.Ordering.{nat_cmp}
use Rattle.std.specs.Prelude.{IsSome}
use Rattle.std.specs.Str.{bytes_eq}
use Rattle.std.specs.declared.cmp.Ordering.{Ordering}
use Rattle.std.specs.declared.cmp.Ordering.TheVariants.{Less, Equal, Greater}
use Rattle.std.proofs.lemmas.Bool.{false≢true}
use Rattle.std.proofs.lemmas.Cmp.{nat_list_cmp_total}
use Rattle.std.proofs.lemmas.List.{append-nil, append_assoc}
use Rattle.std.proofs.lemmas.List.Elements.{All-append, All-cons, All-filter, All-head, All-nil, All-tail, All-weaker, filter_passes}
use Rattle.std.proofs.lemmas.List.Folds.{find-append}
use Rattle.std.proofs.lemmas.List.Kept.{AllPairs-cons, AllPairs-filter}
use Rattle.std.proofs.lemmas.Map.Lookups.{exact_bytes}
use Rattle.std.proofs.lemmas.Slice.Eq.{bytes_eq-Decides}
use Rattle.row_types.specs.Ascends.{Ascends, AscendsBy, IsBefore, is_before}
use Rattle.row_types.proofs.AscendsLemmas.{before_differs, before_from_test}
use Rattle.index_rows.specs.ByPath.{find_at}
use Rattle.index_rows.specs.Tally.{HasPlace, KeepsPlaces, count_at, fresh, merged, tallied_path}
use Rattle.index_rows.specs.declared.tally.Tallied.{Tallied}
use Rattle.index_rows.proofs.HasLemmas.{Has, all_from, filter_has}
use Rattle.index_rows.proofs.Lists.{all_pairs_append, filter_all, filter_none, find_none, first_related, rest_related}
use Rattle.index_rows.proofs.PathLemmas.{before_after, differs_after, fails_after, fails_itself, tests_before}

abbrev number : Option Tallied → ℕ
number found = option_map_or (λ (entry : Tallied). entry.count) found 0

-- the paths before a path, and those behind it
abbrev pub front : List ℕ → List (List ℕ) → List (List ℕ)
front path paths = filter (λ p. is_before p path) paths

abbrev pub back : List ℕ → List (List ℕ) → List (List ℕ)
back path paths = filter (λ p. is_before path p) paths

front_before : (path : List ℕ) (paths : List (List ℕ)) → All (λ p. IsBefore p path) (front path paths)
front_before path paths = All-weaker (λ p. is_before p path ≡ true) (λ p. IsBefore p path) (λ p. before_from_test p path) (front path paths) (filter_passes (λ p. is_before p path) paths)

back_behind : (path : List ℕ) (paths : List (List ℕ)) → All (IsBefore path) (back path paths)
back_behind path paths = All-weaker (λ p. is_before path p ≡ true) (IsBefore path) (λ p. before_from_test path p) (back path paths) (filter_passes (is_before path) paths)

fresh_all : (P : List ℕ → Type 0) (paths : List (List ℕ)) → All P paths → All (λ (t : Tallied). P t.path) (map fresh paths)
fresh_all P [] h = All-nil (λ (t : Tallied). P t.path)
fresh_all P (p ∷ ps) h = All-cons (λ (t : Tallied). P t.path) (fresh p) (map fresh ps) (All-head P p ps h) (fresh_all P ps (All-tail P p ps h))

-- what holds of all paths holds of the merged ones
merged_all : (P : List ℕ → Type 0) (entries : List Tallied) (paths : List (List ℕ)) → All (λ (t : Tallied). P t.path) entries → All P paths → All (λ (t : Tallied). P t.path) (merged entries paths)
merged_all P [] paths h k = fresh_all P paths k
merged_all P (e ∷ es) paths h k =
    All-append (λ (t : Tallied). P t.path) (map fresh (front e.path paths)) (e ∷ merged es (back e.path paths))
    (fresh_all P (front e.path paths) (All-filter (λ p. is_before p e.path) P paths k))
    (All-cons (λ (t : Tallied). P t.path) e (merged es (back e.path paths)) (All-head (λ (t : Tallied). P t.path) e es h)
    (merged_all P es (back e.path paths) (All-tail (λ (t : Tallied). P t.path) e es h) (All-filter (is_before e.path) P paths k)))

abbrev Before : Tallied → Tallied → Type 0
Before x y = IsBefore x.path y.path

fresh_ascends : (paths : List (List ℕ)) → Ascends paths → AscendsBy tallied_path (map fresh paths)
fresh_ascends [] h = λ i j d less within. absurd (omega arith)
fresh_ascends (p ∷ ps) h =
    AllPairs-cons Before (fresh p) (map fresh ps) (fresh_all (IsBefore p) ps (first_related IsBefore p ps h)) (fresh_ascends ps (rest_related IsBefore p ps h))

-- they are in path order
pub merged_ascends : (entries : List Tallied) (paths : List (List ℕ)) → AscendsBy tallied_path entries → Ascends paths → AscendsBy tallied_path (merged entries paths)
merged_ascends [] paths h k = fresh_ascends paths k
merged_ascends (e ∷ es) paths h k =
    let later : All (Before e) (merged es (back e.path paths)) =
    merged_all (IsBefore e.path) es (back e.path paths) (first_related Before e es h) (back_behind e.path paths) in
    all_pairs_append Before (map fresh (front e.path paths)) (e ∷ merged es (back e.path paths))
    (fresh_ascends (front e.path paths) (AllPairs-filter IsBefore (λ p. is_before p e.path) paths k))
    (AllPairs-cons Before e (merged es (back e.path paths)) later (merged_ascends es (back e.path paths) (rest_related Before e es h) (AllPairs-filter IsBefore (is_before e.path) paths k)))
    (fresh_all (λ p. All (λ (t : Tallied). IsBefore p t.path) (e ∷ merged es (back e.path paths))) (front e.path paths)
    (All-weaker (λ p. IsBefore p e.path) (λ p. All (λ (t : Tallied). IsBefore p t.path) (e ∷ merged es (back e.path paths)))
    (λ p before. All-cons (λ (t : Tallied). IsBefore p t.path) e (merged es (back e.path paths)) before
    (All-weaker (Before e) (λ (t : Tallied). IsBefore p t.path) (λ t after. nat_list_cmp_total.trans p e.path t.path before after) (merged es (back e.path paths)) later))
    (front e.path paths) (front_before e.path paths)))

-- ---- what is found among them

fresh_found : (key : List ℕ) (paths : List (List ℕ)) → (find_at tallied_path key (map fresh paths) ≡ None) ⊎ (find_at tallied_path key (map fresh paths) ≡ Some (fresh key))
fresh_found key [] = inl refl
fresh_found key (p ∷ ps) =
    (elim (bytes_eq p key) as (λ b. bytes_eq p key ≡ b → (cond b (Some (fresh p)) (find_at tallied_path key (map fresh ps)) ≡ None) ⊎ (cond b (Some (fresh p)) (find_at tallied_path key (map fresh ps)) ≡ Some (fresh key)))
    [ true ↦ λ e. inr (ap (λ q. Some (fresh q)) ((bytes_eq-Decides p key).0 e)) | false ↦ λ e. fresh_found key ps ]) refl

-- a path that stands before all isn't among them
none_before : (key : List ℕ) (entries : List Tallied) → All (λ (t : Tallied). IsBefore key t.path) entries → find_at tallied_path key entries ≡ None
none_before key entries h = find_none (λ t. bytes_eq t.path key) entries (All-weaker (λ (t : Tallied). IsBefore key t.path) (λ t. bytes_eq t.path key ≡ false) (λ t. differs_after key t.path) entries h)

none_behind : (key : List ℕ) (entries : List Tallied) → All (λ (t : Tallied). IsBefore t.path key) entries → find_at tallied_path key entries ≡ None
none_behind key entries h = find_none (λ t. bytes_eq t.path key) entries (All-weaker (λ (t : Tallied). IsBefore t.path key) (λ t. bytes_eq t.path key ≡ false) (λ t. before_differs t.path key) entries h)

-- what is found about an entry
found_about : (key : List ℕ) (e : Tallied) (es : List Tallied) (paths : List (List ℕ))
    → find_at tallied_path key (merged (e ∷ es) paths) ≡ option_or (find_at tallied_path key (map fresh (front e.path paths))) (cond (bytes_eq e.path key) (Some e) (find_at tallied_path key (merged es (back e.path paths))))
found_about key e es paths = find-append (λ t. bytes_eq (tallied_path t) key) (map fresh (front e.path paths)) (e ∷ merged es (back e.path paths))

-- none of the paths before an entry is its own, nor one behind it
front_none : (key path : List ℕ) (paths : List (List ℕ)) → ((p : List ℕ) → IsBefore p path → IsBefore p key) → find_at tallied_path key (map fresh (front path paths)) ≡ None
front_none key path paths far =
    none_behind key (map fresh (front path paths)) (fresh_all (λ p. IsBefore p key) (front path paths) (All-weaker (λ p. IsBefore p path) (λ p. IsBefore p key) far (front path paths) (front_before path paths)))

-- each path counts as often as it did
pub merged_counts : (entries : List Tallied) (paths : List (List ℕ)) (key : List ℕ) → AscendsBy tallied_path entries → count_at key (merged entries paths) ≡ count_at key entries
merged_counts [] paths key h = elim (fresh_found key paths) [ inl e ↦ ap number e | inr e ↦ ap number e ]
merged_counts (e ∷ es) paths key h =
    ap number (found_about key e es paths) ∙ of (slice_cmp nat_cmp key e.path) refl (merged_counts es (back e.path paths) key (rest_related Before e es h))
  where
    rest : Option Tallied
    rest = cond (bytes_eq e.path key) (Some e) (find_at tallied_path key (merged es (back e.path paths)))

    ahead : find_at tallied_path key (map fresh (front e.path paths)) ≡ None → number (option_or (find_at tallied_path key (map fresh (front e.path paths))) rest) ≡ number rest
    ahead none = ap (λ o. number (option_or o rest)) none

    behind : count_at key (merged es (back e.path paths)) ≡ count_at key es → number rest ≡ count_at key (e ∷ es)
    behind ih = elim (bytes_eq e.path key) as (λ b. number (cond b (Some e) (find_at tallied_path key (merged es (back e.path paths)))) ≡ number (cond b (Some e) (find_at tallied_path key es))) [ true ↦ refl | false ↦ ih ]

    of : (o : Ordering) → slice_cmp nat_cmp key e.path ≡ o → count_at key (merged es (back e.path paths)) ≡ count_at key es → number (option_or (find_at tallied_path key (map fresh (front e.path paths))) rest) ≡ count_at key (e ∷ es)
    of Less t ih =
        elim (fresh_found key (front e.path paths)) [
          | inl none ↦ ahead none ∙ behind ih
          | inr some ↦
              ap (λ o. number (option_or o rest)) some
              ∙ sym (ap number (none_before key (e ∷ es) (All-cons (λ (x : Tallied). IsBefore key x.path) e es t
              (All-weaker (Before e) (λ (x : Tallied). IsBefore key x.path) (λ x after. nat_list_cmp_total.trans key e.path x.path t after) es (first_related Before e es h)))))
        ]
    of Equal t ih =
        let same : e.path ≡ key = sym (exact_bytes key e.path t) in
        ahead (front_none key e.path paths (λ p before. subst (IsBefore p) same before)) ∙ behind ih
    of Greater t ih =
        ahead (front_none key e.path paths (λ p before. nat_list_cmp_total.trans p e.path key before (before_after key e.path t))) ∙ behind ih

some_left : (o q : Option Tallied) → IsSome o → IsSome (option_or o q)
some_left None q h = absurd (false≢true h)
some_left (Some x) q h = refl

some_right : (o q : Option Tallied) → IsSome q → IsSome (option_or o q)
some_right None q h = h
some_right (Some x) q h = refl

abbrev Placed : Option Tallied → Type 0
Placed o = IsSome o

-- each path that had a number has one
pub merged_keeps : (entries : List Tallied) (paths : List (List ℕ)) → KeepsPlaces entries (merged entries paths)
merged_keeps [] paths key has = absurd (false≢true has)
merged_keeps (e ∷ es) paths key has =
    subst Placed (sym (found_about key e es paths))
    (some_right (find_at tallied_path key (map fresh (front e.path paths))) _
    ((elim (bytes_eq e.path key) as (λ b. Placed (cond b (Some e) (find_at tallied_path key es)) → Placed (cond b (Some e) (find_at tallied_path key (merged es (back e.path paths))))) [
      | true ↦ λ h. refl
      | false ↦ λ h. merged_keeps es (back e.path paths) key h
    ]) has))

fresh_place : (key : List ℕ) (paths : List (List ℕ)) → Has paths key → HasPlace key (map fresh paths)
fresh_place key [] h = absurd h
fresh_place key (p ∷ ps) (inl same) =
    let its : bytes_eq p key ≡ true = (bytes_eq-Decides p key).1 (sym same) in
    rw its refl
fresh_place key (p ∷ ps) (inr h) =
    elim (bytes_eq p key) as (λ b. Placed (cond b (Some (fresh p)) (find_at tallied_path key (map fresh ps)))) [ true ↦ refl | false ↦ fresh_place key ps h ]

merged_place : (entries : List Tallied) (paths : List (List ℕ)) (key : List ℕ) → Has paths key → HasPlace key (merged entries paths)
merged_place [] paths key has = fresh_place key paths has
merged_place (e ∷ es) paths key has =
    subst Placed (sym (found_about key e es paths)) (of (slice_cmp nat_cmp key e.path) refl (λ h. merged_place es (back e.path paths) key h))
  where
    rest : Option Tallied
    rest = cond (bytes_eq e.path key) (Some e) (find_at tallied_path key (merged es (back e.path paths)))

    of : (o : Ordering) → slice_cmp nat_cmp key e.path ≡ o → (Has (back e.path paths) key → HasPlace key (merged es (back e.path paths))) → Placed (option_or (find_at tallied_path key (map fresh (front e.path paths))) rest)
    of Less t later = some_left (find_at tallied_path key (map fresh (front e.path paths))) rest (fresh_place key (front e.path paths) (filter_has (λ p. is_before p e.path) paths key has (tests_before key e.path t)))
    of Equal t later =
        let same : bytes_eq e.path key ≡ true = (bytes_eq-Decides e.path key).1 (sym (exact_bytes key e.path t)) in
        some_right (find_at tallied_path key (map fresh (front e.path paths))) rest (subst (λ b. Placed (cond b (Some e) (find_at tallied_path key (merged es (back e.path paths))))) (sym same) refl)
    of Greater t later =
        let there : HasPlace key (merged es (back e.path paths)) = later (filter_has (is_before e.path) paths key has (tests_before e.path key (before_after key e.path t))) in
        some_right (find_at tallied_path key (map fresh (front e.path paths))) rest
        (elim (bytes_eq e.path key) as (λ b. Placed (cond b (Some e) (find_at tallied_path key (merged es (back e.path paths))))) [ true ↦ refl | false ↦ there ])

-- each of the paths has one
pub merged_places : (entries : List Tallied) (paths : List (List ℕ)) → All (λ path. HasPlace path (merged entries paths)) paths
merged_places entries paths = all_from (λ path. HasPlace path (merged entries paths)) paths (λ path has. merged_place entries paths path has)

-- ---- as a loop goes over the paths

-- a path before the entry's comes first
front_more : (path p : List ℕ) (ps : List (List ℕ)) → IsBefore p path → (front path (p ∷ ps) ≡ p ∷ front path ps) × (back path (p ∷ ps) ≡ back path ps)
front_more path p ps before =
    let first : is_before p path ≡ true = tests_before p path before in
    let second : is_before path p ≡ false = fails_after p path before in
    (ap (λ b. cond b (p ∷ front path ps) (front path ps)) first, ap (λ b. cond b (p ∷ back path ps) (back path ps)) second)

-- behind a path that isn't before the entry's, none is
front_ends : (path : List ℕ) (ps : List (List ℕ)) → All (IsBefore path) ps → (front path ps ≡ []) × (back path ps ≡ ps)
front_ends path ps behind = (
  filter_none (λ p. is_before p path) ps (All-weaker (IsBefore path) (λ p. is_before p path ≡ false) (λ p. fails_after path p) ps behind),
  filter_all (is_before path) ps (All-weaker (IsBefore path) (λ p. is_before path p ≡ true) (λ p. tests_before path p) ps behind),
)

front_here : (path p : List ℕ) (ps : List (List ℕ)) → p ≡ path → Ascends (p ∷ ps) → (front path (p ∷ ps) ≡ []) × (back path (p ∷ ps) ≡ ps)
front_here path p ps same h =
    let ends = front_ends path ps (subst (λ q. All (IsBefore q) ps) same (first_related IsBefore p ps h)) in (
      ap (λ b. cond b (p ∷ front path ps) (front path ps)) (fails_itself p path same) ∙ ends.0,
      ap (λ b. cond b (p ∷ back path ps) (back path ps)) (fails_itself path p (sym same)) ∙ ends.1,
    )

front_past : (path p : List ℕ) (ps : List (List ℕ)) → IsBefore path p → Ascends (p ∷ ps) → (front path (p ∷ ps) ≡ []) × (back path (p ∷ ps) ≡ p ∷ ps)
front_past path p ps before h =
    front_ends path (p ∷ ps) (All-cons (IsBefore path) p ps before (All-weaker (IsBefore p) (IsBefore path) (λ q after. nat_list_cmp_total.trans path p q before after) ps (first_related IsBefore p ps h)))

-- what was added so far, and what the paths that are left give, where a path comes next
module _ (old all : List Tallied) (own path : List ℕ) (paths left rest : List (List ℕ)) (whole : left ≡ path ∷ rest) (added : all ++ map fresh (front own left) ≡ old ++ map fresh (front own paths)) (behind : back own left ≡ back own paths) (ascends : Ascends left) where
  its : Ascends (path ∷ rest)
  its = subst Ascends whole ascends

  pub rest_ascends : Ascends rest
  rest_ascends = rest_related IsBefore path rest its

  pub here_added : path ≡ own → all ≡ old ++ map fresh (front own paths)
  here_added same = sym (append-nil all) ∙ sym (ap (λ (l : List (List ℕ)). all ++ map fresh l) (ap (front own) whole ∙ (front_here own path rest same its).0)) ∙ added

  pub here_left : path ≡ own → rest ≡ back own paths
  here_left same = sym (ap (back own) whole ∙ (front_here own path rest same its).1) ∙ behind

  pub past_added : IsBefore own path → all ≡ old ++ map fresh (front own paths)
  past_added before = sym (append-nil all) ∙ sym (ap (λ (l : List (List ℕ)). all ++ map fresh l) (ap (front own) whole ∙ (front_past own path rest before its).0)) ∙ added

  pub past_left : IsBefore own path → left ≡ back own paths
  past_left before = whole ∙ sym (ap (back own) whole ∙ (front_past own path rest before its).1) ∙ behind

  pub more_added : IsBefore path own → (all ++ fresh path ∷ []) ++ map fresh (front own rest) ≡ old ++ map fresh (front own paths)
  more_added before =
      append_assoc all (fresh path ∷ []) (map fresh (front own rest))
      ∙ sym (ap (λ (l : List (List ℕ)). all ++ map fresh l) (ap (front own) whole ∙ (front_more own path rest before).0))
      ∙ added

  pub more_left : IsBefore path own → back own rest ≡ back own paths
  more_left before = sym (ap (back own) whole ∙ (front_more own path rest before).1) ∙ behind
