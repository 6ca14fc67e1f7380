-- What is added to a set of paths.
use Rattle.std.proofs.Common.{◌≡◌, ◌⊎◌, ℕ, inl, inr, Bool, true, false, cond, List, [], ◌∷◌, ◌++◌, ◌+◌, ◌<◌, ◌≤◌, ◌↔◌, length, map, take, get_or, Contains, Decides, Result, Ok, Err, IfOk, refl, sym, ◌∙◌, ap, subst, arith}
use Rattle.std.specs.BTreeMap.{is_at}
use Rattle.std.specs.BTreeSet.{BTreeSet, contains, Updates}
use Rattle.std.specs.Cmp.Lexicographic.{slice_cmp, texts_ties}
use Rattle.std.specs.Ordering.{nat_cmp, is_eq}
use Rattle.std.proofs.lemmas.Bool.{false≢true}
use Rattle.std.proofs.lemmas.Cmp.{nat_list_cmp_total}
use Rattle.std.proofs.lemmas.List.Elements.{Contains-append_left, Contains-push, Contains-push_cases}
use Rattle.std.proofs.lemmas.List.{map_push, take_more, take_all}
use Rattle.std.proofs.lemmas.Slice.Eq.{bytes_eq-Decides}
use Rattle.std.proofs.lemmas.Map.Keys.{Less-from_sorted}
use Rattle.std.proofs.lemmas.Map.Views.{btree_set_contains_iff}
use Rattle.std.specs.Global.{Vec}
use Rattle.std.specs.List.{list_any}
use Rattle.std.specs.List.Sorted.{IsStrictlySortedBy}
use Rattle.row_types.specs.Ascends.{Ascends}
use Rattle.source_paths.specs.Adds.{AddsPaths, Has}
use Rattle.row_types.specs.Sources.{IsOfOne}

-- no path is added
pub adds-nothing : {P : List ℕ → Type 0} (paths : BTreeSet (List ℕ)) → ((path : List ℕ) → P path → ⊥) → AddsPaths P paths paths
adds-nothing paths none = record {
  kept = λ path h. h;
  added = λ path h. absurd (none path h);
  only = λ path h. inl h;
}

-- the same paths are added
pub adds-same : {P Q : List ℕ → Type 0} {old new : BTreeSet (List ℕ)} → ((path : List ℕ) → P path → Q path)
    → ((path : List ℕ) → Q path → P path) → AddsPaths P old new → AddsPaths Q old new
adds-same to from a = record {
  kept = a.kept;
  added = λ path h. a.added path (from path h);
  only = λ path h. elim (a.only path h) [ inl before ↦ inl before | inr here ↦ inr (to path here) ];
}

-- nothing is added that isn't there
pub adds-had : {P : List ℕ → Type 0} (paths : BTreeSet (List ℕ)) → ((path : List ℕ) → P path → Has paths path) → AddsPaths P paths paths
adds-had paths had = record { kept = λ path h. h; added = had; only = λ path h. inl h }

same_path : (p q : List ℕ) → Decides (is_at (slice_cmp nat_cmp p) q) (p ≡ q)
same_path p q = subst (λ b. Decides b (p ≡ q)) (texts_ties p q) (bytes_eq-Decides p q)

-- what a test tells apart
cond_true : (b c : Bool) → c ≡ true → cond b true c ≡ true
cond_true true c e = refl
cond_true false c e = e

cond_cases : (b c : Bool) → cond b true c ≡ true → (b ≡ true) ⊎ (c ≡ true)
cond_cases true c e = inl refl
cond_cases false c e = inr e

-- one path is added
pub adds-one : {P : List ℕ → Type 0} {path : List ℕ} {old new : BTreeSet (List ℕ)} → P path → ((other : List ℕ) → P other → other ≡ path)
    → Updates (slice_cmp nat_cmp) old new path true → AddsPaths P old new
adds-one {P} {path} {old} here only update = record {
  kept = λ p h. update.0 p ∙ cond_true (is_at (slice_cmp nat_cmp path) p) (contains (slice_cmp nat_cmp) old p) h;
  added = λ p h.
      let one : is_at (slice_cmp nat_cmp path) p ≡ true = (same_path path p).1 (sym (only p h)) in
      update.0 p ∙ ap (λ b. cond b true (contains (slice_cmp nat_cmp) old p)) one;
  only = λ p h. elim (cond_cases (is_at (slice_cmp nat_cmp path) p) (contains (slice_cmp nat_cmp) old p) (sym (update.0 p) ∙ h)) [
    | inl one ↦ inr (subst P ((same_path path p).0 one) here)
    | inr before ↦ inl before
  ];
}

-- no element adds a path
pub adds-none_of : {A : Type 0} (P : A → List ℕ → Type 0) (paths : BTreeSet (List ℕ)) → AddsPaths (IsOfOne P []) paths paths
adds-none_of P paths = adds-nothing paths (λ path h. let within = h.among.1 in absurd (omega (arith, within)))

-- one more element adds its paths
pub adds-one_more : {A : Type 0} {P : A → List ℕ → Type 0} {done : List A} {x : A} {old now new : BTreeSet (List ℕ)}
    → AddsPaths (IsOfOne P done) old now → AddsPaths (P x) now new → AddsPaths (IsOfOne P (done ++ x ∷ [])) old new
adds-one_more {A} {P} {done} {x} a b = record {
  kept = λ p h. b.kept p (a.kept p h);
  added = λ p h. elim (Contains-push_cases done x h.one h.among) [
    | inl before ↦ b.kept p (a.added p (record { one = h.one; among = before; has = h.has }))
    | inr same ↦ b.added p (subst (λ z. P z p) (sym same) h.has)
  ];
  only = λ p h. elim (b.only p h) [
    | inl before ↦ elim (a.only p before) [
      | inl old ↦ inl old
      | inr m ↦ inr (record { one = m.one; among = Contains-append_left done (x ∷ []) m.one m.among; has = m.has })
    ]
    | inr here ↦ inr (record { one = x; among = Contains-push done x; has = here })
  ];
}

-- what is read of the next element of a list adds its paths
pub adds-next : {A B : Type 0} (facts : A → B) {P : B → List ℕ → Type 0} (list : List A) (i : ℕ) (one : A)
    {old now new : BTreeSet (List ℕ)} → i < length list → AddsPaths (IsOfOne P (map facts (take i list))) old now
    → AddsPaths (P (facts (get_or list i one))) now new → AddsPaths (IsOfOne P (map facts (take (i + 1) list))) old new
adds-next facts {P} list i one {old} {now} {new} h a b =
    subst (λ done. AddsPaths (IsOfOne P done) old new)
    (sym (ap (map facts) (take_more list i one h) ∙ map_push facts (take i list) (get_or list i one))) (adds-one_more a b)

-- the elements of the whole list have added their paths
pub adds-all : {A B : Type 0} (facts : A → B) {P : B → List ℕ → Type 0} (list : List A) (i : ℕ) {old new : BTreeSet (List ℕ)}
    → length list ≤ i → AddsPaths (IsOfOne P (map facts (take i list))) old new → AddsPaths (IsOfOne P (map facts list)) old new
adds-all facts {P} list i {old} {new} h a = subst (λ l. AddsPaths (IsOfOne P (map facts l)) old new) (take_all i list h) a

-- a list of a set's paths has a path where the set has it
pub listed-exact : {P : List ℕ → Type 0} (paths : BTreeSet (List ℕ)) {list : List (List ℕ)} → list ≡ paths.keys
    → ((path : List ℕ) → Has paths path ↔ P path) → (path : List ℕ) → Contains list path ↔ P path
listed-exact paths {list} e exact path =
    let same = btree_set_contains_iff nat_list_cmp_total (λ x y tied. (same_path x y).0 (ap is_eq tied)) paths path in (
      λ among. (exact path).0 (same.1 (subst (λ l. Contains l path) e among)),
      λ h. subst (λ l. Contains l path) (sym e) (same.0 ((exact path).1 h)),
    )

-- a set without keys has no path
pub has-nothing : (paths : BTreeSet (List ℕ)) (path : List ℕ) → paths.keys ≡ [] → Has paths path → ⊥
has-nothing paths path e h = false≢true (sym (ap (list_any (is_at (slice_cmp nat_cmp path))) e) ∙ h)

-- the paths of a set ascend
pub ascends-sorted : {E : Type 0} (r : Result (Vec (List ℕ)) E) (keys : List (List ℕ)) → IsStrictlySortedBy (slice_cmp nat_cmp) keys
    → IfOk r (λ list. list.items ≡ keys) → IfOk r (λ list. Ascends list.items)
ascends-sorted (Ok list) keys sorted e =
    subst Ascends (sym e) (λ i j d later within. Less-from_sorted (slice_cmp nat_cmp) keys i j d sorted later within)
ascends-sorted (Err fault) keys sorted e = tt
