-- What is found by a path after a put, and without what has a path.
use Rattle.std.proofs.Common.{◌≡◌, ℕ, Bool, true, false, cond, not, List, [], ◌∷◌, Option, Some, None, refl, sym, ◌∙◌, ap}
use Rattle.std.specs.Cmp.Lexicographic.{slice_cmp}
use Rattle.std.specs.List.{filter}
use Rattle.std.specs.Option.{option_or}
use Rattle.std.specs.Ordering.{nat_cmp}
use Rattle.std.specs.Str.{bytes_eq}
use Rattle.std.specs.declared.cmp.Ordering.{Ordering}
use Rattle.std.specs.declared.cmp.Ordering.TheVariants.{Less, Equal, Greater}
use Rattle.std.proofs.lemmas.Bool.{false_from_ne_true}
use Rattle.std.proofs.lemmas.List.Folds.{find-append}
use Rattle.std.proofs.lemmas.Map.Lookups.{exact_bytes}
use Rattle.std.proofs.lemmas.Slice.Eq.{bytes_eq-Decides}
use Rattle.row_types.specs.Ascends.{is_before}
use Rattle.row_types.proofs.AscendsLemmas.{before_differs}
use Rattle.index_rows.specs.ByPath.{put_at, find_at, without_at}
use Rattle.index_rows.proofs.PathLemmas.{before_after, differs_after, fails_after, fails_itself, tests_before}

-- equality of texts goes both ways
pub same_turned : (path other : List ℕ) → bytes_eq path other ≡ bytes_eq other path
same_turned path other =
    (elim (bytes_eq path other) as (λ b. bytes_eq path other ≡ b → b ≡ bytes_eq other path) [
      | true ↦ λ e. sym ((bytes_eq-Decides other path).1 (sym ((bytes_eq-Decides path other).0 e)))
      | false ↦ λ e. sym (false_from_ne_true (bytes_eq other path) (λ t. turned e t))
    ]) refl
  where
    turned : bytes_eq path other ≡ false → bytes_eq other path ≡ true → ⊥
    turned e t =
        let both : bytes_eq path other ≡ true = (bytes_eq-Decides path other).1 (sym ((bytes_eq-Decides other path).0 t)) in
        absurd (let f : true ≡ false = sym both ∙ e in cc)

module _ {X : Type 0} (path : X → List ℕ) (key : List ℕ) where
  -- what is found among those that pass a test of their paths
  pub find_kept : (test : List ℕ → Bool) (xs : List X) → find_at path key (filter (λ x. test (path x)) xs) ≡ cond (test key) (find_at path key xs) None
  find_kept test [] = either (test key)
    where
      either : (b : Bool) → ◌≡◌ {A = Option X} None (cond b None None)
      either true = refl
      either false = refl
  find_kept test (x ∷ xs) =
      (elim (bytes_eq (path x) key) as (λ b. bytes_eq (path x) key ≡ b → find_at path key (cond (test (path x)) (x ∷ filter (λ y. test (path y)) xs) (filter (λ y. test (path y)) xs)) ≡ cond (test key) (cond b (Some x) (find_at path key xs)) None) [
        | true ↦ λ e. here e ((bytes_eq-Decides (path x) key).0 e) (find_kept test xs)
        | false ↦ λ e. there e (find_kept test xs)
      ]) refl
    where
      here : bytes_eq (path x) key ≡ true → path x ≡ key → find_at path key (filter (λ y. test (path y)) xs) ≡ cond (test key) (find_at path key xs) None → find_at path key (cond (test (path x)) (x ∷ filter (λ y. test (path y)) xs) (filter (λ y. test (path y)) xs)) ≡ cond (test key) (Some x) None
      here e same h =
          ap (λ k. find_at path key (cond (test k) (x ∷ filter (λ y. test (path y)) xs) (filter (λ y. test (path y)) xs))) same
          ∙ (elim (test key) as (λ b. test key ≡ b → find_at path key (cond b (x ∷ filter (λ y. test (path y)) xs) (filter (λ y. test (path y)) xs)) ≡ cond b (Some x) None) [
            | true ↦ λ t. ap (λ b. cond b (Some x) (find_at path key (filter (λ y. test (path y)) xs))) e
            | false ↦ λ t. h ∙ ap (λ b. cond b (find_at path key xs) None) t
          ]) refl

      there : bytes_eq (path x) key ≡ false → find_at path key (filter (λ y. test (path y)) xs) ≡ cond (test key) (find_at path key xs) None → find_at path key (cond (test (path x)) (x ∷ filter (λ y. test (path y)) xs) (filter (λ y. test (path y)) xs)) ≡ cond (test key) (find_at path key xs) None
      there e h =
          elim (test (path x)) as (λ b. find_at path key (cond b (x ∷ filter (λ y. test (path y)) xs) (filter (λ y. test (path y)) xs)) ≡ cond (test key) (find_at path key xs) None) [
            | true ↦ ap (λ b. cond b (Some x) (find_at path key (filter (λ y. test (path y)) xs))) e ∙ h
            | false ↦ h
          ]

  -- what is found after a put
  pub find_put : (x : X) (xs : List X) → find_at path key (put_at path x xs) ≡ cond (bytes_eq (path x) key) (Some x) (find_at path key xs)
  find_put x xs =
      find-append (λ y. bytes_eq (path y) key) (filter (λ y. is_before (path y) (path x)) xs) (x ∷ filter (λ y. is_before (path x) (path y)) xs)
      ∙ ap (λ o. option_or o (cond (bytes_eq (path x) key) (Some x) (find_at path key (filter (λ y. is_before (path x) (path y)) xs)))) (find_kept (λ p. is_before p (path x)) xs)
      ∙ ap (λ o. option_or (cond (is_before key (path x)) (find_at path key xs) None) (cond (bytes_eq (path x) key) (Some x) o)) (find_kept (is_before (path x)) xs)
      ∙ by_order (slice_cmp nat_cmp key (path x)) refl
    where
      chosen : (first its second : Bool) (o : Option X) → Option X
      chosen first its second o = option_or (cond first o None) (cond its (Some x) (cond second o None))

      by_cases : (first its second : Bool) → is_before key (path x) ≡ first → bytes_eq (path x) key ≡ its → is_before (path x) key ≡ second → chosen first its second (find_at path key xs) ≡ cond its (Some x) (find_at path key xs)
          → option_or (cond (is_before key (path x)) (find_at path key xs) None) (cond (bytes_eq (path x) key) (Some x) (cond (is_before (path x) key) (find_at path key xs) None)) ≡ cond (bytes_eq (path x) key) (Some x) (find_at path key xs)
      by_cases first its second p q r h =
          ap (λ b. chosen b (bytes_eq (path x) key) (is_before (path x) key) (find_at path key xs)) p
          ∙ ap (λ b. chosen first b (is_before (path x) key) (find_at path key xs)) q
          ∙ ap (λ b. chosen first its b (find_at path key xs)) r
          ∙ h
          ∙ ap (λ b. cond b (Some x) (find_at path key xs)) (sym q)

      or_none : (o : Option X) → option_or o None ≡ o
      or_none None = refl
      or_none (Some y) = refl

      by_order : (o : Ordering) → slice_cmp nat_cmp key (path x) ≡ o → option_or (cond (is_before key (path x)) (find_at path key xs) None) (cond (bytes_eq (path x) key) (Some x) (cond (is_before (path x) key) (find_at path key xs) None)) ≡ cond (bytes_eq (path x) key) (Some x) (find_at path key xs)
      by_order Less e = by_cases true false false (tests_before key (path x) e) (differs_after key (path x) e) (fails_after key (path x) e) (or_none (find_at path key xs))
      by_order Equal e =
          let same : key ≡ path x = exact_bytes key (path x) e in
          by_cases false true false (fails_itself key (path x) same) ((bytes_eq-Decides (path x) key).1 (sym same)) (fails_itself (path x) key (sym same)) refl
      by_order Greater e =
          let after = before_after key (path x) e in
          by_cases false false true (fails_after (path x) key after) (before_differs (path x) key after) (tests_before (path x) key after) refl

  -- what is found without what has a path
  pub find_without : (gone : List ℕ) (xs : List X) → find_at path key (without_at path gone xs) ≡ cond (bytes_eq gone key) None (find_at path key xs)
  find_without gone xs =
      find_kept (λ p. not (bytes_eq p gone)) xs
      ∙ ap (λ b. cond (not b) (find_at path key xs) None) (same_turned key gone)
      ∙ either (bytes_eq gone key) (find_at path key xs)
    where
      either : (b : Bool) (o : Option X) → cond (not b) o None ≡ cond b None o
      either true o = refl
      either false o = refl
