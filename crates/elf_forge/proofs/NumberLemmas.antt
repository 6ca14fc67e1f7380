-- The file at a path among so many files.
use Rattle.std.proofs.Common.{◌≡◌, ◌≢◌, ℕ, zero, suc, ◌<◌, ◌≤◌, true, false, cond, List, [], ◌∷◌, map, length}
use Rattle.std.proofs.Common.{Some, None, option_map, refl, sym, ◌∙◌, ap, subst, arith, ◌⊎◌, inl, inr}
use Rattle.std.specs.List.{find}
use Rattle.std.specs.Option.{option_or}
use Rattle.std.specs.Str.{bytes_eq}
use Rattle.std.proofs.lemmas.Bool.{false_from_ne_true, cases_order}
use Rattle.std.proofs.lemmas.List.Folds.{find-append}
use Rattle.std.proofs.lemmas.Slice.Eq.{bytes_eq-Decides}
use Rattle.row_types.specs.Name.{NameFacts, stamp_at}
use Rattle.elf_forge.specs.Place.{forged_path, forged_name, forged_names, forged_number_at, forged_number_in, numbers_below, forged_stamp}
use Rattle.elf_forge.proofs.DigitLemmas.{number_of_path, same_path}

-- one more file
more_at : (files : ℕ) (path : List ℕ) → forged_number_at (suc files) path ≡ option_or (forged_number_at files path)
    (cond (bytes_eq (forged_path files) path) (Some files) None)
more_at files path = find-append (λ k. bytes_eq (forged_path k) path) (numbers_below files) (files ∷ [])

-- no file stands at the path
pub none_at : (files : ℕ) (path : List ℕ) → ((k : ℕ) → k < files → path ≢ forged_path k) → forged_number_at files path ≡ None
none_at zero path other = refl
none_at (suc files) path other =
    more_at files path
    ∙ ap (λ o. option_or o (cond (bytes_eq (forged_path files) path) (Some files) None))
    (none_at files path (λ k below. other k (omega (arith, below))))
    ∙ ap (λ b. cond b (Some files) None)
    (false_from_ne_true (bytes_eq (forged_path files) path)
    (λ t. other files (omega arith) (sym ((bytes_eq-Decides (forged_path files) path).0 t))))

-- the file of a number stands at its path
pub some_at : (files k : ℕ) → files ≤ 1000000 → k < files → forged_number_at files (forged_path k) ≡ Some k
some_at zero k few below = absurd (omega (arith, below))
some_at (suc files) k few below = elim (earlier k files below) [
  | inl e ↦ subst (λ n. forged_number_at (suc files) (forged_path n) ≡ Some n) (sym e) last
  | inr less ↦ more_at files (forged_path k)
      ∙ ap (λ o. option_or o (cond (bytes_eq (forged_path files) (forged_path k)) (Some files) None))
      (some_at files k (omega (arith, few)) less)
]
  where
    earlier : (k files : ℕ) → k < suc files → (k ≡ files) ⊎ (k < files)
    earlier k files below = elim (cases_order k files) [
      | inl e ↦ inl e
      | inr (inl less) ↦ inr less
      | inr (inr more) ↦ absurd (omega (arith, below, more))
    ]

    last : forged_number_at (suc files) (forged_path files) ≡ Some files
    last = more_at files (forged_path files)
        ∙ ap (λ o. option_or o (cond (bytes_eq (forged_path files) (forged_path files)) (Some files) None))
        (none_at files (forged_path files) (λ j less e.
        let same = same_path files j (omega (arith, few)) (omega (arith, few, less)) e in omega (arith, less, same)))
        ∙ ap (λ b. cond b (Some files) None) ((bytes_eq-Decides (forged_path files) (forged_path files)).1 refl)

-- the stamp at a path is that of the file there
stamp_names : (seed : ℕ) (ks : List ℕ) (path : List ℕ) → stamp_at (map (forged_name seed) ks) path
    ≡ option_map (forged_stamp seed) (find (λ k. bytes_eq (forged_path k) path) ks)
stamp_names seed [] path = refl
stamp_names seed (k ∷ ks) path =
    elim (bytes_eq (forged_path k) path) as (λ v. option_map (λ (name : NameFacts). name.stamp)
    (cond v (Some (forged_name seed k)) (find (λ name. bytes_eq name.path path) (map (forged_name seed) ks)))
    ≡ option_map (forged_stamp seed) (cond v (Some k) (find (λ j. bytes_eq (forged_path j) path) ks)))
    [ true ↦ refl | false ↦ stamp_names seed ks path ]

pub stamp_there : (seed files : ℕ) (path : List ℕ)
    → stamp_at (forged_names seed files) path ≡ option_map (forged_stamp seed) (forged_number_at files path)
stamp_there seed files path = stamp_names seed (numbers_below files) path

-- a path of another length is no file's
pub none_short : (files : ℕ) (path : List ℕ) → length path ≢ 11 → forged_number_at files path ≡ None
none_short files path other = none_at files path (λ k below e. other (ap length e))

-- a path that isn't that of the number in it is no file's
pub none_other : (files : ℕ) (path : List ℕ) → files ≤ 1000000
    → (forged_number_in path < files → bytes_eq (forged_path (forged_number_in path)) path ≡ true → ⊥) → forged_number_at files path ≡ None
none_other files path few other =
    none_at files path (λ k below e.
    let number : forged_number_in path ≡ k = ap forged_number_in e ∙ number_of_path k (omega (arith, few, below)) in
    other (subst (λ n. n < files) (sym number) below)
    (subst (λ n. bytes_eq (forged_path n) path ≡ true) (sym number) ((bytes_eq-Decides (forged_path k) path).1 (sym e))))

-- a path that is that of the number in it is that file's
pub some_path : (files k : ℕ) (path : List ℕ) → files ≤ 1000000 → k < files → bytes_eq (forged_path k) path ≡ true
    → forged_number_at files path ≡ Some k
some_path files k path few below t =
    subst (λ p. forged_number_at files p ≡ Some k) ((bytes_eq-Decides (forged_path k) path).0 t) (some_at files k few below)
