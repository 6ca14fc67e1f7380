-- Names of files, and the file at a path.
use Rattle.std.proofs.Common.{◌≡◌, ℕ, Bool, true, false, cond, List, [], ◌∷◌, map, Option, Some, None}
use Rattle.std.proofs.Common.{option_map, refl, sym, ◌∙◌, ap, Bor}
use Rattle.std.specs.List.{find}
use Rattle.std.specs.Option.{option_copied}
use Rattle.std.specs.Str.{bytes_eq}
use Rattle.std.proofs.lemmas.Slice.Eq.{bytes_eq-Decides}
use Rattle.tree_trait.specs.Found.{FoundFacts, found_name}
use Rattle.row_types.specs.Name.{stamp_at}
use Rattle.tree_trait.specs.Present.{IsFileAt}

-- the stamp at a path is that of the first file of the path
pub stamp_at-names : (files : List FoundFacts) (path : List ℕ)
    → stamp_at (map found_name files) path ≡ option_map (λ file. file.stamp)
    (find (λ file. bytes_eq file.path path) files)
stamp_at-names [] path = refl
stamp_at-names (file ∷ rest) path =
    elim (bytes_eq file.path path) as (λ v. option_map (λ name. name.stamp)
    (cond v (Some (found_name file)) (find (λ name. bytes_eq name.path path) (map found_name rest))) ≡ option_map
    (λ f. f.stamp) (cond v (Some file) (find (λ f. bytes_eq f.path path) rest)))
    [ true ↦ refl | false ↦ stamp_at-names rest path ]

-- what is found passes the test
pub find_passes : {X : Type 0} (p : X → Bool) (xs : List X) {x : X} → find p xs ≡ Some x → p x ≡ true
find_passes p [] e = cc
find_passes p (y ∷ ys) {x} e =
    elim (p y) as (λ v. p y ≡ v → cond v (Some y) (find p ys) ≡ Some x → p x ≡ true)
    [ true ↦ λ t f. cc | false ↦ λ t f. find_passes p ys f ] refl e

-- what the search for a path answers of the names
pub found_at : (files : List FoundFacts) (path : List ℕ) (result : Option (Bor FoundFacts))
    → option_copied result ≡ find (λ file. bytes_eq file.path path) files → IsFileAt files path result
found_at files path None e = stamp_at-names files path ∙ ap (option_map (λ file. file.stamp)) (sym e)
found_at files path (Some file) e = record {
  there = stamp_at-names files path ∙ ap (option_map (λ f. f.stamp)) (sym e);
  asked = (bytes_eq-Decides file.now.path path).0 (find_passes (λ f. bytes_eq f.path path) files (sym e));
}
