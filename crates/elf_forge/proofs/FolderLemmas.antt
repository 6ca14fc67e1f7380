-- The folders of the files, and what stands in them.
use Rattle.std.proofs.Common.{◌≡◌, ◌≢◌, ◌⊎◌, ℕ, zero, suc, ◌<◌, ◌≤◌, ◌||◌, ◌&&◌, Bool, true, false, not, List, [], ◌∷◌, ◌++◌}
use Rattle.std.proofs.Common.{map, fold, drop, take, slice_index_or, length, Option, Some, None, is_some, refl, sym, ◌∙◌, ap, subst, append_assoc}
use Rattle.std.proofs.Common.{arith, inl, inr}
use Rattle.std.specs.Prelude.{codes, if◌then◌else◌}
use Rattle.std.specs.List.{list_any}
use Rattle.std.specs.Str.{bytes_eq}
use Rattle.std.proofs.lemmas.Bool.{cond_both, eqb-false, false_from_ne_true, false≢true, ne_eqb, or_cases, or_from, or_parts}
use Rattle.std.proofs.lemmas.List.{map-append}
use Rattle.std.proofs.lemmas.List.Folds.{list_any-append}
use Rattle.std.proofs.lemmas.List.Sums.{fold-append}
use Rattle.std.proofs.lemmas.Slice.Eq.{bytes_eq-Decides}
use Rattle.row_types.proofs.CanonLemmas.{left_true}
use Rattle.row_types.specs.Name.{NameFacts}
use Rattle.row_types.specs.Under.{front_under, lies_under}
use Rattle.tree_trait.specs.Entry.{EntryFacts, has_entry, is_entry_name, same_entry}
use Rattle.tree_trait.specs.Folder.{piece_under, with_piece, with_pieces}
use Rattle.tree_trait.specs.Present.{is_folder}
use Rattle.tree_trait.specs.declared.entry.EntryKind.TheVariants as kind
use Rattle.tree_trait.proofs.EntryLemmas.{entries_same, entry_itself}
use Rattle.tree_trait.proofs.FolderLemmas.{made_is_piece, starts_rest}
use Rattle.elf_forge.specs.Forge.{six_digits}
use Rattle.elf_forge.specs.Place.{forged_entries, file_entry, forged_path, folder_among, folder_at, forged_name, forged_names, numbers_below}
use Rattle.elf_forge.specs.declared.folder.Folder.{Folder}
use Rattle.elf_forge.specs.declared.folder.Folder.TheVariants.{Root, Top, Files}
use Rattle.elf_forge.proofs.DigitLemmas.{digits_name, no_slash_in, same_number}

-- what a test of two texts says
same : (p q : List ℕ) → bytes_eq p q ≡ true → p ≡ q
same p q t = (bytes_eq-Decides p q).0 t

other : (p q : List ℕ) → bytes_eq p q ≡ false → p ≢ q
other p q f e = false≢true (sym f ∙ (bytes_eq-Decides p q).1 e)

-- the folder at a path, case by case
pub by_folder : (p : List ℕ) (P : Option Folder → Type 0) → (p ≡ [] → P (Some Root)) → (p ≡ codes "/" → P (Some Root))
    → (p ≡ codes "/t" → P (Some Top)) → (p ≡ codes "/t/f" → P (Some Files))
    → (p ≢ [] → p ≢ codes "/" → p ≢ codes "/t" → p ≢ codes "/t/f" → P None) → P (folder_at p)
by_folder p P a b c d e =
    cond_both (bytes_eq p [] || bytes_eq p (codes "/")) (Some Root) _ P
    (λ t. elim (or_cases (bytes_eq p []) (bytes_eq p (codes "/")) t) [ inl x ↦ a (same p [] x) | inr y ↦ b (same p (codes "/") y) ])
    (λ f. cond_both (bytes_eq p (codes "/t")) (Some Top) _ P (λ t. c (same p (codes "/t") t))
    (λ g. cond_both (bytes_eq p (codes "/t/f")) (Some Files) None P (λ t. d (same p (codes "/t/f") t))
    (λ h. let none = or_parts (bytes_eq p []) (bytes_eq p (codes "/")) f in
    e (other p [] none.0) (other p (codes "/") none.1) (other p (codes "/t") g) (other p (codes "/t/f") h))))

-- what stands before a slash in a file's path
front_is : (p rest : List ℕ) (k : ℕ) → forged_path k ≡ p ++ 47 ∷ rest → (p ≡ []) ⊎ ((p ≡ codes "/t") ⊎ (p ≡ codes "/t/f"))
front_is [] rest k e = inl refl
front_is (a ∷ []) rest k e = absurd (eqb-false 116 47 refl (ap (λ t. slice_index_or t 1 0) e))
front_is (a ∷ b ∷ []) rest k e = inr (inl (sym (ap (take 2) e)))
front_is (a ∷ b ∷ c ∷ []) rest k e = absurd (eqb-false 102 47 refl (ap (λ t. slice_index_or t 3 0) e))
front_is (a ∷ b ∷ c ∷ d ∷ []) rest k e = inr (inr (sym (ap (take 4) e)))
front_is (a ∷ b ∷ c ∷ d ∷ g ∷ p) rest k e = absurd (no_slash_in k p rest (ap (drop 5) e))

-- a path that isn't the root's, with a slash
front_of : (p : List ℕ) → p ≢ codes "/" → front_under p ≡ p ++ 47 ∷ []
front_of p root =
    let no : bytes_eq p (47 ∷ []) ≡ false = false_from_ne_true _ (λ t. root (same p (47 ∷ []) t)) in
    subst (λ b. (if b then p else p ++ 47 ∷ []) ≡ p ++ 47 ∷ []) (sym no) refl

-- each file lies under the folders, and under nothing else
pub lies_in : (p : List ℕ) (k : ℕ) → lies_under p (forged_path k) ≡ is_some (folder_at p)
lies_in p k =
    by_folder p (λ o. lies_under p (forged_path k) ≡ is_some o) (λ e. moved [] e refl) (λ e. moved (codes "/") e refl)
    (λ e. moved (codes "/t") e refl) (λ e. moved (codes "/t/f") e refl)
    (λ a b c d. false_from_ne_true (lies_under p (forged_path k)) (λ t.
    let front : List ℕ = front_under p in
    let rest : List ℕ = drop (length front) (forged_path k) in
    let begins = starts_rest front (forged_path k) (left_true _ (not (bytes_eq (forged_path k) p)) t) in
    let split = begins ∙ ap (λ f. f ++ rest) (front_of p b) ∙ append_assoc p (47 ∷ []) rest in
    elim (front_is p rest k split) [ inl x ↦ a x | inr (inl y) ↦ c y | inr (inr z) ↦ d z ]))
  where
    moved : (q : List ℕ) → p ≡ q → lies_under q (forged_path k) ≡ true → lies_under p (forged_path k) ≡ true
    moved q e h = subst (λ r. lies_under r (forged_path k) ≡ true) (sym e) h

or_same : (a b c : Bool) → a ≡ c → b ≡ c → (a || b) ≡ c
or_same true b c e f = e
or_same false b c e f = f

-- some file lies under a path exactly where a folder stands there
any_same : (seed : ℕ) (p : List ℕ) (ks : List ℕ) (k : ℕ)
    → list_any (λ (name : NameFacts). lies_under p name.path) (map (forged_name seed) (ks ++ k ∷ [])) ≡ is_some (folder_at p)
any_same seed p [] k = or_from_false (lies_under p (forged_path k)) (lies_in p k)
  where
    or_from_false : (a : Bool) {c : Bool} → a ≡ c → (a || false) ≡ c
    or_from_false true e = e
    or_from_false false e = e
any_same seed p (j ∷ ks) k = or_same _ _ _ (lies_in p j) (any_same seed p ks k)

pub some_files : (n : ℕ) (p : List ℕ) → folder_among (suc n) p ≡ folder_at p
some_files n p =
    subst (λ b. (if b then None else folder_at p) ≡ folder_at p) (sym (ne_eqb (suc n) 0 (λ e. omega (arith, e)))) refl

pub folder_there : (seed files : ℕ) (p : List ℕ) → is_folder (forged_names seed files) p ≡ is_some (folder_among files p)
folder_there seed zero p = refl
folder_there seed (suc n) p = any_same seed p (numbers_below n) n ∙ sym (ap is_some (some_files n p))

-- ---- listings

-- an entry that each file gives is listed once
again : (e : EntryFacts) → with_piece (e ∷ []) (Some e) ≡ e ∷ []
again e =
    subst (λ b. (if is_entry_name e.name && not (b || false) then (e ∷ []) ++ e ∷ [] else e ∷ []) ≡ e ∷ [])
    (sym (entry_itself e)) (no_more (is_entry_name e.name))
  where
    no_more : (v : Bool) → (if v && false then (e ∷ []) ++ e ∷ [] else e ∷ []) ≡ e ∷ []
    no_more true = refl
    no_more false = refl

begin : (e : EntryFacts) → is_entry_name e.name ≡ true → with_piece [] (Some e) ≡ e ∷ []
begin e valid = subst (λ b. (if b && true then [] ++ e ∷ [] else []) ≡ e ∷ []) (sym valid) refl

lone_more : (seed : ℕ) (p : List ℕ) (e : EntryFacts) → ((k : ℕ) → piece_under p (forged_path k) ≡ Some e) → (ks : List ℕ)
    → with_pieces p (e ∷ []) (map (forged_name seed) ks) ≡ e ∷ []
lone_more seed p e gives [] = refl
lone_more seed p e gives (k ∷ ks) =
    ap (λ known. with_pieces p known (map (forged_name seed) ks)) (ap (with_piece (e ∷ [])) (gives k) ∙ again e)
    ∙ lone_more seed p e gives ks

lone : (seed : ℕ) (p : List ℕ) (e : EntryFacts) → ((k : ℕ) → piece_under p (forged_path k) ≡ Some e)
    → is_entry_name e.name ≡ true → (ks : List ℕ) (k : ℕ) → with_pieces p [] (map (forged_name seed) (ks ++ k ∷ [])) ≡ e ∷ []
lone seed p e gives valid [] k = ap (with_piece []) (gives k) ∙ begin e valid
lone seed p e gives valid (j ∷ ks) k =
    ap (λ known. with_pieces p known (map (forged_name seed) (ks ++ k ∷ []))) (ap (with_piece []) (gives j) ∙ begin e valid)
    ∙ lone_more seed p e gives (ks ++ k ∷ [])

-- a further file's entry isn't listed yet
fresh : (n m : ℕ) → m ≤ n → n < 1000000 → has_entry (map file_entry (numbers_below m)) (file_entry n) ≡ false
fresh n zero within few = refl
fresh n (suc m) within few =
    ap (λ es. has_entry es (file_entry n)) (map-append file_entry (numbers_below m) (m ∷ []))
    ∙ list_any-append (same_entry (file_entry n)) (map file_entry (numbers_below m)) (file_entry m ∷ [])
    ∙ or_from _ _ (fresh n m (omega (arith, within)) few) (or_from _ false (false_from_ne_true _ differs) refl)
  where
    differs : same_entry (file_entry n) (file_entry m) ≡ true → ⊥
    differs t =
        let e : n ≡ m = same_number n m few (omega (arith, within, few))
        (ap (λ (x : EntryFacts). x.name) (entries_same (file_entry n) (file_entry m) t)) in
        omega (arith, e, within)

added : (known : List EntryFacts) (e : EntryFacts) → is_entry_name e.name ≡ true → has_entry known e ≡ false
    → with_piece known (Some e) ≡ known ++ e ∷ []
added known e valid new =
    subst (λ b. (if b && not (has_entry known e) then known ++ e ∷ [] else known) ≡ known ++ e ∷ []) (sym valid)
    (subst (λ b. (if not b then known ++ e ∷ [] else known) ≡ known ++ e ∷ []) (sym new) refl)

-- the pieces of the files in their folder
file_piece : (k : ℕ) → piece_under (codes "/t/f") (forged_path k) ≡ Some (file_entry k)
file_piece k =
    made_is_piece (codes "/t/f") (forged_path k) (six_digits k) kind.File (digits_name k)
    ((bytes_eq-Decides (forged_path k) (forged_path k)).1 refl)

all_files : (seed n : ℕ) → n ≤ 1000000
    → with_pieces (codes "/t/f") [] (map (forged_name seed) (numbers_below n)) ≡ map file_entry (numbers_below n)
all_files seed zero few = refl
all_files seed (suc n) few =
    let before : List NameFacts = map (forged_name seed) (numbers_below n) in
    let step : List EntryFacts → NameFacts → List EntryFacts =
    λ known file. with_piece known (piece_under (codes "/t/f") file.path) in
    ap (fold step []) (map-append (forged_name seed) (numbers_below n) (n ∷ []))
    ∙ fold-append step [] before (forged_name seed n ∷ [])
    ∙ ap (λ known. with_piece known (piece_under (codes "/t/f") (forged_path n))) (all_files seed n (omega (arith, few)))
    ∙ ap (with_piece (map file_entry (numbers_below n))) (file_piece n)
    ∙ added (map file_entry (numbers_below n)) (file_entry n) (digits_name n)
    (fresh n n (omega arith) (omega (arith, few)))
    ∙ sym (map-append file_entry (numbers_below n) (n ∷ []))

-- the entry of a folder of a folder
top_piece : (k : ℕ) → piece_under (codes "/t") (forged_path k) ≡ Some (record { name = codes "f"; kind = kind.Folder })
top_piece k = made_is_piece (codes "/t") (forged_path k) (codes "f") kind.Folder refl refl

root_piece : (k : ℕ) → piece_under (codes "/") (forged_path k) ≡ Some (record { name = codes "t"; kind = kind.Folder })
root_piece k = made_is_piece (codes "/") (forged_path k) (codes "t") kind.Folder refl refl

empty_piece : (k : ℕ) → piece_under [] (forged_path k) ≡ Some (record { name = codes "t"; kind = kind.Folder })
empty_piece k = made_is_piece [] (forged_path k) (codes "t") kind.Folder refl refl

-- the files' pieces are the folder's entries
abbrev pub Pieces : ℕ → ℕ → List ℕ → Option Folder → Type 0
Pieces seed n p None = Unit {0}
Pieces seed n p (Some folder) = with_pieces p [] (forged_names seed (suc n)) ≡ forged_entries (suc n) folder

pub pieces_there : (seed n : ℕ) (p : List ℕ) → suc n ≤ 1000000 → Pieces seed n p (folder_at p)
pieces_there seed n p few =
    by_folder p (Pieces seed n p)
    (λ e. subst (λ q. Pieces seed n q (Some Root)) (sym e)
    (lone seed [] (record { name = codes "t"; kind = kind.Folder }) empty_piece refl (numbers_below n) n))
    (λ e. subst (λ q. Pieces seed n q (Some Root)) (sym e)
    (lone seed (codes "/") (record { name = codes "t"; kind = kind.Folder }) root_piece refl (numbers_below n) n))
    (λ e. subst (λ q. Pieces seed n q (Some Top)) (sym e)
    (lone seed (codes "/t") (record { name = codes "f"; kind = kind.Folder }) top_piece refl (numbers_below n) n))
    (λ e. subst (λ q. Pieces seed n q (Some Files)) (sym e) (all_files seed (suc n) few))
    (λ a b c d. tt)
