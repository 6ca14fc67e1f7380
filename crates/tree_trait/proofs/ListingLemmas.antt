-- The pieces of all files are the listing of a folder.
use Rattle.std.proofs.Common.{◌≡◌, ℕ, ◌&&◌, ◌⊎◌, Bool, true, false, not, List, [], ◌∷◌, ◌++◌, Option, Some}
use Rattle.std.proofs.Common.{None, refl, sym, ◌∙◌, ap, subst, inl, inr}
use Rattle.std.specs.Prelude.{if◌then◌else◌}
use Rattle.std.specs.List.{list_all}
use Rattle.std.proofs.lemmas.Bool.{not-true, and_from, or_cases, or_from, or_left, or_parts, or_right}
use Rattle.std.proofs.lemmas.List.Folds.{list_all-append, list_any-append}
use Rattle.row_types.specs.Name.{NameFacts}
use Rattle.row_types.proofs.CanonLemmas.{left_true, right_true}
use Rattle.tree_trait.proofs.EntryLemmas.{entry_itself, entry_back}
use Rattle.tree_trait.proofs.FolderLemmas.{piece_makes, made_is_piece}
use Rattle.tree_trait.specs.Dir.{child, makes, is_there, are_once, IsFolderListing}
use Rattle.tree_trait.specs.Entry.{EntryFacts, is_entry_name, same_entry, has_entry}
use Rattle.tree_trait.specs.Folder.{piece_under, with_piece, with_pieces}

-- what each entry has, each has with one more piece that has it
piece_each : (P : EntryFacts → Bool) (known : List EntryFacts) (p : Option EntryFacts)
    → list_all P known ≡ true → ((e : EntryFacts) → p ≡ Some e → is_entry_name e.name ≡ true → P e ≡ true)
    → list_all P (with_piece known p) ≡ true
piece_each P known None h k = h
piece_each P known (Some e) h k =
    elim (is_entry_name e.name && not (has_entry known e)) as (λ v.
    (is_entry_name e.name && not (has_entry known e)) ≡ v
    → list_all P (if v then known ++ e ∷ [] else known) ≡ true) [
      | true ↦ λ t. list_all-append P known (e ∷ [])
          ∙ and_from _ _ h (and_from (P e) true (k e refl (left_true (is_entry_name e.name) _ t)) refl)
      | false ↦ λ t. h
    ] refl

each_of : (folder : List ℕ) (whole files : List NameFacts) (known : List EntryFacts)
    → ((e : EntryFacts) → is_there files folder e ≡ true → is_there whole folder e ≡ true)
    → list_all (is_there whole folder) known ≡ true
    → list_all (is_there whole folder) (with_pieces folder known files) ≡ true
each_of folder whole [] known sub h = h
each_of folder whole (file ∷ rest) known sub h =
    each_of folder whole rest (with_piece known (piece_under folder file.path))
    (λ e t. sub e (or_right (makes e.kind (child folder e.name) file.path) _ t))
    (piece_each (is_there whole folder) known (piece_under folder file.path) h
    (λ e p valid. sub e (or_left _ (is_there rest folder e) (piece_makes folder file.path p valid))))

-- an entry that is known stays, and a piece is known from then on
piece_keeps : (known : List EntryFacts) (p : Option EntryFacts) (e : EntryFacts) → has_entry known e ≡ true
    → has_entry (with_piece known p) e ≡ true
piece_keeps known None e h = h
piece_keeps known (Some f) e h =
    elim (is_entry_name f.name && not (has_entry known f)) as (λ v. has_entry
    (if v then known ++ f ∷ [] else known) e ≡ true) [
      | true ↦ list_any-append (same_entry e) known (f ∷ []) ∙ or_left _ _ h
      | false ↦ h
    ]

piece_adds : (known : List EntryFacts) (e : EntryFacts) → is_entry_name e.name ≡ true
    → has_entry (with_piece known (Some e)) e ≡ true
piece_adds known e valid =
    elim (has_entry known e) as (λ v. has_entry known e ≡ v
    → has_entry (if is_entry_name e.name && not v then known ++ e ∷ [] else known) e ≡ true) [
      | true ↦ λ t. subst (λ b. has_entry (if b then known ++ e ∷ [] else known) e ≡ true)
          (sym (and_no (is_entry_name e.name))) t
      | false ↦ λ t. subst (λ b. has_entry (if b then known ++ e ∷ [] else known) e ≡ true)
          (sym (and_from (is_entry_name e.name) true valid refl))
          (list_any-append (same_entry e) known (e ∷ [])
          ∙ or_right (has_entry known e) _ (or_left (same_entry e e) false (entry_itself e)))
    ] refl
  where
    and_no : (b : Bool) → (b && false) ≡ false
    and_no true = refl
    and_no false = refl

all_of : (folder : List ℕ) (files : List NameFacts) (known : List EntryFacts) (e : EntryFacts)
    → is_entry_name e.name ≡ true → (has_entry known e ≡ true) ⊎ (is_there files folder e ≡ true)
    → has_entry (with_pieces folder known files) e ≡ true
all_of folder [] known e valid (inl h) = h
all_of folder [] known e valid (inr h) = cc
all_of folder (file ∷ rest) known e valid (inl h) =
    all_of folder rest (with_piece known (piece_under folder file.path)) e valid
    (inl (piece_keeps known (piece_under folder file.path) e h))
all_of folder (file ∷ rest) known e valid (inr h) =
    elim (or_cases (makes e.kind (child folder e.name) file.path) (is_there rest folder e) h) [
      | inl t ↦ all_of folder rest (with_piece known (piece_under folder file.path)) e valid
          (inl (subst (λ p. has_entry (with_piece known p) e ≡ true)
          (sym (made_is_piece folder file.path e.name e.kind valid t)) (piece_adds known e valid)))
      | inr t ↦ all_of folder rest (with_piece known (piece_under folder file.path)) e valid (inr t)
    ]

-- no entry stands twice
once_more : (known : List EntryFacts) (e : EntryFacts) → are_once known ≡ true → has_entry known e ≡ false
    → are_once (known ++ e ∷ []) ≡ true
once_more [] e h n = refl
once_more (first ∷ rest) e h n =
    and_from _ _
    (ap not (list_any-append (same_entry first) rest (e ∷ [])
    ∙ or_from _ _ (not-true (has_entry rest first) (left_true _ (are_once rest) h))
    (or_from _ false (entry_back first e ∙ (or_parts (same_entry e first) (has_entry rest e) n).0) refl)))
    (once_more rest e (right_true (not (has_entry rest first)) _ h)
    (or_parts (same_entry e first) (has_entry rest e) n).1)

piece_once : (known : List EntryFacts) (p : Option EntryFacts) → are_once known ≡ true
    → are_once (with_piece known p) ≡ true
piece_once known None h = h
piece_once known (Some e) h =
    elim (is_entry_name e.name && not (has_entry known e)) as (λ v.
    (is_entry_name e.name && not (has_entry known e)) ≡ v
    → are_once (if v then known ++ e ∷ [] else known) ≡ true) [
      | true ↦ λ t. once_more known e h (not-true (has_entry known e) (right_true (is_entry_name e.name) _ t))
      | false ↦ λ t. h
    ] refl

once_of : (folder : List ℕ) (files : List NameFacts) (known : List EntryFacts) → are_once known ≡ true
    → are_once (with_pieces folder known files) ≡ true
once_of folder [] known h = h
once_of folder (file ∷ rest) known h =
    once_of folder rest (with_piece known (piece_under folder file.path))
    (piece_once known (piece_under folder file.path) h)

-- each entry has an entry's name
names_valid : (folder : List ℕ) (files : List NameFacts) (known : List EntryFacts)
    → list_all (λ e. is_entry_name e.name) known ≡ true
    → list_all (λ e. is_entry_name e.name) (with_pieces folder known files) ≡ true
names_valid folder [] known h = h
names_valid folder (file ∷ rest) known h =
    names_valid folder rest (with_piece known (piece_under folder file.path))
    (piece_each (λ e. is_entry_name e.name) known (piece_under folder file.path) h (λ e is valid. valid))

-- the pieces of all files are the folder's listing
pub listing : (folder : List ℕ) (files : List NameFacts)
    → IsFolderListing files folder (with_pieces folder [] files)
listing folder files = record {
  names = names_valid folder files [] refl;
  each = each_of folder files files [] (λ e h. h) refl;
  all = λ e valid there. all_of folder files [] e valid (inr there);
  once = once_of folder files [] refl;
}
