-- A text is its own canonical form exactly where it is a slash and pieces that stay.
use Rattle.std.proofs.Common.{◌≡◌, ℕ, zero, suc, ◌+◌, ◌-◌, ◌||◌, ◌&&◌, Bool, true, false, not, cond, List, [], ◌∷◌, ◌++◌, length, take, fold, All, refl, sym, ◌∙◌, ap, subst, append_assoc, arith, codes}
use Rattle.std.specs.Prelude.{◌==◌, if◌then◌else◌}
use Rattle.std.specs.List.{onto_first, list_all, join_with_byte, count_by}
use Rattle.std.specs.Str.{bytes_eq}
use Rattle.std.proofs.lemmas.Bool.{eqb-true, not-true, and_from}
use Rattle.std.proofs.lemmas.Bool.Decides.{same_from_decides}
use Rattle.std.proofs.lemmas.List.{append-nil}
use Rattle.std.proofs.lemmas.List.Folds.{list_all-append}
use Rattle.std.proofs.lemmas.List.Splits.{join_with_byte-slice_split, length-slice_split, slice_split_none, slice_split_at}
use Rattle.std.proofs.lemmas.List.Sums.{AllPass-from_list_all}
use Rattle.std.proofs.lemmas.Slice.Eq.{bytes_eq-Decides}
use Rattle.row_types.specs.declared.limits.TheConstants.{SEPARATOR}
use Rattle.row_types.specs.Canon.{pieces, keep, joined, path_of_kept, canon, is_canonical, stays, is_plain_tail, has_form}

-- both parts of a test that passed
pub left_true : (a b : Bool) → (a && b) ≡ true → a ≡ true
left_true true b h = refl
left_true false b h = h

pub right_true : (a b : Bool) → (a && b) ≡ true → b ≡ true
right_true true b h = h
right_true false b h = cc

-- the last choice, where none of the tests passed
chosen : {X : Type 0} (e d dd : Bool) (x y z : X) → not (e || d || dd) ≡ true → (if e || d then x else if dd then y else z) ≡ z
chosen true d dd x y z h = cc
chosen false true dd x y z h = cc
chosen false false true x y z h = cc
chosen false false false x y z h = refl

-- a piece that stays is added
keep_stays : (kept : List (List ℕ)) (piece : List ℕ) → stays piece ≡ true → keep kept piece ≡ kept ++ piece ∷ []
keep_stays kept piece h =
    chosen (bytes_eq piece []) (bytes_eq piece (codes ".")) (bytes_eq piece (codes "..")) kept (take (length kept - 1) kept) (kept ++ piece ∷ []) h

-- pieces that stay are all added
fold_stays : (rest kept : List (List ℕ)) → list_all stays rest ≡ true → fold keep kept rest ≡ kept ++ rest
fold_stays [] kept h = sym (append-nil kept)
fold_stays (piece ∷ rest) kept h =
    ap (λ k. fold keep k rest) (keep_stays kept piece (left_true _ (list_all stays rest) h))
    ∙ fold_stays rest (kept ++ piece ∷ []) (right_true (stays piece) _ h)
    ∙ append_assoc kept (piece ∷ []) rest

-- each piece with a slash before it, by the slashes between them
pub joined_pieces : (piece : List ℕ) (rest : List (List ℕ)) → joined (piece ∷ rest) ≡ SEPARATOR ∷ join_with_byte SEPARATOR (piece ∷ rest)
joined_pieces piece [] = append-nil (SEPARATOR ∷ piece)
joined_pieces piece (next ∷ rest) = ap (λ t. (SEPARATOR ∷ piece) ++ t) (joined_pieces next rest)

path_of_pieces : (kept : List (List ℕ)) (rest : List ℕ) (n : ℕ) → join_with_byte SEPARATOR kept ≡ rest → length kept ≡ n + 1 → path_of_kept kept ≡ SEPARATOR ∷ rest
path_of_pieces [] rest n e some = absurd (omega (arith, some))
path_of_pieces (piece ∷ kept) rest n e some = joined_pieces piece kept ∙ ap (λ t. SEPARATOR ∷ t) e

-- a slash and pieces that stay are canonical
canon_of_pieces : (rest : List ℕ) → list_all stays (pieces rest) ≡ true → canon (SEPARATOR ∷ rest) ≡ SEPARATOR ∷ rest
canon_of_pieces rest h =
    ap path_of_kept (fold_stays (pieces rest) [] h)
    ∙ path_of_pieces (pieces rest) rest (count_by (λ b. b == SEPARATOR) rest) (join_with_byte-slice_split SEPARATOR rest) (length-slice_split (λ b. b == SEPARATOR) rest)

canon_of_tail : (tail : List ℕ) → is_plain_tail tail ≡ true → canon (SEPARATOR ∷ tail) ≡ SEPARATOR ∷ tail
canon_of_tail [] h = refl
canon_of_tail (b ∷ rest) h = canon_of_pieces (b ∷ rest) h

pub canon_of_form : (text : List ℕ) → has_form text ≡ true → canon text ≡ text
canon_of_form [] h = cc
canon_of_form (b ∷ tail) h =
    let slash : b ≡ SEPARATOR = eqb-true b SEPARATOR (left_true _ (is_plain_tail tail) h) in
    subst (λ (first : ℕ). canon (first ∷ tail) ≡ first ∷ tail) (sym slash) (canon_of_tail tail (right_true (b == SEPARATOR) _ h))

-- whether a piece has no slash in it
abbrev pub has_no_slash : List ℕ → Bool
has_no_slash piece = list_all (λ b. not (b == SEPARATOR)) piece

-- whether a piece is one that is kept
abbrev is_kept : List ℕ → Bool
is_kept piece = stays piece && has_no_slash piece

-- the pieces of a text have no slash
onto_no_slash : (b : ℕ) (parts : List (List ℕ)) → (b == SEPARATOR) ≡ false → list_all has_no_slash parts ≡ true → list_all has_no_slash (onto_first b parts) ≡ true
onto_no_slash b [] e h = and_from _ true (and_from _ true (ap not e) refl) refl
onto_no_slash b (part ∷ parts) e h =
    and_from _ _ (and_from _ _ (ap not e) (left_true _ (list_all has_no_slash parts) h)) (right_true (has_no_slash part) _ h)

pub pieces_no_slash : (text : List ℕ) → list_all has_no_slash (pieces text) ≡ true
pieces_no_slash [] = refl
pieces_no_slash (b ∷ rest) =
    elim (b == SEPARATOR) as (λ v. (b == SEPARATOR) ≡ v → list_all has_no_slash (cond v ([] ∷ pieces rest) (onto_first b (pieces rest))) ≡ true)
    [ true ↦ λ e. pieces_no_slash rest | false ↦ λ e. onto_no_slash b (pieces rest) e (pieces_no_slash rest) ] refl

-- what each of a list has, each of its front has
list_all_front : (p : List ℕ → Bool) (n : ℕ) (xs : List (List ℕ)) → list_all p xs ≡ true → list_all p (take n xs) ≡ true
list_all_front p zero xs h = refl
list_all_front p (suc n) [] h = refl
list_all_front p (suc n) (x ∷ xs) h = and_from _ _ (left_true _ (list_all p xs) h) (list_all_front p n xs (right_true (p x) _ h))

-- whatever the next piece is, the kept ones are kept ones
chosen_kept : (e d dd : Bool) (kept : List (List ℕ)) (piece : List ℕ) → list_all is_kept kept ≡ true → (not (e || d || dd) ≡ true → is_kept piece ≡ true) → list_all is_kept (if e || d then kept else if dd then take (length kept - 1) kept else kept ++ piece ∷ []) ≡ true
chosen_kept true d dd kept piece h k = h
chosen_kept false true dd kept piece h k = h
chosen_kept false false true kept piece h k = list_all_front is_kept (length kept - 1) kept h
chosen_kept false false false kept piece h k = list_all-append is_kept kept (piece ∷ []) ∙ and_from _ _ h (and_from _ true (k refl) refl)

fold_kept : (rest kept : List (List ℕ)) → list_all has_no_slash rest ≡ true → list_all is_kept kept ≡ true → list_all is_kept (fold keep kept rest) ≡ true
fold_kept [] kept h k = k
fold_kept (piece ∷ rest) kept h k =
    fold_kept rest (keep kept piece) (right_true (has_no_slash piece) _ h)
    (chosen_kept (bytes_eq piece []) (bytes_eq piece (codes ".")) (bytes_eq piece (codes "..")) kept piece k
    (λ s. and_from (stays piece) (has_no_slash piece) s (left_true _ (list_all has_no_slash rest) h)))

-- no byte of such a piece is a slash
pub no_slash : (piece : List ℕ) → has_no_slash piece ≡ true → All (λ b. (b == SEPARATOR) ≡ false) piece
no_slash piece h k d within = not-true _ (AllPass-from_list_all (λ b. not (b == SEPARATOR)) piece h k d within)

-- pieces that were joined are the pieces again
pieces_of_joined : (piece : List ℕ) (rest : List (List ℕ)) → list_all is_kept (piece ∷ rest) ≡ true → pieces (join_with_byte SEPARATOR (piece ∷ rest)) ≡ piece ∷ rest
pieces_of_joined piece [] h = slice_split_none (λ b. b == SEPARATOR) piece (no_slash piece (right_true (stays piece) _ (left_true (is_kept piece) true h)))
pieces_of_joined piece (next ∷ rest) h =
    slice_split_at (λ b. b == SEPARATOR) piece SEPARATOR (join_with_byte SEPARATOR (next ∷ rest))
    (no_slash piece (right_true (stays piece) _ (left_true (is_kept piece) _ h))) refl
    ∙ ap (λ ps. piece ∷ ps) (pieces_of_joined next rest (right_true (is_kept piece) _ h))

-- kept pieces stay
kept_stay : (kept : List (List ℕ)) → list_all is_kept kept ≡ true → list_all stays kept ≡ true
kept_stay [] h = refl
kept_stay (piece ∷ kept) h =
    and_from _ _ (left_true (stays piece) _ (left_true (is_kept piece) _ h)) (kept_stay kept (right_true (is_kept piece) _ h))

-- the tail of a path of pieces
tail_of_pieces : (tail : List ℕ) → list_all stays (pieces tail) ≡ true → is_plain_tail tail ≡ true
tail_of_pieces [] h = refl
tail_of_pieces (b ∷ rest) h = h

-- a path of kept pieces has the form
form_of_kept : (kept : List (List ℕ)) (text : List ℕ) → list_all is_kept kept ≡ true → path_of_kept kept ≡ text → has_form text ≡ true
form_of_kept [] text h e = subst (λ t. has_form t ≡ true) e refl
form_of_kept (piece ∷ rest) text h e =
    let tail : List ℕ = join_with_byte SEPARATOR (piece ∷ rest) in
    let stay : list_all stays (pieces tail) ≡ true = ap (list_all stays) (pieces_of_joined piece rest h) ∙ kept_stay (piece ∷ rest) h in
    subst (λ t. has_form t ≡ true) (sym (joined_pieces piece rest) ∙ e) (tail_of_pieces tail stay)

pub form_of_canon : (text : List ℕ) → canon text ≡ text → has_form text ≡ true
form_of_canon text e = form_of_kept (fold keep [] (pieces text)) text (fold_kept (pieces text) [] (pieces_no_slash text) refl) e

-- the form is that of canonical texts
pub has_form_is_canonical : (text : List ℕ) → has_form text ≡ is_canonical text
has_form_is_canonical text =
    same_from_decides (has_form text) (is_canonical text) (canon_of_form text, form_of_canon text) (bytes_eq-Decides (canon text) text)

-- a canonical form is its own
pub canon_stays : (text : List ℕ) → canon (canon text) ≡ canon text
canon_stays text =
    canon_of_form (canon text)
    (form_of_kept (fold keep [] (pieces text)) (canon text) (fold_kept (pieces text) [] (pieces_no_slash text) refl) refl)
