-- Paths under a folder, and the entries that they give.
use Rattle.std.proofs.Common.{◌≡◌, ◌≢◌, ℕ, ◌+◌, ◌≤◌, ◌<◌, ◌||◌, Bool, true, false, not, cond, List, [], ◌∷◌}
use Rattle.std.proofs.Common.{◌++◌, length, take, drop, map, Option, Some, None, option_map, is_some}
use Rattle.std.proofs.Common.{MatchOption, Bor, nat_eq, refl, sym, ◌∙◌, ap, subst, append_assoc}
use Rattle.std.proofs.Common.{length-append, arith}
use Rattle.std.specs.Prelude.{◌==◌, nat_lt, if◌then◌else◌}
use Rattle.std.specs.List.{list_any, starts_with, position_or_len, prefix_len, before_first, after_first}
use Rattle.std.specs.Str.{bytes_eq}
use Rattle.std.proofs.Math.Seq.{drop-append_seam, take-append_seam}
use Rattle.std.proofs.lemmas.Bool.{eqb-true, lt-ltb, ltb-true, false_from_ne_true, and_from}
use Rattle.std.proofs.lemmas.Bool.Decides.{Decides-eqb}
use Rattle.std.proofs.lemmas.List.{append_cancel_left}
use Rattle.std.proofs.lemmas.List.Sums.{split_at_first, passes_at_first}
use Rattle.std.proofs.lemmas.Slice.Eq.{bytes_eq-Decides, starts_is}
use Rattle.row_types.specs.Canon.{stays}
use Rattle.row_types.specs.declared.limits.TheConstants.{SEPARATOR}
use Rattle.row_types.proofs.CanonLemmas.{left_true, right_true}
use Rattle.tree_trait.specs.Dir.{child, makes}
use Rattle.tree_trait.specs.Entry.{EntryFacts, has_no_slash, is_entry_name}
use Rattle.tree_trait.specs.Folder.{IsRest, first_piece, piece_under}
use Rattle.tree_trait.specs.Found.{FoundFacts, found_name}
use Rattle.row_types.specs.Under.{front_under, lies_under}
use Rattle.tree_trait.specs.Present.{is_folder}
use Rattle.tree_trait.specs.declared.entry.EntryKind.{EntryKind}
use Rattle.tree_trait.specs.declared.entry.EntryKind.TheVariants.{Folder, File, Other}

-- what follows a folder's path and a slash
pub rest_of : (parent folder : List ℕ) {path : List ℕ} (inner : List ℕ) (r : Option (Bor (List ℕ)))
    → parent ++ SEPARATOR ∷ [] ≡ front_under folder → path ≡ parent ++ inner
    → MatchOption r ((rest : List ℕ) → inner ≢ SEPARATOR ∷ rest) (λ x. inner ≡ SEPARATOR ∷ x.now)
    → IsRest (front_under folder) path r
rest_of parent folder inner None front split h =
    λ rest e. h rest (append_cancel_left parent inner (SEPARATOR ∷ rest)
    (sym split ∙ e ∙ ap (λ f. f ++ rest) (sym front) ∙ append_assoc parent (SEPARATOR ∷ []) rest))
rest_of parent folder inner (Some x) front split h =
    split ∙ ap (λ t. parent ++ t) h ∙ sym (append_assoc parent (SEPARATOR ∷ []) x.now)
    ∙ ap (λ f. f ++ x.now) front

-- whether a path begins with the front
pub starts_at : (front : List ℕ) {path : List ℕ} (rest : List ℕ) → path ≡ front ++ rest
    → starts_with nat_eq path front ≡ true
starts_at front {path} rest e = (starts_is Decides-eqb path front (starts_with nat_eq path front) refl).1 rest e

pub starts_rest : (front path : List ℕ) → starts_with nat_eq path front ≡ true
    → path ≡ front ++ drop (length front) path
starts_rest front path h = (starts_is Decides-eqb path front (starts_with nat_eq path front) refl).0 h

pub is_some_starts : (front path : List ℕ) (r : Option (Bor (List ℕ))) → IsRest front path r
    → is_some r ≡ starts_with nat_eq path front
is_some_starts front path None h =
    sym (false_from_ne_true (starts_with nat_eq path front)
    (λ t. h (drop (length front) path) (starts_rest front path t)))
is_some_starts front path (Some x) h = sym (starts_at front x.now h)

-- the piece behind a folder
piece_at : (folder : List ℕ) {path : List ℕ} (rest : List ℕ) → path ≡ front_under folder ++ rest
    → piece_under folder path ≡ Some (first_piece rest)
piece_at folder {path} rest e =
    let front : List ℕ = front_under folder in
    subst (λ b. (if b then Some (first_piece (drop (length front) path)) else None) ≡ Some (first_piece rest))
    (sym (starts_at front rest e))
    (ap (λ t. Some (first_piece t)) (ap (drop (length front)) e ∙ drop-append_seam front rest))

pub piece_of_rest : (folder path : List ℕ) (r : Option (Bor (List ℕ))) → IsRest (front_under folder) path r
    → option_map (λ x. first_piece x.now) r ≡ piece_under folder path
piece_of_rest folder path None h =
    let front : List ℕ = front_under folder in
    let none : starts_with nat_eq path front ≡ false =
    false_from_ne_true (starts_with nat_eq path front)
    (λ t. h (drop (length front) path) (starts_rest front path t)) in
    subst (λ b. None ≡ (if b then Some (first_piece (drop (length front) path)) else None)) (sym none) refl
piece_of_rest folder path (Some x) h = sym (piece_at folder x.now h)

-- a search among names is one among their files
pub any_names : (path : List ℕ) (files : List FoundFacts)
    → is_folder (map found_name files) path ≡ list_any (λ file. lies_under path file.path) files
any_names path [] = refl
any_names path (file ∷ rest) = ap (λ b. lies_under path file.path || b) (any_names path rest)

-- where the first slash is
abbrev slash : ℕ → Bool
slash b = b == SEPARATOR

position_end : (text : List ℕ) → has_no_slash text ≡ true → position_or_len slash text ≡ length text
position_end [] h = refl
position_end (b ∷ rest) h =
    let more = position_end rest (right_true (not (slash b)) (has_no_slash rest) h) in
    subst (λ v. cond v (1 + prefix_len (λ c. not (slash c)) rest) 0 ≡ length (b ∷ rest))
    (sym (left_true (not (slash b)) (has_no_slash rest) h)) (omega (arith, more))

position_in : (text more : List ℕ) → has_no_slash text ≡ true
    → position_or_len slash (text ++ SEPARATOR ∷ more) ≡ length text
position_in [] more h = refl
position_in (b ∷ rest) more h =
    let deeper = position_in rest more (right_true (not (slash b)) (has_no_slash rest) h) in
    subst (λ v. cond v (1 + prefix_len (λ c. not (slash c)) (rest ++ SEPARATOR ∷ more)) 0 ≡ length (b ∷ rest))
    (sym (left_true (not (slash b)) (has_no_slash rest) h)) (omega (arith, deeper))

-- a text without a slash is a file's name
first_file : (name : List ℕ) → has_no_slash name ≡ true
    → first_piece name ≡ record { name = name; kind = File }
first_file name h =
    let end = position_end name h in
    let past : nat_lt (position_or_len slash name) (length name) ≡ false =
    false_from_ne_true _ (λ t. let lt = ltb-true _ _ t in omega (arith, end, lt)) in
    ap (λ b. if b then record { name = before_first slash name; kind = Folder } else record {
      name = name;
      kind = File;
    }) past

-- a text before a slash is a folder's name
first_dir : (name more : List ℕ) → has_no_slash name ≡ true
    → first_piece (name ++ SEPARATOR ∷ more) ≡ record { name = name; kind = Folder }
first_dir name more h =
    let whole : List ℕ = name ++ SEPARATOR ∷ more in
    let place : position_or_len slash whole ≡ length name = position_in name more h in
    let within : nat_lt (position_or_len slash whole) (length whole) ≡ true =
    lt-ltb _ _ (omega (arith, place, length-append name (SEPARATOR ∷ more))) in
    ap (λ b. if b then record { name = before_first slash whole; kind = Folder } else record {
      name = whole;
      kind = File;
    }) within
    ∙ ap (λ n. record { name = take n whole; kind = Folder }) place
    ∙ ap (λ t. record { name = t; kind = Folder }) (take-append_seam name (SEPARATOR ∷ more))

-- what the paths under a folder begin with is longer than nothing, and so is an entry's name
front_long : (folder : List ℕ) → 1 ≤ length (front_under folder)
front_long folder =
    elim (bytes_eq folder (SEPARATOR ∷ [])) as (λ v. bytes_eq folder (SEPARATOR ∷ []) ≡ v
    → 1 ≤ length (if v then folder else folder ++ SEPARATOR ∷ [])) [
      | true ↦ λ t. let root = ap length ((bytes_eq-Decides folder (SEPARATOR ∷ [])).0 t) in omega (arith, root)
      | false ↦ λ t. omega (arith, length-append folder (SEPARATOR ∷ []))
    ] refl

pub name_long : (name : List ℕ) → is_entry_name name ≡ true → 1 ≤ length name
name_long [] h = cc
name_long (b ∷ rest) h = omega arith

-- what paths under a folder that isn't the root begin with
pub front_of_longer : (path : List ℕ) → 1 < length path → front_under path ≡ path ++ SEPARATOR ∷ []
front_of_longer path long =
    let other : bytes_eq path (SEPARATOR ∷ []) ≡ false =
    false_from_ne_true (bytes_eq path (SEPARATOR ∷ []))
    (λ t. let one = ap length ((bytes_eq-Decides path (SEPARATOR ∷ [])).0 t) in
    absurd (omega (arith, one, long))) in
    ap (λ (b : Bool). if b then path else path ++ SEPARATOR ∷ []) other

-- an entry is never the root, so its front has one more slash
pub front_of_child : (folder name : List ℕ) → is_entry_name name ≡ true
    → front_under (child folder name) ≡ child folder name ++ SEPARATOR ∷ []
front_of_child folder name h =
    front_of_longer (child folder name)
    (let long = name_long name h in let front = front_long folder in
    omega (arith, length-append (front_under folder) name, front, long))

-- a file's piece is an entry that the file makes
made_by_piece : (folder : List ℕ) {path : List ℕ} (rest : List ℕ) {e : EntryFacts}
    → path ≡ front_under folder ++ rest → first_piece rest ≡ e → is_entry_name e.name ≡ true
    → makes e.kind (child folder e.name) path ≡ true
made_by_piece folder {path} rest {e} split piece valid =
    subst (λ f. is_entry_name f.name ≡ true → makes f.kind (child folder f.name) path ≡ true) piece
    (elim (nat_lt (position_or_len slash rest) (length rest)) as
    (λ v. nat_lt (position_or_len slash rest) (length rest) ≡ v →
    (let f : EntryFacts = if v then record {
      name = before_first slash rest;
      kind = Folder;
    } else record { name = rest; kind = File } in
    is_entry_name f.name ≡ true → makes f.kind (child folder f.name) path ≡ true)) [
      | true ↦ λ t named. folder_made folder (before_first slash rest)
          (after_first slash rest) named (split ∙ ap (λ r. front_under folder ++ r) (cut rest (ltb-true _ _ t)))
      | false ↦ λ t named. (bytes_eq-Decides path (child folder rest)).1 split
    ] refl)
    valid
  where
    cut : (text : List ℕ) → position_or_len slash text < length text
        → text ≡ before_first slash text ++ SEPARATOR ∷ after_first slash text
    cut text lt =
        split_at_first slash text 0 lt
        ∙ ap (λ b. before_first slash text ++ b ∷ after_first slash text)
        (eqb-true _ SEPARATOR (passes_at_first slash text 0 lt))

    folder_made : (folder : List ℕ) {path : List ℕ} (name more : List ℕ) → is_entry_name name ≡ true
        → path ≡ front_under folder ++ (name ++ SEPARATOR ∷ more) → lies_under (child folder name) path ≡ true
    folder_made folder {path} name more named e =
        let whole : path ≡ (child folder name ++ SEPARATOR ∷ []) ++ more =
        e ∙ sym (append_assoc (front_under folder) name (SEPARATOR ∷ more))
        ∙ sym (append_assoc (child folder name) (SEPARATOR ∷ []) more) in
        let below : path ≡ front_under (child folder name) ++ more =
        whole ∙ ap (λ f. f ++ more) (sym (front_of_child folder name named)) in
        let longer = ap length whole in
        let one = length-append (child folder name ++ SEPARATOR ∷ []) more in
        let two = length-append (child folder name) (SEPARATOR ∷ []) in
        and_from _ _ (starts_at _ more below)
        (ap not (false_from_ne_true (bytes_eq path (child folder name))
        (λ t. let same = ap length ((bytes_eq-Decides path (child folder name)).0 t) in
        absurd (omega (arith, same, longer, one, two)))))

pub piece_makes : (folder path : List ℕ) {e : EntryFacts} → piece_under folder path ≡ Some e
    → is_entry_name e.name ≡ true → makes e.kind (child folder e.name) path ≡ true
piece_makes folder path {e} piece valid =
    elim (starts_with nat_eq path (front_under folder)) as
    (λ v. starts_with nat_eq path (front_under folder) ≡ v
    → (if v then Some (first_piece (drop (length (front_under folder)) path)) else None) ≡ Some e
    → makes e.kind (child folder e.name) path ≡ true) [
      | true ↦ λ t p. made_by_piece folder (drop (length (front_under folder)) path)
          (starts_rest (front_under folder) path t) (same_some p) valid
      | false ↦ λ t p. cc
    ] refl piece
  where
    same_some : {a b : EntryFacts} → Some a ≡ Some b → a ≡ b
    same_some e = cc

-- an entry that a file makes is the file's piece
pub made_is_piece : (folder path : List ℕ) (name : List ℕ) (kind : EntryKind) → is_entry_name name ≡ true
    → makes kind (child folder name) path ≡ true
    → piece_under folder path ≡ Some (record { name = name; kind = kind })
made_is_piece folder path name File valid h =
    piece_at folder name ((bytes_eq-Decides path (child folder name)).0 h)
    ∙ ap (λ p. Some p) (first_file name (right_true (stays name) (has_no_slash name) valid))
made_is_piece folder path name Folder valid h =
    let front : List ℕ = front_under (child folder name) in
    let more : List ℕ = drop (length front) path in
    let below = starts_rest front path (left_true _ (not (bytes_eq path (child folder name))) h) in
    let split : path ≡ front_under folder ++ (name ++ SEPARATOR ∷ more) =
    below ∙ ap (λ f. f ++ more) (front_of_child folder name valid)
    ∙ append_assoc (child folder name) (SEPARATOR ∷ []) more
    ∙ append_assoc (front_under folder) name (SEPARATOR ∷ more) in
    piece_at folder (name ++ SEPARATOR ∷ more) split
    ∙ ap (λ p. Some p) (first_dir name more (right_true (stays name) (has_no_slash name) valid))
made_is_piece folder path name Other valid h = cc
