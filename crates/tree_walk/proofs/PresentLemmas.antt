-- The files that are there under the roots are those that are listed.
use Rattle.path_scope.specs.Scope.{Scope}
use Rattle.std.proofs.Common.{◌≡◌, ℕ, ◌+◌, ◌≤◌, ◌<◌, inl, inr, true, false, not, List, [], ◌∷◌, ◌++◌, length}
use Rattle.std.proofs.Common.{drop, map, Some, None, IsSome, All, Contains, refl, sym, ◌∙◌, ap, subst}
use Rattle.std.proofs.Common.{append_assoc, length-append, arith}
use Rattle.std.specs.Prelude.{◌==◌}
use Rattle.std.specs.List.{list_any, list_all, join_with_byte}
use Rattle.std.specs.Str.{bytes_eq}
use Rattle.std.proofs.lemmas.Bool.{false≢true, not-true, and_parts, or_cases}
use Rattle.std.proofs.lemmas.List.Elements.{All-contains}
use Rattle.std.proofs.lemmas.List.Splits.{join_with_byte-slice_split, length-slice_split}
use Rattle.std.proofs.lemmas.Slice.Eq.{bytes_eq-Decides}
use Rattle.row_types.specs.Canon.{canon, is_canonical, pieces, IsCanonPath}
use Rattle.row_types.specs.Name.{NameFacts}
use Rattle.row_types.specs.declared.limits.TheConstants.{PATH_LIMIT, SEPARATOR}
use Rattle.tree_trait.specs.Dir.{child, makes, is_there}
use Rattle.tree_trait.specs.Entry.{is_entry_name}
use Rattle.tree_trait.specs.Heard.{Heard}
use Rattle.row_types.specs.Under.{front_under, lies_under}
use Rattle.tree_trait.specs.Present.{are_distinct, are_apart, is_folder}
use Rattle.tree_trait.specs.Stat.{TellsStat}
use Rattle.tree_trait.specs.declared.entry.EntryKind.TheVariants as kind
use Rattle.tree_trait.specs.declared.stat.StatAnswer.{StatAnswer}
use Rattle.tree_trait.specs.declared.stat.StatAnswer.TheVariants.{Folder, File, Other, Gone}
use Rattle.tree_trait.proofs.FolderLemmas.{front_of_child, name_long, starts_rest}
use Rattle.tree_walk.specs.Answers.{is_look_answer, first_look, first_reading}
use Rattle.tree_walk.specs.Ends.{IsWholeWalk}
use Rattle.row_types.specs.Under.{is_within}
use Rattle.tree_trait.specs.Asks.{IsAnswerTold}
use Rattle.tree_trait.specs.Found.{Versions}
use Rattle.tree_trait.specs.Shown.{ShownTree, IsPresence}
use Rattle.tree_walk.specs.Files.{IsFileUnder, AreFilesUnder}
use Rattle.tree_walk.specs.Walked.{IsNamed, IsReached, root, entry, IsEntry, IsFolder, IsCandidate, IsWalked}
use Rattle.tree_walk.specs.Walked.{AsksAll}
use Rattle.tree_walk.specs.declared.walked.Walk.{Walk}
use Rattle.tree_walk.proofs.PathLemmas.{under_from_front, names_after}
use Rattle.tree_walk.proofs.ReachLemmas.{look_was_due}
use Rattle.tree_walk.proofs.ElementLemmas.{any_from_Contains, all_at, any_root, path_there, file_found}
use Rattle.tree_walk.proofs.ElementLemmas.{file_stamp}
use Rattle.tree_walk.proofs.ToldLemmas.{candidate_within, look_finds, named_told, told_look}

-- from a folder down to a file, name by name
joined_some : (name : List ℕ) (more : List (List ℕ)) → is_entry_name name ≡ true
    → 1 ≤ length (join_with_byte SEPARATOR (name ∷ more))
joined_some name [] h = name_long name h
joined_some name (next ∷ more) h =
    let whole : length (name ++ (SEPARATOR ∷ join_with_byte SEPARATOR (next ∷ more))) ≡ length name + length
    (SEPARATOR ∷ join_with_byte SEPARATOR (next ∷ more)) =
    length-append name (SEPARATOR ∷ join_with_byte SEPARATOR (next ∷ more)) in
    omega (arith, whole, name_long name h)

down : (present : List NameFacts) {answers : List Heard} {scope : Scope} (file : NameFacts)
    → All (IsAnswerTold present) answers → AsksAll answers scope → Contains present file
    → length file.path ≤ PATH_LIMIT
    → (folder name : List ℕ) (more : List (List ℕ)) → list_all is_entry_name (name ∷ more) ≡ true
    → file.path ≡ front_under folder ++ join_with_byte SEPARATOR (name ∷ more)
    → IsReached answers scope folder → IsSome (first_reading answers folder)
    → IsEntry answers scope kind.File file.path
down present {answers} file told full there short folder name [] valid e reached read =
    let named : is_entry_name name ≡ true = (and_parts (is_entry_name name) true valid).0 in
    let under : lies_under folder file.path ≡ true = under_from_front folder name e (name_long name named) in
    let some : is_folder present folder ≡ true =
    any_from_Contains (λ n. lies_under folder n.path) present file there under in
    let stands : is_there present folder (record { name = name; kind = kind.File }) ≡ true =
    any_from_Contains (λ n. makes kind.File (child folder name) n.path) present file there
    ((bytes_eq-Decides file.path (child folder name)).1 e) in
    record {
      folder = folder;
      reached = reached;
      named = record {
        name = name;
        listed = named_told present answers folder
            (record { name = name; kind = kind.File }) told read some named stands;
        joined = e;
      };
    }
down present {answers} file told full there short folder name (next ∷ more) valid e reached read =
    let parts = and_parts (is_entry_name name) (list_all is_entry_name (next ∷ more)) valid in
    let rest : List ℕ = join_with_byte SEPARATOR (next ∷ more) in
    let front : front_under (child folder name) ≡ child folder name ++ SEPARATOR ∷ [] =
    front_of_child folder name parts.0 in
    let below : file.path ≡ front_under (child folder name) ++ rest =
    e ∙ sym (append_assoc (front_under folder) name (SEPARATOR ∷ rest))
    ∙ sym (append_assoc (child folder name) (SEPARATOR ∷ []) rest)
    ∙ ap (λ (f : List ℕ). f ++ rest) (sym front) in
    let next_valid : is_entry_name next ≡ true =
    (and_parts (is_entry_name next) (list_all is_entry_name more) parts.1).0 in
    let under : lies_under (child folder name) file.path ≡ true =
    under_from_front (child folder name) rest below (joined_some next more next_valid) in
    let above : lies_under folder file.path ≡ true =
    under_from_front folder (join_with_byte SEPARATOR (name ∷ next ∷ more)) e
    (joined_some name (next ∷ more) parts.0) in
    let some : is_folder present folder ≡ true =
    any_from_Contains (λ n. lies_under folder n.path) present file there above in
    let stands : is_there present folder (record { name = name; kind = kind.Folder }) ≡ true =
    any_from_Contains (λ n. makes kind.Folder (child folder name) n.path) present file there under in
    let named : IsNamed answers folder kind.Folder (child folder name) =
    record {
      name = name;
      listed = named_told present answers folder
          (record { name = name; kind = kind.Folder }) told read some parts.0 stands;
      joined = refl;
    } in
    let whole : length file.path ≡ length (front_under (child folder name) ++ rest) = ap length below in
    let split : length (front_under (child folder name) ++ rest) ≡ length
    (front_under (child folder name)) + length rest =
    length-append (front_under (child folder name)) rest in
    let front_long : length (front_under (child folder name)) ≡ length (child folder name ++ SEPARATOR ∷ []) =
    ap length front in
    let front_parts : length (child folder name ++ SEPARATOR ∷ []) ≡ length (child folder name) + 1 =
    length-append (child folder name) (SEPARATOR ∷ []) in
    let child_short : length (child folder name) ≤ PATH_LIMIT =
    omega (arith, whole, split, front_long, front_parts, short) in
    down present file told full there short (child folder name) next more parts.1 below
    (entry folder (child folder name) kind.Folder reached named)
    (full.folders (child folder name)
    (inr (record { folder = folder; reached = reached; named = named })) child_short)

-- the pieces of what follows a folder
by_pieces : (folder : List ℕ) {path : List ℕ} (rest : List ℕ) (P : Type 0)
    → path ≡ front_under folder ++ rest → list_all is_entry_name (pieces rest) ≡ true
    → ((name : List ℕ) (more : List (List ℕ)) → list_all is_entry_name (name ∷ more) ≡ true
    → path ≡ front_under folder ++ join_with_byte SEPARATOR (name ∷ more) → P)
    → P
by_pieces folder rest P e valid f =
    elim (pieces rest) as (λ ps. pieces rest ≡ ps → list_all is_entry_name ps ≡ true → P) [
      | [] ↦ λ h v. absurd (let all : length (pieces rest) ≡ _ = length-slice_split
          (λ b. b == SEPARATOR) rest in let none : length (pieces rest) ≡ 0 = ap length h in
          omega (arith, all, none))
      | name ∷ more ↦ λ h v. f name more v
          (e ∙ ap (λ (t : List ℕ). front_under folder ++ t)
          (sym (join_with_byte-slice_split SEPARATOR rest) ∙ ap (join_with_byte SEPARATOR) h))
    ] refl valid

-- a root above a file is a folder
root_is_folder : (present : List NameFacts) (path : List ℕ) (file : NameFacts) (answer : StatAnswer)
    → are_apart (map (λ n. n.path) present) ≡ true → Contains present file → lies_under path file.path ≡ true
    → TellsStat present path answer → is_look_answer answer ≡ true → answer ≡ Folder
root_is_folder present path file Folder apart there under t ok = refl
root_is_folder present path file (File stamp) apart there under t ok =
    let paths : List (List ℕ) = map (λ (n : NameFacts). n.path) present in
    let here : Contains paths path =
    path_there present (record { path = path; stamp = stamp }) (file_found present path t) in
    let none : list_any (lies_under path) paths ≡ false =
    not-true _ (all_at (λ folder. not (list_any (lies_under folder) paths)) paths path apart here) in
    absurd (false≢true (sym none
    ∙ any_from_Contains (lies_under path) paths file.path (path_there present file there) under))
root_is_folder present path file Other apart there under t ok = absurd t
root_is_folder present path file Gone apart there under t ok =
    absurd (false≢true (sym t.no_folder
    ∙ any_from_Contains (λ n. lies_under path n.path) present file there under))
root_is_folder present path file _ apart there under t ok = absurd (false≢true ok)

-- each file under a root is reached
candidate_from_under : (present : List NameFacts) {answers : List Heard} {scope : Scope} {walk : Walk}
    (file : NameFacts) → IsWholeWalk answers scope walk → All (IsAnswerTold present) answers
    → are_apart (map (λ n. n.path) present) ≡ true → Contains present file → IsCanonPath file.path
    → scope.takes file.path ≡ true → (r : List ℕ) → Contains scope.roots r → is_within r file.path ≡ true → IsCandidate answers scope file.path
candidate_from_under present {answers} {scope} file w told apart there kept taken r at within =
    elim (or_cases (bytes_eq file.path r) (lies_under r file.path) within) [
      | inl one ↦ inl (subst (Contains scope.roots) (sym ((bytes_eq-Decides file.path r).0 one)) at)
      | inr under ↦ elim (first_look answers r) as (λ o. first_look answers r ≡ o → IsSome o
          → IsCandidate answers scope file.path) [
            | None ↦ λ e h. absurd (false≢true h)
            | Some answer ↦ λ e h.
                let says = told_look present answers told r e in
                let folder : answer ≡ Folder =
                root_is_folder present r file answer apart there under says.0 says.1 in
                let root_kept : IsCanonPath r = (look_was_due answers scope w.once.due r e).1 in
                let is_folder_r : IsFolder answers scope r =
                inl (record { root = at; folder = e ∙ ap (λ (a : StatAnswer). Some a) folder }) in
                let rest : List ℕ = drop (length (front_under r)) file.path in
                let below : file.path ≡ front_under r ++ rest =
                starts_rest (front_under r) file.path (and_parts _ _ under).0 in
                inr (record {
                  taken = taken;
                  at = by_pieces r rest (IsEntry answers scope kind.File file.path) below
                      (names_after r rest root_kept.canonical kept.canonical below (not-true _ (and_parts _ _ under).1))
                      (λ name more valid split. down present file told w.full there kept.short r name more valid split
                      (root r at) (w.full.folders r is_folder_r root_kept.short));
                })
          ] refl (w.full.looked r at)
    ]

-- what is listed is a file under a root
pub walked_under : (present : List NameFacts) {answers : List Heard} {scope : Scope}
    → All (IsAnswerTold present) answers → {name : NameFacts} → IsWalked answers scope name
    → IsFileUnder present scope name
walked_under present {answers} {scope} told {name} walked = record {
  there = file_found present name.path (told_look present answers told name.path walked.file).0;
  under = candidate_within answers scope name.path walked.candidate;
  taken = walked.taken;
  short = walked.short;
}

-- the listing is the files under the roots
pub files_are : {version : Versions} {tree : ShownTree} {answers : List Heard} {scope : Scope}
    {walk : Walk} → IsWholeWalk answers scope walk → All (IsAnswerTold tree.present) answers
    → tree.Still → (0 < length scope.roots → IsPresence version tree)
    → AreFilesUnder tree.present scope walk.listing
files_are {tree} {answers} {scope} w told still known = record {
  by_path = w.listing.by_path;
  all = λ name. (
    λ c. walked_under tree.present told ((w.listing.all name).0 c),
    λ u. (w.listing.all name).1
        (under_is_walked u),
  );
}
  where
    looked_as_file : (name : NameFacts) → are_distinct (map (λ n. n.path) tree.present) ≡ true
        → Contains tree.present name → IsSome (first_look answers name.path)
        → first_look answers name.path ≡ Some (File name.stamp)
    looked_as_file name distinct there some =
        elim (first_look answers name.path) as (λ o. first_look answers name.path ≡ o → IsSome o
        → o ≡ Some (File name.stamp)) [
          | None ↦ λ e h. absurd (false≢true h)
          | Some answer ↦ λ e h. let says = told_look tree.present answers told name.path e in
              ap (λ (a : StatAnswer). Some a)
              (look_finds tree.present name.path answer
              (file_stamp tree.present name distinct there) says.0 says.1)
        ] refl some

    looked_is : (name : NameFacts) → IsCandidate answers scope name.path → length name.path ≤ PATH_LIMIT
        → IsSome (first_look answers name.path)
    looked_is name (inl r) short = w.full.looked name.path r
    looked_is name (inr e) short = w.full.files name.path e short

    under_is_walked : {name : NameFacts} → IsFileUnder tree.present scope name → IsWalked answers scope name
    under_is_walked {name} u =
        let at = any_root (λ r. is_within r name.path) scope.roots u.under in
        let some : 0 < length scope.roots = let lt = at.1.1 in omega arith in
        let facts = known some in
        let kept : IsCanonPath name.path = record {
          canonical = (bytes_eq-Decides (canon name.path) name.path).0
              (All-contains (λ (n : NameFacts). is_canonical n.path ≡ true) tree.present name
              facts.canonical u.there);
          short = u.short;
        } in
        let candidate : IsCandidate answers scope name.path =
        candidate_from_under tree.present name w told (facts.apart still) u.there kept u.taken at.0 at.1 at.2 in
        record {
          candidate = candidate;
          taken = u.taken;
          short = u.short;
          file = looked_as_file name facts.distinct u.there (looked_is name candidate u.short);
        }
