-- What holds of a tree of generated files.
use Rattle.std.proofs.Common.{◌≡◌, ℕ, zero, suc, ◌<◌, ◌≤◌, Bool, true, false, not, List, [], ◌∷◌, ◌++◌, map}
use Rattle.std.proofs.Common.{Option, Some, None, is_some, option_map, Result, Ok, Err, IfOk, refl, sym, ◌∙◌, ap, subst, arith, inl}
use Rattle.std.specs.Bool.{OnTrue}
use Rattle.std.specs.Prelude.{◌==◌, IsOkAnd, IsSome, IsTrue, nat_lt, codes, if◌then◌else◌, slice_index_or}
use Rattle.std.specs.List.{list_all, list_any}
use Rattle.std.specs.Str.{bytes_eq}
use Rattle.std.proofs.lemmas.Bool.{and_from, and_parts, false_from_ne_true, false≢true, ltb-false, ltb-true, not-true, not_from_false, or_from, or_parts}
use Rattle.std.proofs.lemmas.List.{map-append}
use Rattle.std.proofs.lemmas.List.Elements.{All-map}
use Rattle.std.proofs.lemmas.List.Folds.{list_any-append}
use Rattle.std.proofs.lemmas.List.Splits.{slice_split_none}
use Rattle.std.proofs.lemmas.List.Sums.{AllPass-from_list_all}
use Rattle.std.proofs.lemmas.Slice.Eq.{bytes_eq-Decides}
use Rattle.row_types.specs.Canon.{has_form, is_canonical, pieces, stays}
use Rattle.row_types.specs.Name.{NameFacts, stamp_at}
use Rattle.row_types.specs.Under.{lies_under}
use Rattle.row_types.proofs.CanonLemmas.{has_form_is_canonical}
use Rattle.tree_trait.specs.Asks.{AsksTree, FitsAny, IsAnswerTold, ReadsOpened}
use Rattle.tree_trait.specs.Dir.{IsFolderListing, TellsDir}
use Rattle.tree_trait.specs.Found.{Versions, found_facts}
use Rattle.tree_trait.specs.Heard.{Heard, load, stat, read_dir, open_file, read_at, call_failed, wants_memory, with_answers}
use Rattle.tree_trait.specs.Dir.{dir_no_memory}
use Rattle.tree_trait.specs.Load.{FitsLoad, TellsLoad, loaded, no_memory, too_large}
use Rattle.tree_trait.specs.Open.{FitsOpening, TellsOpening, open_no_memory, was_opened, was_too_large}
use Rattle.tree_trait.specs.declared.stat.StatAnswer.TheVariants as found
use Rattle.tree_trait.specs.Present.{IsKnownName, are_distinct, is_folder}
use Rattle.tree_trait.specs.Shown.{HandsOn, IsPresence}
use Rattle.tree_trait.specs.Stat.{TellsStat}
use Rattle.tree_trait.proofs.EntryLemmas.{bytes_back}
use Rattle.tree_trait.proofs.ListingLemmas.{listing}
use Rattle.elf_forge.specs.Forge.{forged, six_digits}
use Rattle.elf_forge.specs.Place.{forged_path, folder_among, folder_at, forged_name, forged_names, forged_number_at, numbers_below, forged_stamp}
use Rattle.elf_forge.specs.Tree.{ForgeFacts, IsForgedAnswer, ReadsForged, RunsForged, dir_answer, dir_answered, heard_question, load_answer, load_answered, forge_shows, open_answer, open_answered, stat_answer, stat_answered}
use Rattle.elf_forge.specs.declared.question.Question.{Question}
use Rattle.elf_forge.specs.declared.folder.Folder.{Folder}
use Rattle.elf_forge.proofs.DigitLemmas.{digits_plain, digits_stay, same_path}
use Rattle.elf_forge.proofs.FolderLemmas.{Pieces, folder_there, lies_in, pieces_there, some_files}
use Rattle.elf_forge.proofs.NumberLemmas.{stamp_there}

-- the world of real files: each content is one of each name
abbrev pub any : Versions
any = λ _ _ _. Unit {0}

-- ---- the names

-- a file's path is canonical
path_form : (k : ℕ) → has_form (forged_path k) ≡ true
path_form k =
    let parts : pieces (six_digits k) ≡ six_digits k ∷ [] =
    slice_split_none (λ b. b == 47) (six_digits k)
    (λ i d within. not-true (slice_index_or (six_digits k) i d == 47)
    (AllPass-from_list_all (λ b. not (b == 47)) (six_digits k) (digits_plain k) i d within)) in
    subst (λ ps. list_all stays (codes "t" ∷ codes "f" ∷ ps) ≡ true) (sym parts)
    (and_from (stays (six_digits k)) true (digits_stay k) refl)

canonical_path : (k : ℕ) → IsTrue (is_canonical (forged_path k))
canonical_path k = sym (has_form_is_canonical (forged_path k)) ∙ path_form k

-- the paths of files
abbrev paths : ℕ → List ℕ → List (List ℕ)
paths seed ks = map (λ (name : NameFacts). name.path) (map (forged_name seed) ks)

distinct_more : (known : List (List ℕ)) (path : List ℕ) → are_distinct known ≡ true
    → list_any (λ p. bytes_eq p path) known ≡ false → are_distinct (known ++ path ∷ []) ≡ true
distinct_more [] path h new = refl
distinct_more (first ∷ rest) path h new =
    let parts = and_parts (not (list_any (λ p. bytes_eq p first) rest)) (are_distinct rest) h in
    let others = or_parts (bytes_eq first path) (list_any (λ p. bytes_eq p path) rest) new in
    and_from _ _
    (ap not (list_any-append (λ p. bytes_eq p first) rest (path ∷ [])
    ∙ or_from _ _ (not-true _ parts.0) (or_from (bytes_eq path first) false (bytes_back path first ∙ others.0) refl)))
    (distinct_more rest path parts.1 others.1)

paths_more : (seed n : ℕ) → paths seed (numbers_below (suc n)) ≡ paths seed (numbers_below n) ++ forged_path n ∷ []
paths_more seed n =
    ap (map (λ (name : NameFacts). name.path)) (map-append (forged_name seed) (numbers_below n) (n ∷ []))
    ∙ map-append (λ (name : NameFacts). name.path) (map (forged_name seed) (numbers_below n)) (forged_name seed n ∷ [])

new_path : (seed n m : ℕ) → m ≤ n → n < 1000000
    → list_any (λ p. bytes_eq p (forged_path n)) (paths seed (numbers_below m)) ≡ false
new_path seed n zero within few = refl
new_path seed n (suc m) within few =
    ap (list_any (λ p. bytes_eq p (forged_path n))) (paths_more seed m)
    ∙ list_any-append (λ p. bytes_eq p (forged_path n)) (paths seed (numbers_below m)) (forged_path m ∷ [])
    ∙ or_from _ _ (new_path seed n m (omega (arith, within)) few) (or_from _ false (false_from_ne_true _ differs) refl)
  where
    differs : bytes_eq (forged_path m) (forged_path n) ≡ true → ⊥
    differs t =
        let e : m ≡ n = same_path m n (omega (arith, within, few)) few ((bytes_eq-Decides (forged_path m) (forged_path n)).0 t) in
        omega (arith, e, within)

distinct_paths : (seed n : ℕ) → n ≤ 1000000 → are_distinct (paths seed (numbers_below n)) ≡ true
distinct_paths seed zero few = refl
distinct_paths seed (suc n) few =
    ap are_distinct (paths_more seed n)
    ∙ distinct_more (paths seed (numbers_below n)) (forged_path n) (distinct_paths seed n (omega (arith, few)))
    (new_path seed n n (omega arith) (omega (arith, few)))

-- nothing lies under a file
none_under : (seed j : ℕ) (ks : List ℕ) → list_any (lies_under (forged_path j)) (paths seed ks) ≡ false
none_under seed j [] = refl
none_under seed j (k ∷ ks) = or_from _ _ (lies_in (forged_path j) k) (none_under seed j ks)

apart_paths : (seed : ℕ) (all ks : List ℕ)
    → list_all (λ folder. not (list_any (lies_under folder) (paths seed all))) (paths seed ks) ≡ true
apart_paths seed all [] = refl
apart_paths seed all (k ∷ ks) = and_from _ _ (not_from_false _ (none_under seed k all)) (apart_paths seed all ks)

-- what is known of the names
presence : (tree : ForgeFacts) → tree.files ≤ 1000000 → IsPresence any (forge_shows tree)
presence tree few =
    let ks : List ℕ = numbers_below tree.files in
    record {
      known = All-map (IsKnownName any) (forged_name tree.seed) ks (λ i d within. inl ([], tt));
      canonical = All-map (λ (name : NameFacts). IsTrue (is_canonical name.path)) (forged_name tree.seed) ks
          (λ i d within. canonical_path (slice_index_or ks i d));
      distinct = distinct_paths tree.seed tree.files few;
      apart = λ _. apart_paths tree.seed ks ks;
    }

-- ---- the answers

fits_load : (seed : ℕ) (path : List ℕ) (limit : ℕ) (place : Option ℕ) → FitsLoad any path limit (load_answered seed path limit place)
fits_load seed path limit None = tt
fits_load seed path limit (Some k) =
    elim (nat_lt limit (forged_stamp seed k).size) as (λ b. nat_lt limit (forged_stamp seed k).size ≡ b
    → FitsLoad any path limit (if b then too_large (forged_stamp seed k) else loaded (found_facts path (forged_stamp seed k) (forged seed k)))) [
      | true ↦ λ t. ltb-true limit (forged_stamp seed k).size t
      | false ↦ λ f. record { asked = refl; known = tt; sized = refl; fits = ltb-false limit (forged_stamp seed k).size f }
    ] refl

tells_load : (seed files : ℕ) (path : List ℕ) (limit : ℕ) (place : Option ℕ)
    → stamp_at (forged_names seed files) path ≡ option_map (forged_stamp seed) place
    → TellsLoad (forged_names seed files) path (load_answered seed path limit place)
tells_load seed files path limit None e = e
tells_load seed files path limit (Some k) e =
    elim (nat_lt limit (forged_stamp seed k).size) as (λ b. TellsLoad (forged_names seed files) path
    (if b then too_large (forged_stamp seed k) else loaded (found_facts path (forged_stamp seed k) (forged seed k))))
    [ true ↦ e | false ↦ e ]

fits_open : (seed : ℕ) (path : List ℕ) (limit : ℕ) (place : Option ℕ) → FitsOpening any path limit (open_answered seed limit place)
fits_open seed path limit None = tt
fits_open seed path limit (Some k) =
    elim (nat_lt limit (forged_stamp seed k).size) as (λ b. nat_lt limit (forged_stamp seed k).size ≡ b
    → FitsOpening any path limit (if b then was_too_large (forged_stamp seed k) else was_opened (forged_stamp seed k))) [
      | true ↦ λ t. ltb-true limit (forged_stamp seed k).size t
      | false ↦ λ f. record { fits = ltb-false limit (forged_stamp seed k).size f; bytes = []; known = tt }
    ] refl

tells_open : (seed files : ℕ) (path : List ℕ) (limit : ℕ) (place : Option ℕ)
    → stamp_at (forged_names seed files) path ≡ option_map (forged_stamp seed) place
    → TellsOpening (forged_names seed files) path (open_answered seed limit place)
tells_open seed files path limit None e = e
tells_open seed files path limit (Some k) e =
    elim (nat_lt limit (forged_stamp seed k).size) as (λ b. TellsOpening (forged_names seed files) path
    (if b then was_too_large (forged_stamp seed k) else was_opened (forged_stamp seed k)))
    [ true ↦ e | false ↦ e ]

tells_stat : (seed files : ℕ) (path : List ℕ) (folder : Option Folder) (place : Option ℕ)
    → stamp_at (forged_names seed files) path ≡ option_map (forged_stamp seed) place
    → is_folder (forged_names seed files) path ≡ is_some folder
    → TellsStat (forged_names seed files) path (stat_answered seed folder place)
tells_stat seed files path folder (Some k) e f = e
tells_stat seed files path (Some folder) None e f = record { no_file = e; folder = f }
tells_stat seed files path None None e f = record { no_file = e; no_folder = f }

tells_some : (seed n : ℕ) (path : List ℕ) (folder : Option Folder) → Pieces seed n path folder
    → is_folder (forged_names seed (suc n)) path ≡ is_some folder
    → TellsDir (forged_names seed (suc n)) path (dir_answered (suc n) folder)
tells_some seed n path None pieces f = f
tells_some seed n path (Some folder) pieces f = record {
  there = f;
  listing = subst (IsFolderListing (forged_names seed (suc n)) path) pieces (listing path (forged_names seed (suc n)));
  whole = refl;
}

tells_dir : (seed files : ℕ) (path : List ℕ) → files ≤ 1000000
    → TellsDir (forged_names seed files) path (dir_answered files (folder_among files path))
tells_dir seed zero path few = folder_there seed zero path
tells_dir seed (suc n) path few =
    subst (λ folder. TellsDir (forged_names seed (suc n)) path (dir_answered (suc n) folder)) (sym (some_files n path))
    (tells_some seed n path (folder_at path) (pieces_there seed n path few)
    (folder_there seed (suc n) path ∙ ap is_some (some_files n path)))

-- no answer of the files is a fault
fine_load : (seed : ℕ) (path : List ℕ) (limit : ℕ) (place : Option ℕ) → call_failed (load path limit (load_answered seed path limit place)) ≡ false
fine_load seed path limit None = refl
fine_load seed path limit (Some k) =
    elim (nat_lt limit (forged_stamp seed k).size) as (λ b. call_failed (load path limit
    (if b then too_large (forged_stamp seed k) else loaded (found_facts path (forged_stamp seed k) (forged seed k)))) ≡ false)
    [ true ↦ refl | false ↦ refl ]

fine_open : (seed : ℕ) (path : List ℕ) (limit : ℕ) (place : Option ℕ) → call_failed (open_file path limit (open_answered seed limit place)) ≡ false
fine_open seed path limit None = refl
fine_open seed path limit (Some k) =
    elim (nat_lt limit (forged_stamp seed k).size) as (λ b. call_failed (open_file path limit
    (if b then was_too_large (forged_stamp seed k) else was_opened (forged_stamp seed k))) ≡ false)
    [ true ↦ refl | false ↦ refl ]

fine_stat : (seed : ℕ) (path : List ℕ) (folder : Option Folder) (place : Option ℕ) → call_failed (stat path (stat_answered seed folder place)) ≡ false
fine_stat seed path folder (Some k) = refl
fine_stat seed path (Some folder) None = refl
fine_stat seed path None None = refl

fine_dir : (files : ℕ) (path : List ℕ) (folder : Option Folder) → call_failed (read_dir path (dir_answered files folder)) ≡ false
fine_dir files path None = refl
fine_dir files path (Some folder) = refl

-- what an answer of the files says of the tree
record IsSound (tree : ForgeFacts) (asked : Heard) : Type 0 where
  fits : FitsAny any asked
  tells : IsAnswerTold (forged_names tree.seed tree.files) asked
  fine : call_failed asked ≡ false

sound : (tree : ForgeFacts) (asked : Heard) → tree.files ≤ 1000000 → IsForgedAnswer tree.seed tree.files asked
    → IsSound tree asked
sound tree (load path limit answer) few e =
    subst (λ a. IsSound tree (load path limit a)) (sym e) (record {
      fits = fits_load tree.seed path limit (forged_number_at tree.files path);
      tells = tells_load tree.seed tree.files path limit (forged_number_at tree.files path) (stamp_there tree.seed tree.files path);
      fine = fine_load tree.seed path limit (forged_number_at tree.files path);
    })
sound tree (stat path answer) few e =
    subst (λ a. IsSound tree (stat path a)) (sym e) (record {
      fits = tt;
      tells = tells_stat tree.seed tree.files path (folder_among tree.files path) (forged_number_at tree.files path)
          (stamp_there tree.seed tree.files path) (folder_there tree.seed tree.files path);
      fine = fine_stat tree.seed path (folder_among tree.files path) (forged_number_at tree.files path);
    })
sound tree (read_dir path answer) few e =
    subst (λ a. IsSound tree (read_dir path a)) (sym e) (record {
      fits = tt;
      tells = tells_dir tree.seed tree.files path few;
      fine = fine_dir tree.files path (folder_among tree.files path);
    })
sound tree (open_file path limit answer) few e =
    subst (λ a. IsSound tree (open_file path limit a)) (sym e) (record {
      fits = fits_open tree.seed path limit (forged_number_at tree.files path);
      tells = tells_open tree.seed tree.files path limit (forged_number_at tree.files path) (stamp_there tree.seed tree.files path);
      fine = fine_open tree.seed path limit (forged_number_at tree.files path);
    })
sound tree (read_at name at answer) few e = absurd e

-- a call for which memory was refused says nothing
nothing_said : (tree : ForgeFacts) (asked : Heard) → wants_memory asked ≡ true → IsSound tree asked
nothing_said tree (load path limit no_memory) w = record { fits = tt; tells = tt; fine = refl }
nothing_said tree (stat path found.OutOfMemory) w = record { fits = tt; tells = tt; fine = refl }
nothing_said tree (read_dir path dir_no_memory) w = record { fits = tt; tells = tt; fine = refl }
nothing_said tree (open_file path limit open_no_memory) w = record { fits = tt; tells = tt; fine = refl }
nothing_said tree _ w = absurd (false≢true w)

-- a call that doesn't fail hands the tree on, whatever questions are told from there on
hands : (before : ForgeFacts) (asked : Heard) (heard : Option (List Heard)) → before.files ≤ 1000000 → call_failed asked ≡ false
    → HandsOn true any (forge_shows before) (forge_shows (record before { heard = heard })) (Unit {0}) (IsTrue (call_failed asked))
hands before asked heard few fine = record {
  cause = record { later = omega arith; rose = λ failed. absurd (false≢true (sym fine ∙ failed)) };
  known = λ _ _. presence (record before { heard = heard }) few;
  keeps = λ _ _. presence (record before { heard = heard }) few;
  still = λ still. record { still = still; same = refl };
}

-- a call that is answered by the files is a call of a tree
pub asks_forged : (before after : ForgeFacts) (asked : Heard) → before.files ≤ 1000000 → RunsForged before after asked
    → AsksTree true any (forge_shows before) (forge_shows after) asked
asks_forged before after asked few runs =
    subst (λ tree. AsksTree true any (forge_shows before) (forge_shows tree) asked) (sym runs.ends)
    (elim (wants_memory asked) as (λ b. wants_memory asked ≡ b → AsksTree true any (forge_shows before)
    (forge_shows (if b then before else record before { heard = with_answers before.heard (asked ∷ []) })) asked) [
      | true ↦ λ w. let s = nothing_said before asked w in record {
        fits = s.fits;
        tells = λ _. s.tells;
        listed = rw w refl;
        hands = hands before asked before.heard few s.fine;
      }
      | false ↦ λ w. let s = sound before asked few (runs.answers w) in record {
        fits = s.fits;
        tells = λ _. s.tells;
        listed = rw w refl;
        hands = hands before asked (with_answers before.heard (asked ∷ [])) few s.fine;
      }
    ] refl)

-- so is a read of an open file, which is listed or not
pub reads_forged : (before after : ForgeFacts) (asked : Heard) → before.files ≤ 1000000 → call_failed asked ≡ false
    → ReadsForged before after asked → ReadsOpened true any (forge_shows before) (forge_shows after) asked
reads_forged before after asked few fine reads = record {
  listed = reads.listed;
  hands =
      subst (λ tree. HandsOn true any (forge_shows before) (forge_shows tree) (Unit {0}) (IsTrue (call_failed asked)))
      (sym reads.ends) (hands before asked after.heard few fine);
}

-- ---- calls

-- the answers of the files want no memory
pub load_given : (path : List ℕ) (limit seed files : ℕ) → wants_memory (load path limit (load_answer seed files path limit)) ≡ false
load_given path limit seed files = given (forged_number_at files path)
  where
    given : (place : Option ℕ) → wants_memory (load path limit (load_answered seed path limit place)) ≡ false
    given None = refl
    given (Some k) =
        elim (nat_lt limit (forged_stamp seed k).size) as (λ b. wants_memory (load path limit
        (if b then too_large (forged_stamp seed k) else loaded (found_facts path (forged_stamp seed k) (forged seed k)))) ≡ false)
        [ true ↦ refl | false ↦ refl ]

pub open_given : (path : List ℕ) (limit seed files : ℕ) → wants_memory (open_file path limit (open_answer seed files path limit)) ≡ false
open_given path limit seed files = given (forged_number_at files path)
  where
    given : (place : Option ℕ) → wants_memory (open_file path limit (open_answered seed limit place)) ≡ false
    given None = refl
    given (Some k) =
        elim (nat_lt limit (forged_stamp seed k).size) as (λ b. wants_memory (open_file path limit
        (if b then was_too_large (forged_stamp seed k) else was_opened (forged_stamp seed k))) ≡ false)
        [ true ↦ refl | false ↦ refl ]

pub stat_given : (path : List ℕ) (seed files : ℕ) → wants_memory (stat path (stat_answer seed files path)) ≡ false
stat_given path seed files = given (folder_among files path) (forged_number_at files path)
  where
    given : (folder : Option Folder) (place : Option ℕ) → wants_memory (stat path (stat_answered seed folder place)) ≡ false
    given folder (Some k) = refl
    given (Some folder) None = refl
    given None None = refl

pub dir_given : (path : List ℕ) (seed files : ℕ) → wants_memory (read_dir path (dir_answer files path)) ≡ false
dir_given path seed files = given (folder_among files path)
  where
    given : (folder : Option Folder) → wants_memory (read_dir path (dir_answered files folder)) ≡ false
    given None = refl
    given (Some folder) = refl

-- a call of which the question was kept
pub runs_kept : {E : Type 0} (question : Result Question E) (f : ℕ → ℕ → Heard) (before after : ForgeFacts) (asked : Heard)
    → ((s n : ℕ) → IsForgedAnswer s n (f s n)) → ((s n : ℕ) → wants_memory (f s n) ≡ false)
    → IfOk question (λ q. (s n : ℕ) → heard_question s n q ≡ f s n)
    → IsOkAnd question (λ q. after ≡ record before { heard = with_answers before.heard (heard_question before.seed before.files q ∷ []) })
    → asked ≡ f before.seed before.files → RunsForged before after asked
runs_kept (Ok q) f before after asked forged given is kept e =
    subst (RunsForged before after) (sym e) (record {
      answers = λ _. forged before.seed before.files;
      ends = kept ∙ ap (λ h. record before { heard = with_answers before.heard (h ∷ []) }) (is before.seed before.files)
          ∙ subst (λ b. record before { heard = with_answers before.heard (f before.seed before.files ∷ []) }
          ≡ (if b then before else record before { heard = with_answers before.heard (f before.seed before.files ∷ []) }))
          (sym (given before.seed before.files)) refl;
    })
runs_kept (Err x) f before after asked forged given is kept e = absurd kept

-- a call for which memory was refused
pub runs_refused : (before after : ForgeFacts) (asked : Heard) → wants_memory asked ≡ true → after ≡ before
    → RunsForged before after asked
runs_refused before after asked w e = record {
  answers = λ f. absurd (false≢true (sym f ∙ w));
  ends = e ∙ subst (λ b. before ≡ (if b then before else record before { heard = with_answers before.heard (asked ∷ []) })) (sym w) refl;
}

-- after want of memory the tree is as it was
pub stays_refused : (before after : ForgeFacts) (asked : Heard) → RunsForged before after asked → IsTrue (wants_memory asked)
    → after ≡ before
stays_refused before after asked runs w =
    runs.ends ∙ subst (λ b. (if b then before else record before { heard = with_answers before.heard (asked ∷ []) }) ≡ before) (sym w) refl

-- a read whose question was kept, or that wasn't kept for want of memory
pub read_kept : {E : Type 0} (question : Result Question E) (kept : Bool) (before after : ForgeFacts) (asked : Heard)
    → IfOk question (λ q. (s n : ℕ) → heard_question s n q ≡ asked)
    → OnTrue kept (IsOkAnd question (λ q. after ≡ record before { heard = with_answers before.heard (heard_question before.seed before.files q ∷ []) }))
    → OnTrue kept (after ≡ record before { heard = with_answers before.heard (asked ∷ []) })
read_kept question false before after asked is on = tt
read_kept (Ok q) true before after asked is on =
    on ∙ ap (λ h. record before { heard = with_answers before.heard (h ∷ []) }) (is before.seed before.files)
read_kept (Err x) true before after asked is on = absurd on

-- where no questions are told, none is listed
pub forged_untold : (tree : ForgeFacts) (answers : List Heard) → tree.heard ≡ None
    → tree ≡ record tree { heard = with_answers tree.heard answers }
forged_untold tree answers none =
    ap (λ (heard : Option (List Heard)). record tree { heard = heard })
    (none ∙ sym (ap (λ (heard : Option (List Heard)). with_answers heard answers) none))

-- a read that was listed, and one behind which no questions are told
pub reads_kept : (before after : ForgeFacts) (asked : Heard) → after ≡ record before { heard = with_answers before.heard (asked ∷ []) }
    → ReadsForged before after asked
reads_kept before after asked e = record {
  listed = λ _. ap (λ (t : ForgeFacts). t.heard) e;
  ends = e ∙ ap (λ (h : Option (List Heard)). record before { heard = h }) (sym (ap (λ (t : ForgeFacts). t.heard) e));
}

pub reads_lost : (before after : ForgeFacts) (asked : Heard) → after ≡ record before { heard = None }
    → ReadsForged before after asked
reads_lost before after asked e = record {
  listed = λ some. absurd (false≢true (subst (λ (t : ForgeFacts). IsSome t.heard) e some));
  ends = e ∙ ap (λ (h : Option (List Heard)). record before { heard = h }) (sym (ap (λ (t : ForgeFacts). t.heard) e));
}
