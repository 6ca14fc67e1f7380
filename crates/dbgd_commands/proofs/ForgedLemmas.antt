-- A walk of generated files meets no limit.
use Rattle.std.proofs.Common.{◌≡◌, ℕ, zero, suc, ◌+◌, ◌<◌, ◌≤◌, ◌||◌, ◌⊎◌, inl, inr, Bool, true, false, not}
use Rattle.std.proofs.Common.{List, [], ◌∷◌, length, map, drop, slice_index_or, Option, Some, None, is_some}
use Rattle.std.proofs.Common.{refl, sym, ◌∙◌, ap, subst, arith, nat_eq}
use Rattle.std.proofs.Common.{length-append}
use Rattle.std.specs.Prelude.{codes, if◌then◌else◌}
use Rattle.std.specs.List.{Contains, list_all, list_any, starts_with}
use Rattle.std.specs.Str.{bytes_eq}
use Rattle.std.proofs.lemmas.Bool.{and_from, and_parts, false_from_ne_true, false≢true, or_cases, or_from}
use Rattle.std.proofs.lemmas.List.{length-map}
use Rattle.std.proofs.lemmas.List.Elements.{All-contains}
use Rattle.std.proofs.lemmas.List.Sums.{AllPass-from_list_all}
use Rattle.std.proofs.lemmas.Slice.Eq.{bytes_eq-Decides}
use Rattle.path_scope.specs.Scope.{Scope}
use Rattle.row_types.specs.Name.{NameFacts, same_name}
use Rattle.row_types.specs.Under.{front_under, lies_under}
use Rattle.scan_queue.specs.Names.{IsByPath}
use Rattle.scan_queue.specs.declared.listing.TheConstants.{LISTING_LIMIT}
use Rattle.tree_walk.specs.declared.walked.TheConstants.{ENTRY_LIMIT}
use Rattle.tree_walk.specs.declared.fault.WalkFault.{WalkFault}
use Rattle.tree_walk.specs.declared.fault.WalkFault.TheVariants as stop
use Rattle.scan_queue.proofs.NameTests.{path_differs, same_name-Decides}
use Rattle.tree_trait.specs.Dir.{IsFolderListing, are_once, child, is_there, makes}
use Rattle.tree_trait.specs.Entry.{EntryFacts, has_entry, is_entry_name, same_entry}
use Rattle.tree_trait.specs.Folder.{first_piece, piece_under}
use Rattle.tree_trait.specs.Present.{are_distinct}
use Rattle.tree_trait.specs.Stat.{IsNothingAt}
use Rattle.tree_trait.proofs.EntryLemmas.{entries_same, entry_itself}
use Rattle.tree_trait.proofs.FolderLemmas.{front_of_longer, made_is_piece, starts_rest}
use Rattle.tree_walk.specs.Files.{AreFilesUnder, FitsFault, FolderFacts, HasManyEntries, HasManyFiles, IsFileUnder, IsFolderUnder}
use Rattle.elf_forge.specs.Place.{forged_path, folder_at, forged_name, forged_names, numbers_below}
use Rattle.elf_forge.proofs.FolderLemmas.{by_folder, folder_there, lies_in, some_files}
use Rattle.dbgd_commands.specs.Trial.{forged_scope}
use Rattle.dbgd_commands.proofs.CountLemmas.{as_many_at_most, has, has_it, once, weigh_at_most}

long_below : (n : ℕ) → length (numbers_below n) ≡ n
long_below zero = refl
long_below (suc n) = let before = long_below n in omega (arith, before, length-append (numbers_below n) (n ∷ []))

as_many_names : (seed n : ℕ) → length (forged_names seed n) ≡ n
as_many_names seed n = length-map (numbers_below n) (forged_name seed) ∙ long_below n

-- ---- files

none_passes : {X : Type 0} (p : X → Bool) (xs : List X)
    → ((k : ℕ) (d : X) → k < length xs → p (slice_index_or xs k d) ≡ false) → list_any p xs ≡ false
none_passes p [] each = refl
none_passes p (x ∷ xs) each =
    or_from (p x) (list_any p xs) (each 0 x (omega arith))
    (none_passes p xs (λ k d within. each (suc k) d (omega (arith, within))))

-- names by path stand once
by_path_once : (names : List NameFacts) → IsByPath names → once same_name same_name-Decides names ≡ true
by_path_once [] by = refl
by_path_once (name ∷ names) by =
    and_from _ _
    (ap not (none_passes (same_name name) names
    (λ k d within.
    path_differs name (slice_index_or names k d) (by 0 (suc k) d (omega arith) (omega (arith, within))))))
    (by_path_once names (λ i j d before within. by (suc i) (suc j) d (omega (arith, before)) (omega (arith, within))))

not_many_files : (seed files : ℕ) (scope : Scope) → files ≤ 100000
    → HasManyFiles (forged_names seed files) scope → ⊥
not_many_files seed files scope few many =
    let all : List NameFacts = forged_names seed files in
    let most = as_many_at_most same_name same_name-Decides many.names all (by_path_once many.names many.by_path)
    (λ name within. has_it same_name same_name-Decides all name
    (All-contains (IsFileUnder all scope) many.names name many.each within).there) in
    let long = as_many_names seed files in
    let limit : LISTING_LIMIT ≡ 1048576 = refl in
    let over = many.many in
    omega (arith, few, most, long, limit, over)

-- those under some folders are no more
pub few_listed : (seed files : ℕ) (scope : Scope) {listing : List NameFacts} → files ≤ 100000
    → AreFilesUnder (forged_names seed files) scope listing → length listing ≤ 100000
few_listed seed files scope {listing} few under =
    let all : List NameFacts = forged_names seed files in
    let most = as_many_at_most same_name same_name-Decides listing all (by_path_once listing under.by_path)
    (λ name within. has_it same_name same_name-Decides all name ((under.all name).0 within).there) in
    let long = as_many_names seed files in
    omega (arith, few, most, long)

-- ---- entries

-- the pieces that files give a folder
abbrev with_one : Option EntryFacts → List EntryFacts → List EntryFacts
with_one None entries = entries
with_one (Some entry) entries = entry ∷ entries

abbrev pieces : List ℕ → List ℕ → List EntryFacts
pieces folder [] = []
pieces folder (k ∷ ks) = with_one (piece_under folder (forged_path k)) (pieces folder ks)

one_more : (o : Option EntryFacts) (entries : List EntryFacts) → length (with_one o entries) ≤ suc (length entries)
one_more None entries = omega arith
one_more (Some entry) entries = omega arith

few_pieces : (folder ks : List ℕ) → length (pieces folder ks) ≤ length ks
few_pieces folder [] = omega arith
few_pieces folder (k ∷ ks) =
    let more = one_more (piece_under folder (forged_path k)) (pieces folder ks) in
    let rest = few_pieces folder ks in
    omega (arith, more, rest)

same_entry-Decides : (a b : EntryFacts) → (same_entry a b ≡ true → a ≡ b) × (a ≡ b → same_entry a b ≡ true)
same_entry-Decides a b = (entries_same a b, λ e. subst (λ x. same_entry a x ≡ true) e (entry_itself a))

still_has : (o : Option EntryFacts) (entries : List EntryFacts) (entry : EntryFacts) → has_entry entries entry ≡ true
    → has_entry (with_one o entries) entry ≡ true
still_has None entries entry h = h
still_has (Some other) entries entry h = go (same_entry entry other)
  where
    go : (b : Bool) → (b || has_entry entries entry) ≡ true
    go true = refl
    go false = h

-- an entry that some file makes is a piece
is_piece : (seed : ℕ) (folder ks : List ℕ) (entry : EntryFacts) → is_entry_name entry.name ≡ true
    → is_there (map (forged_name seed) ks) folder entry ≡ true → has_entry (pieces folder ks) entry ≡ true
is_piece seed folder [] entry valid there = absurd (false≢true there)
is_piece seed folder (k ∷ ks) entry valid there =
    elim (or_cases (makes entry.kind (child folder entry.name) (forged_path k))
    (is_there (map (forged_name seed) ks) folder entry) there) [
      | inl t ↦ subst (λ o. has_entry (with_one o (pieces folder ks)) entry ≡ true)
          (sym (made_is_piece folder (forged_path k) entry.name entry.kind valid t))
          (subst (λ b. (b || has_entry (pieces folder ks) entry) ≡ true) (sym (entry_itself entry)) refl)
      | inr t ↦ still_has (piece_under folder (forged_path k)) (pieces folder ks) entry
          (is_piece seed folder ks entry valid t)
    ]

once_entries : (entries : List EntryFacts) → are_once entries ≡ true → once same_entry same_entry-Decides entries ≡ true
once_entries [] h = refl
once_entries (entry ∷ rest) h =
    let parts = and_parts (not (has_entry rest entry)) (are_once rest) h in
    and_from _ _ parts.0 (once_entries rest parts.1)

all_at : {X : Type 0} (p : X → Bool) (xs : List X) (x : X) → list_all p xs ≡ true → Contains xs x → p x ≡ true
all_at p xs x all within =
    subst (λ y. p y ≡ true) within.2 (AllPass-from_list_all p xs all within.0 x within.1)

few_in_folder : (seed files : ℕ) (folder : List ℕ) (entries : List EntryFacts)
    → IsFolderListing (forged_names seed files) folder entries → length entries ≤ files
few_in_folder seed files folder entries listing =
    let most = as_many_at_most same_entry same_entry-Decides entries (pieces folder (numbers_below files))
    (once_entries entries listing.once)
    (λ entry within. is_piece seed folder (numbers_below files) entry
    (all_at (λ (e : EntryFacts). is_entry_name e.name) entries entry listing.names within)
    (all_at (is_there (forged_names seed files) folder) entries entry listing.each within)) in
    let few = few_pieces folder (numbers_below files) in
    let long = long_below files in
    omega (arith, most, few, long)

-- ---- folders

abbrev same_path : List ℕ → List ℕ → Bool
same_path a b = bytes_eq b a

same_path-Decides : (a b : List ℕ) → (same_path a b ≡ true → a ≡ b) × (a ≡ b → same_path a b ≡ true)
same_path-Decides a b = (λ t. sym ((bytes_eq-Decides b a).0 t), λ e. (bytes_eq-Decides b a).1 (sym e))

once_paths : (paths : List (List ℕ)) → are_distinct paths ≡ true → once same_path same_path-Decides paths ≡ true
once_paths [] h = refl
once_paths (path ∷ rest) h =
    let parts = and_parts (not (list_any (λ other. bytes_eq other path) rest)) (are_distinct rest) h in
    and_from _ _ parts.0 (once_paths rest parts.1)

-- the folders that have entries
abbrev homes : List (List ℕ)
homes = [] ∷ codes "/" ∷ codes "/t" ∷ codes "/t/f" ∷ []

is_home : (p : List ℕ) → is_some (folder_at p) ≡ true → has same_path same_path-Decides homes p ≡ true
is_home p =
    by_folder p (λ o. is_some o ≡ true → has same_path same_path-Decides homes p ≡ true)
    (λ e _. at [] e refl) (λ e _. at (codes "/") e refl) (λ e _. at (codes "/t") e refl)
    (λ e _. at (codes "/t/f") e refl)
    (λ a b c d none. absurd (false≢true none))
  where
    at : (q : List ℕ) → p ≡ q → has same_path same_path-Decides homes q ≡ true
        → has same_path same_path-Decides homes p ≡ true
    at q e h = subst (λ r. has same_path same_path-Decides homes r ≡ true) (sym e) h

-- a folder before a file's path has it
lies_behind : (p : List ℕ) (k : ℕ) → starts_with nat_eq (forged_path k) (front_under p) ≡ true
    → lies_under p (forged_path k) ≡ true
lies_behind p k starts =
    and_from _ _ starts (ap not (false_from_ne_true (bytes_eq (forged_path k) p) (λ t.
    let long : 11 ≡ length p = ap length ((bytes_eq-Decides (forged_path k) p).0 t) in
    let front : length (front_under p) ≡ length p + 1
    = ap length (front_of_longer p (omega (arith, long))) ∙ length-append p (47 ∷ []) in
    let whole : 11 ≡ length (front_under p) + length (drop (length (front_under p)) (forged_path k))
    = ap length (starts_rest (front_under p) (forged_path k) starts)
    ∙ length-append (front_under p) (drop (length (front_under p)) (forged_path k)) in
    absurd (omega (arith, long, front, whole)))))

piece_starts : (p path : List ℕ) (e : EntryFacts) → piece_under p path ≡ Some e
    → starts_with nat_eq path (front_under p) ≡ true
piece_starts p path e piece = go (starts_with nat_eq path (front_under p)) refl piece
  where
    go : (b : Bool) → starts_with nat_eq path (front_under p) ≡ b
        → (if b then Some (first_piece (drop (length (front_under p)) path)) else None) ≡ Some e
        → starts_with nat_eq path (front_under p) ≡ true
    go true is h = is
    go false is h = absurd (cc)

some_home : (seed : ℕ) (p ks : List ℕ) (entry : EntryFacts) → is_entry_name entry.name ≡ true
    → is_there (map (forged_name seed) ks) p entry ≡ true → has same_path same_path-Decides homes p ≡ true
some_home seed p [] entry valid there = absurd (false≢true there)
some_home seed p (k ∷ ks) entry valid there =
    elim (or_cases (makes entry.kind (child p entry.name) (forged_path k))
    (is_there (map (forged_name seed) ks) p entry) there) [
      | inl t ↦ is_home p (sym (lies_in p k)
          ∙ lies_behind p k
          (piece_starts p (forged_path k) entry (made_is_piece p (forged_path k) entry.name entry.kind valid t)))
      | inr t ↦ some_home seed p ks entry valid t
    ]

home_of : (seed files : ℕ) (p : List ℕ) (entries : List EntryFacts) → IsFolderListing (forged_names seed files) p entries
    → 0 < length entries → has same_path same_path-Decides homes p ≡ true
home_of seed files p [] listing some = absurd (omega (arith, some))
home_of seed files p (entry ∷ rest) listing some =
    some_home seed p (numbers_below files) entry
    (and_parts (is_entry_name entry.name) (list_all (λ (e : EntryFacts). is_entry_name e.name) rest) listing.names).0
    (and_parts (is_there (forged_names seed files) p entry) (list_all (is_there (forged_names seed files) p) rest)
    listing.each).0

not_many_entries : (seed files : ℕ) (scope : Scope) → files ≤ 100000
    → HasManyEntries (forged_names seed files) scope → ⊥
not_many_entries seed files scope few many =
    let each : (f : FolderFacts) → Contains many.folders f → IsFolderUnder (forged_names seed files) scope f
    = λ f within. All-contains (IsFolderUnder (forged_names seed files) scope) many.folders f many.each within in
    let most = weigh_at_most same_path same_path-Decides (λ (f : FolderFacts). f.path)
    (λ (f : FolderFacts). length f.entries) 100000
    many.folders homes (once_paths (map (λ (f : FolderFacts). f.path) many.folders) many.distinct)
    (λ f within. let n = few_in_folder seed files f.path f.entries (each f within).listing in omega (arith, n, few))
    (λ f within some. home_of seed files f.path f.entries (each f within).listing some) in
    let limit : ENTRY_LIMIT ≡ 4194304 = refl in
    let over = many.many in
    omega (arith, most, limit, over)

-- ---- ends of a walk

only_one : {X : Type 0} (x y : X) → Contains (x ∷ []) y → y ≡ x
only_one x y h = go h.0 h.1 h.2
  where
    go : (k : ℕ) → k < 1 → slice_index_or (x ∷ []) k y ≡ y → y ≡ x
    go zero within e = sym e
    go (suc k) within e = absurd (omega (arith, within))

root_there : (seed files : ℕ) (path : List ℕ) → 1 ≤ files → path ≡ codes "/t"
    → IsNothingAt (forged_names seed files) path → ⊥
root_there seed zero path some is nothing = absurd (omega (arith, some))
root_there seed (suc n) path some is nothing =
    false≢true (sym nothing.no_folder ∙ folder_there seed (suc n) path ∙ ap is_some (some_files n path)
    ∙ subst (λ p. is_some (folder_at p) ≡ true) (sym is) refl)

-- no walk of the folder ends at what is there
pub walks_well : (seed files : ℕ) (fault : WalkFault) → 1 ≤ files → files ≤ 100000
    → FitsFault (forged_names seed files) forged_scope fault → (fault ≡ stop.Failed) ⊎ (fault ≡ stop.OutOfMemory)
walks_well seed files stop.Failed some few fits = inl refl
walks_well seed files stop.OutOfMemory some few fits = inr refl
walks_well seed files stop.TooMany some few fits = absurd (not_many_files seed files forged_scope few fits)
walks_well seed files stop.TooManyEntries some few fits =
    absurd (not_many_entries seed files forged_scope few fits)
walks_well seed files (stop.RootGone path) some few fits =
    absurd (root_there seed files path some (only_one (codes "/t") path fits.0) fits.1)
