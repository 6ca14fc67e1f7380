-- What the faults of a walk say of the files that are there.
use Rattle.path_scope.specs.Scope.{Scope}
use Rattle.std.proofs.Common.{◌≡◌, ℕ, ◌+◌, ◌≤◌, ◌<◌, inl, inr, Bool, true, false, not, List, [], ◌∷◌, length}
use Rattle.std.proofs.Common.{map, Result, Ok, Err, IfErr, IsTrue, All, Contains, refl, sym, ap, subst, arith}
use Rattle.std.specs.Prelude.{sum_by}
use Rattle.std.specs.List.{list_any}
use Rattle.std.specs.Str.{bytes_eq}
use Rattle.std.proofs.lemmas.Bool.{false≢true, and_from, or_cases, false_from_ne_true}
use Rattle.std.proofs.lemmas.List.Elements.{All-contains, All-cons, All-head, All-nil, All-tail, All-weaker}
use Rattle.std.proofs.lemmas.List.Elements.{All-contains_itself, Contains-append_right, Contains-push}
use Rattle.std.proofs.lemmas.List.Sums.{sum_by-cons}
use Rattle.std.proofs.lemmas.Slice.Eq.{bytes_eq-Decides}
use Rattle.row_types.specs.Name.{NameFacts}
use Rattle.tree_trait.specs.Asks.{IsAnswerTold}
use Rattle.tree_trait.specs.Dir.{listed}
use Rattle.tree_trait.specs.Heard.{Heard, stat, read_dir}
use Rattle.tree_trait.specs.Present.{are_distinct}
use Rattle.tree_trait.specs.Shown.{ShownTree}
use Rattle.tree_trait.specs.declared.stat.StatAnswer.TheVariants.{Gone}
use Rattle.tree_walk.specs.Answers.{listed_count, entries_read, reads, times_read, looks}
use Rattle.tree_walk.specs.Ends.{IsCause, IsRootGone, AreFilesTooMany, IsTooManyEntries, WalksTree}
use Rattle.tree_walk.specs.Files.{FolderFacts, FitsFault, HasManyEntries, HasManyFiles, IsFileUnder}
use Rattle.tree_walk.specs.Files.{IsFolderUnder}
use Rattle.tree_walk.specs.Walked.{IsAskDue}
use Rattle.tree_walk.specs.declared.fault.WalkFault.{WalkFault}
use Rattle.tree_walk.specs.declared.fault.WalkFault.TheVariants.{TooMany, TooManyEntries, RootGone}
use Rattle.tree_walk.specs.declared.walked.Walk.{Walk}
use Rattle.tree_walk.specs.declared.walked.TheConstants.{ENTRY_LIMIT}
use Rattle.tree_walk.proofs.AnswerLemmas.{one_if}
use Rattle.tree_walk.proofs.PresentLemmas.{walked_under}
use Rattle.tree_walk.proofs.ToldLemmas.{reached_within}
use Rattle.tree_walk.proofs.ReachLemmas.{folder_reached}

-- the folders with one more, if it was listed
abbrev with_listed : Heard → List FolderFacts → List FolderFacts
with_listed (read_dir path (listed entries skipped)) folders =
    record { path = path; entries = entries } ∷ folders
with_listed _ folders = folders

-- the folders that were listed, in order
abbrev folders_of : List Heard → List FolderFacts
folders_of [] = []
folders_of (h ∷ rest) = with_listed h (folders_of rest)

-- their paths, and how many entries they have
abbrev paths_of : List FolderFacts → List (List ℕ)
paths_of folders = map (λ folder. folder.path) folders

abbrev entries_of_all : List FolderFacts → ℕ
entries_of_all folders = sum_by (λ folder. length folder.entries) folders

-- their entries are all that were read
counted : (h : Heard) (folders : List FolderFacts)
    → entries_of_all (with_listed h folders) ≡ listed_count h + entries_of_all folders
counted (read_dir path (listed entries skipped)) folders =
    sum_by-cons (λ (folder : FolderFacts). length folder.entries)
    (record { path = path; entries = entries }) folders
counted _ folders = omega arith

all_counted : (answers : List Heard) → entries_of_all (folders_of answers) ≡ entries_read answers
all_counted [] = refl
all_counted (h ∷ rest) =
    omega (arith, counted h (folders_of rest), sum_by-cons listed_count h rest, all_counted rest)

-- a folder that was listed was asked
times_more : (h : Heard) (rest : List Heard) (p : List ℕ)
    → times_read (h ∷ rest) p ≡ one_if (reads p h) + times_read rest p
times_more h rest p = sum_by-cons (λ (x : Heard). one_if (reads p x)) h rest

-- whether a path is among the folders
abbrev is_among : List ℕ → List FolderFacts → Bool
is_among p folders = list_any (λ other. bytes_eq other p) (paths_of folders)

listed_here : (p : List ℕ) (h : Heard) (folders : List FolderFacts) (n : ℕ)
    → (is_among p folders ≡ true → 1 ≤ n) → is_among p (with_listed h folders) ≡ true
    → 1 ≤ one_if (reads p h) + n
listed_here p (read_dir path (listed entries skipped)) folders n f t =
    elim (or_cases (bytes_eq path p) (is_among p folders) t) [
      | inl here ↦ let one : one_if (bytes_eq path p) ≡ 1 = ap one_if here in omega (arith, one)
      | inr later ↦ let some : 1 ≤ n = f later in omega (arith, some)
    ]
listed_here p _ folders n f t = let some : 1 ≤ n = f t in omega (arith, some)

listed_asked : (answers : List Heard) (p : List ℕ) → is_among p (folders_of answers) ≡ true
    → 1 ≤ times_read answers p
listed_asked [] p t = absurd (false≢true t)
listed_asked (h ∷ rest) p t =
    let all = times_more h rest p in
    let some = listed_here p h (folders_of rest) (times_read rest p) (listed_asked rest p) t in
    omega (arith, all, some)

-- with no folder asked twice, none was listed twice
distinct_with : (h : Heard) (folders : List FolderFacts) → are_distinct (paths_of folders) ≡ true
    → ((path : List ℕ) → reads path h ≡ true → is_among path folders ≡ false)
    → are_distinct (paths_of (with_listed h folders)) ≡ true
distinct_with (read_dir path (listed entries skipped)) folders d fresh =
    and_from _ _ (ap not (fresh path ((bytes_eq-Decides path path).1 refl))) d
distinct_with _ folders d fresh = d

all_distinct : (answers : List Heard) → ((p : List ℕ) → times_read answers p ≤ 1)
    → are_distinct (paths_of (folders_of answers)) ≡ true
all_distinct [] few = refl
all_distinct (h ∷ rest) few =
    distinct_with h (folders_of rest)
    (all_distinct rest (λ p. let all = times_more h rest p in let one = few p in omega (arith, all, one)))
    (λ path read. false_from_ne_true _ (λ again.
    let some = listed_asked rest path again in
    let all = times_more h rest path in
    let here : one_if (reads path h) ≡ 1 = ap one_if read in
    let one = few path in
    absurd (omega (arith, some, all, here, one))))

-- each of them stands under a root
under_with : (present : List NameFacts) (folders : List FolderFacts) (answers : List Heard)
    (scope : Scope) (h : Heard) → IsAnswerTold present h → IsAskDue answers scope h
    → All (IsFolderUnder present scope) folders → All (IsFolderUnder present scope) (with_listed h folders)
under_with present folders answers scope (read_dir path (listed entries skipped)) told due under =
    All-cons (IsFolderUnder present scope) (record { path = path; entries = entries }) folders
    (record {
      under = reached_within (folder_reached answers scope path due.0);
      short = due.1.short;
      listing = told.listing;
    }) under
under_with present folders answers scope _ told due under = under

all_under : (present : List NameFacts) (answers : List Heard) (scope : Scope) (some : List Heard)
    → All (IsAnswerTold present) some → All (IsAskDue answers scope) some
    → All (IsFolderUnder present scope) (folders_of some)
all_under present answers scope [] told due = All-nil (IsFolderUnder present scope)
all_under present answers scope (h ∷ rest) told due =
    under_with present (folders_of rest) answers scope h (All-head (IsAnswerTold present) h rest told)
    (All-head (IsAskDue answers scope) h rest due)
    (all_under present answers scope rest (All-tail (IsAnswerTold present) h rest told)
    (All-tail (IsAskDue answers scope) h rest due))

-- so the folders that were listed have more entries than a walk reads
many_entries : (present : List NameFacts) {answers : List Heard} {scope : Scope}
    → All (IsAnswerTold present) answers → IsTooManyEntries answers scope → HasManyEntries present scope
many_entries present {answers} {scope} told end = record {
  folders = folders_of answers;
  distinct = all_distinct answers end.last.asked.few;
  each = all_under present answers scope answers told end.last.asked.due;
  many = subst (λ (n : ℕ). ENTRY_LIMIT < n) (sym (all_counted answers)) end.many;
}

-- the files that were found are more than a listing has
many_files : (present : List NameFacts) {answers : List Heard} {scope : Scope}
    → All (IsAnswerTold present) answers → AreFilesTooMany answers scope → HasManyFiles present scope
many_files present {scope} told end = record {
  names = end.names;
  by_path = end.listing.by_path;
  each = All-weaker (Contains end.names) (IsFileUnder present scope)
      (λ name c. walked_under present told ((end.listing.all name).0 c)) end.names
      (All-contains_itself end.names);
  many = end.many;
}

-- nothing is at the root that is gone
gone_root : (present : List NameFacts) {answers : List Heard} {scope : Scope} {path : List ℕ}
    → All (IsAnswerTold present) answers → IsRootGone answers scope path → FitsFault present scope (RootGone path)
gone_root present {answers} {path} told gone = (
  subst (λ (rs : List (List ℕ)). Contains rs path) (sym gone.split)
      (Contains-append_right gone.before (path ∷ gone.after) path (0, omega arith, refl)),
  All-contains (IsAnswerTold present) answers (stat path Gone) told
      (subst (λ (a : List Heard). Contains a (stat path Gone)) (sym gone.heard)
      (Contains-push (looks gone.before gone.given) (stat path Gone))),
)

cause_fits : (present : List NameFacts) (answers : List Heard) (scope : Scope) (fault : WalkFault)
    → All (IsAnswerTold present) answers → IsCause answers scope fault → FitsFault present scope fault
cause_fits present answers scope TooMany told end = many_files present told end
cause_fits present answers scope TooManyEntries told end = many_entries present told end
cause_fits present answers scope (RootGone path) told end = gone_root present told end
cause_fits present answers scope _ told end = tt

-- a fault of a tree that is told and still
pub fault_fits : {told : Bool} {before after : ShownTree} {scope : Scope}
    (result : Result Walk WalkFault) → WalksTree told before after scope result → IsTrue told → before.Still
    → IfErr result (FitsFault before.present scope)
fault_fits (Ok walk) w t s = tt
fault_fits {before} {scope} (Err fault) w t s =
    cause_fits before.present w.goes.more scope fault (w.goes.tells t s) w.goes.ends
