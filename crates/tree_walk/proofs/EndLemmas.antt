-- What a walk found, by what it kept.
use Rattle.path_scope.specs.Scope.{Scope}
use Rattle.std.proofs.Common.{◌≡◌, ℕ, ◌+◌, ◌-◌, ◌^◌, ◌≤◌, ◌<◌, inl, inr, min, Bool, true, false, List, []}
use Rattle.std.proofs.Common.{length, Option, Some, None, IsSome, Result, Ok, Err, MatchResult, Contains}
use Rattle.std.proofs.Common.{refl, sym, ◌∙◌, ap, subst, arith}
use Rattle.std.specs.Prelude.{count_by}
use Rattle.std.specs.Str.{bytes_eq}
use Rattle.std.proofs.lemmas.Bool.{false≢true, MatchBool-at_true, MatchBool-at_false, le-ltb, lt-ltb}
use Rattle.std.proofs.lemmas.Option.{none-some, same_Some}
use Rattle.std.specs.Option.{option_map}
use Rattle.row_types.specs.Faults.{summed}
use Rattle.row_types.specs.Name.{NameFacts}
use Rattle.row_types.specs.Stamp.{StampFacts}
use Rattle.row_types.specs.declared.limits.TheConstants.{PATH_LIMIT}
use Rattle.scan_queue.specs.declared.listing.TheConstants.{LISTING_LIMIT}
use Rattle.tree_trait.specs.Dir.{child}
use Rattle.tree_trait.specs.Entry.{EntryFacts, has_entry}
use Rattle.tree_trait.specs.Heard.{Heard}
use Rattle.tree_trait.specs.declared.entry.EntryKind.{EntryKind}
use Rattle.tree_trait.specs.declared.stat.StatAnswer.{StatAnswer}
use Rattle.tree_trait.specs.declared.stat.StatAnswer.TheVariants.{File}
use Rattle.tree_walk.specs.Answers.{first_look, entries_in, times_read, entries_read, all_passed_over}
use Rattle.tree_walk.specs.Ends.{IsCause, IsWithinLimits, IsWholeWalk, AreFilesTooMany, StopsAtLast}
use Rattle.tree_walk.specs.Kept.{found_stamp, kept_as, IsEntryMet, IsSeenTo, IsSearch}
use Rattle.tree_walk.specs.Search.{SearchFacts, NotesAnswer, has_path, search_names}
use Rattle.tree_walk.specs.Underway.{IsUnderway}
use Rattle.tree_walk.specs.Walked.{IsReached, root, entry, IsEntry, IsFolder, IsWalked, IsWalkListing}
use Rattle.tree_walk.specs.declared.fault.WalkFault.{WalkFault}
use Rattle.tree_walk.specs.declared.fault.WalkFault.TheVariants.{TooMany, OutOfMemory as WalkMemory}
use Rattle.tree_walk.specs.declared.walked.Walk.{Walk}
use Rattle.tree_walk.specs.declared.walked.TheConstants.{ENTRY_LIMIT}
use Rattle.tree_walk.proofs.AnswerLemmas.{one_if, was_read}
use Rattle.tree_walk.proofs.ReachLemmas.{look_was_due}
use Rattle.tree_walk.proofs.SetLemmas.{length_names, name_from_lookup, lookup_from_name, by_path_from_sorted}
use Rattle.tree_walk.proofs.SetLemmas.{distinct_from_sorted, has_from_Contains, Contains-from_has}

-- a file that is kept was found, and is selected
file_back : (answer : Option StatAnswer) (takes : Bool) {stamp : StampFacts}
    → found_stamp (option_map (λ a. kept_as a takes) answer) ≡ Some stamp
    → (answer ≡ Some (File stamp)) × (takes ≡ true)
file_back (Some (File found)) true {stamp} h =
    (ap (λ (s : StampFacts). Some (File s)) (same_Some found stamp h), refl)
file_back (Some (File found)) false {stamp} h = absurd (none-some stamp h)
file_back _ takes {stamp} h = absurd (none-some stamp h)

-- a file that was found and is selected is kept
file_on : {answer : Option StatAnswer} {takes : Bool} {stamp : StampFacts} → answer ≡ Some (File stamp)
    → takes ≡ true → found_stamp (option_map (λ a. kept_as a takes) answer) ≡ Some stamp
file_on {takes} {stamp} found taken =
    ap (λ (o : Option StatAnswer). found_stamp (option_map (λ a. kept_as a takes) o)) found
    ∙ ap (λ (b : Bool). found_stamp (Some (kept_as (File stamp) b))) taken

walked_from_file : {answers : List Heard} {scope : Scope} {search : SearchFacts} {folder : List ℕ}
    {rest : List EntryFacts} → IsSearch answers scope search folder rest → (name : NameFacts)
    → Contains (search_names search.files) name → IsWalked answers scope name
walked_from_file {answers} {scope} {search} s name c =
    let file = file_back (first_look answers name.path) (scope.takes name.path)
    (sym (s.looks.files name.path) ∙ lookup_from_name search.files name s.looks.ordered c) in
    let due = look_was_due answers scope s.asked.due name.path file.0 in
    record { candidate = due.0; taken = file.1; short = due.1.short; file = file.0 }

-- the files are the walk listing
pub listing_is : {answers : List Heard} {scope : Scope} {search : SearchFacts} {folder : List ℕ}
    {rest : List EntryFacts} → IsSearch answers scope search folder rest
    → IsWalkListing answers scope (search_names search.files)
listing_is {search} s = record {
  by_path = by_path_from_sorted search.files s.looks.ordered;
  all = λ name. (
    walked_from_file s name,
    λ w. name_from_lookup search.files name
        (s.looks.files name.path ∙ file_on w.file w.taken),
  );
}

-- the limits are kept
pub room_is : {answers : List Heard} {scope : Scope} {search : SearchFacts} {folder : List ℕ}
    {rest : List EntryFacts} → IsSearch answers scope search folder rest
    → length search.files ≤ LISTING_LIMIT → IsWithinLimits answers scope
room_is {answers} {search} s few =
    let was : search.left + entries_read answers ≡ ENTRY_LIMIT = s.paid.left in
    record {
      names = search_names search.files;
      listing = listing_is s;
      few = subst (λ (n : ℕ). n ≤ LISTING_LIMIT) (sym (length_names search.files)) few;
      entries = omega (arith, was);
      there = s.asked.there;
    }

-- too many files
pub too_many_is : {answers : List Heard} {scope : Scope} {search : SearchFacts} {folder : List ℕ}
    {rest : List EntryFacts} → StopsAtLast answers scope (λ last. Unit {0})
    → IsSearch answers scope search folder rest → LISTING_LIMIT < length search.files
    → AreFilesTooMany answers scope
too_many_is {search} last s many = record {
  last = last;
  names = search_names search.files;
  listing = listing_is s;
  many = subst (λ (n : ℕ). LISTING_LIMIT < n) (sym (length_names search.files)) many;
}

-- how a call ends that adds to the search
pub adds_ends : {V : Type 0} {answers : List Heard} {scope : Scope} (result : Result V WalkFault)
    (next now : SearchFacts) (Good : SearchFacts → Type 0) → NotesAnswer next now result
    → (length next.files ≤ LISTING_LIMIT → Good next) → StopsAtLast answers scope (λ last. Unit {0})
    → (LISTING_LIMIT < length next.files → AreFilesTooMany answers scope)
    → MatchResult result (λ _. Good now) (IsCause answers scope)
adds_ends (Ok _) next now Good added few last many = subst Good (sym added.same) (few added.few)
adds_ends (Err TooMany) next now Good added few last many = many added
adds_ends (Err WalkMemory) next now Good added few last many = inr last
adds_ends (Err _) next now Good added few last many = absurd added

-- an entry of a folder was seen to
settled_of : {answers : List Heard} {scope : Scope} {search : SearchFacts}
    → IsSearch answers scope search [] [] → (at : List ℕ) (e : EntryFacts)
    → has_entry (entries_in answers at) e ≡ true
    → IsSeenTo answers scope.takes search.folders search.long (child at e.name) e.kind
settled_of s at e h = elim
    (s.closed.each at e h) [ inl done ↦ done | inr pending ↦ absurd (false≢true pending.among) ]

met_of : {answers : List Heard} {scope : Scope} {search : SearchFacts} {k : EntryKind}
    {path : List ℕ} → IsSearch answers scope search [] [] → IsEntry answers scope k path
    → length path ≤ PATH_LIMIT → IsEntryMet answers scope.takes search.folders path k
met_of {answers} {scope} {search} {k} {path} s e short =
    let settled : IsSeenTo answers scope.takes search.folders search.long path k =
    subst (λ (p : List ℕ). IsSeenTo answers scope.takes search.folders search.long p k) (sym e.named.joined)
    (settled_of s e.folder (record { name = e.named.name; kind = k }) e.named.listed) in
    MatchBool-at_false (has_path search.long path ≡ true) (IsEntryMet answers scope.takes search.folders path k)
    (le-ltb PATH_LIMIT (length path) short) settled

long_of : {answers : List Heard} {scope : Scope} {search : SearchFacts}
    → IsUnderway answers scope search [] [] → {path : List ℕ} → IsReached answers scope path
    → PATH_LIMIT < length path → has_path search.long path ≡ true
long_of {answers} {scope} {search} u {path} (root p c) lt =
    elim (first_look answers path) as (λ o. first_look answers path ≡ o → IsSome o
    → has_path search.long path ≡ true) [
      | None ↦ λ e h. absurd (false≢true h)
      | Some a ↦ λ e h.
          let due = look_was_due answers scope u.search_is.asked.due path e in
          let short : length path ≤ PATH_LIMIT = due.1.short in
          absurd (omega arith)
    ] refl (u.looked.looked path c)
long_of {answers} {scope} {search} u {path} (entry folder p k r n) lt =
    let settled : IsSeenTo answers scope.takes search.folders search.long path k =
    subst (λ (q : List ℕ). IsSeenTo answers scope.takes search.folders search.long q k) (sym n.joined)
    (settled_of u.search_is folder (record { name = n.name; kind = k }) n.listed) in
    MatchBool-at_true (has_path search.long path ≡ true) (IsEntryMet answers scope.takes search.folders path k)
    (lt-ltb PATH_LIMIT (length path) lt) settled

-- each folder is known
known_of : {answers : List Heard} {scope : Scope} {search : SearchFacts}
    → IsUnderway answers scope search [] [] → (path : List ℕ) → IsFolder answers scope path
    → length path ≤ PATH_LIMIT → has_path search.folders path ≡ true
known_of u path (inl r) short = u.looked.folders path r.root r.folder
known_of u path (inr e) short = met_of u.search_is e short

-- and was read once
once_of : {answers : List Heard} {scope : Scope} {search : SearchFacts}
    → IsUnderway answers scope search [] [] → search.todo ≡ [] → (path : List ℕ)
    → IsFolder answers scope path → length path ≤ PATH_LIMIT → times_read answers path ≡ 1
once_of {answers} {search} u empty path f short =
    let all : times_read answers path + count_by (bytes_eq path) search.todo ≡ 1 =
    u.search_is.known.counts path ∙ ap (λ (b : Bool). one_if b) (known_of u path f short) in
    let none : count_by (bytes_eq path) search.todo ≡ 0 = ap (count_by (bytes_eq path)) empty in
    omega (arith, all, none)

never_of : {answers : List Heard} {scope : Scope} {search : SearchFacts}
    → IsUnderway answers scope search [] [] → (path : List ℕ) → PATH_LIMIT < length path
    → times_read answers path ≡ 0
never_of {answers} {search} u path lt =
    elim (has_path search.folders path) as (λ v. has_path search.folders path ≡ v → times_read answers path ≡ 0) [
      | true ↦ λ e. absurd (let short : length path ≤ PATH_LIMIT = (u.search_is.known.due path e).1.short in
          omega arith)
      | false ↦ λ e.
          let all : times_read answers path + count_by (bytes_eq path) search.todo ≡ 0 =
          u.search_is.known.counts path ∙ ap (λ (b : Bool). one_if b) e in
          omega (arith, all)
    ] refl

-- with nothing left to read the walk is whole
pub whole_is : {answers : List Heard} {scope : Scope} {search : SearchFacts} (walk : Walk)
    → IsUnderway answers scope search [] [] → search.todo ≡ [] → walk.listing ≡ search_names search.files
    → walk.skipped ≡ summed search.skipped (length search.long) → IsWholeWalk answers scope walk
whole_is {answers} {scope} {search} walk u empty found over =
    let s = u.search_is in
    let had : search.skipped ≡ min (all_passed_over answers) (2 ^ 64 - 1) = s.paid.skipped in
    record {
      first = u.first;
      full = record {
        looked = u.looked.looked;
        folders = λ path f short.
            let once : times_read answers path ≡ 1 = once_of u empty path f short in
            was_read answers path s.asked.answered (omega (arith, once));
        files = λ path e short. met_of s e.at short e.taken;
      };
      once = record {
        due = s.asked.due;
        once = once_of u empty;
        never = never_of u;
      };
      room = room_is s u.few;
      listing = subst (λ (names : List NameFacts). IsWalkListing answers scope names) (sym found)
          (listing_is s);
      skipped = record {
        long = search.long;
        distinct = distinct_from_sorted search.long s.too_long.apart;
        each = λ path. (
          λ c. s.too_long.each path
              (has_from_Contains search.long path c),
          λ r. Contains-from_has search.long path
              (long_of u r.0 r.1),
        );
        sum = omega (arith, over, had);
      };
    }
