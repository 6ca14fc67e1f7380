-- A walk that is underway goes on.
use Rattle.path_scope.specs.Scope.{Scope}
use Rattle.std.proofs.Common.{◌≡◌, ℕ, ◌+◌, ◌≤◌, ◌<◌, inl, inr, Bool, true, List, [], ◌∷◌, ◌++◌, length, Some}
use Rattle.std.proofs.Common.{None, IsSome, MatchBool, refl, sym, ◌∙◌, ap, subst, drop, get_or}
use Rattle.std.proofs.lemmas.Bool.{false≢true, lt-ltb, le-ltb}
use Rattle.std.proofs.lemmas.List.{drop_more}
use Rattle.std.proofs.lemmas.List.Folds.{list_any_at}
use Rattle.row_types.specs.Stamp.{StampFacts}
use Rattle.row_types.specs.declared.limits.TheConstants.{PATH_LIMIT}
use Rattle.scan_queue.specs.declared.listing.TheConstants.{LISTING_LIMIT}
use Rattle.tree_trait.specs.Dir.{child}
use Rattle.tree_trait.specs.Entry.{EntryFacts, same_entry, has_entry}
use Rattle.tree_trait.specs.Heard.{Heard}
use Rattle.tree_trait.specs.declared.entry.EntryKind.{EntryKind}
use Rattle.tree_trait.specs.declared.entry.EntryKind.TheVariants as kind
use Rattle.tree_trait.specs.declared.stat.StatAnswer.TheVariants.{Folder}
use Rattle.tree_walk.specs.Answers.{first_look}
use Rattle.tree_walk.specs.Kept.{IsEntryMet, IsSeenTo, IsSearch}
use Rattle.tree_walk.specs.Search.{SearchFacts, has_path, with_folder, with_long}
use Rattle.tree_walk.specs.Underway.{IsEntered, IsNextEntry, IsNextPath, AreLooked, IsUnderway}
use Rattle.tree_walk.specs.Walked.{IsNamed, IsEntry, entry as reached_entry}
use Rattle.tree_trait.proofs.EntryLemmas.{entry_itself}
use Rattle.tree_walk.proofs.AnswerLemmas.{looked_stays, look_stays, entries_stay}
use Rattle.tree_walk.proofs.ReachLemmas.{reached_more}
use Rattle.tree_walk.proofs.LastLemmas.{begins_more}
use Rattle.tree_walk.proofs.EntrySteps.{folder_step, folder_known, folder_stays, folder_files, long_step}
use Rattle.tree_walk.proofs.EntrySteps.{long_known, entry_step, with_pending}

-- the roots stay looked at
still_looked : {answers : List Heard} (more : List Heard) {scope : Scope} {search : SearchFacts}
    (next : SearchFacts) → AreLooked answers scope scope.roots search
    → ((path : List ℕ) → has_path search.folders path ≡ true → has_path next.folders path ≡ true)
    → AreLooked (answers ++ more) scope scope.roots next
still_looked {answers} more next looked grows = record {
  looked = λ p c. looked_stays answers more p (looked.looked p c);
  folders = λ p c h. grows p (looked.folders p c (before p (looked.looked p c) h));
}
  where
    before : (p : List ℕ) → IsSome (first_look answers p) → first_look (answers ++ more) p ≡ Some Folder
        → first_look answers p ≡ Some Folder
    before p some h =
        elim (first_look answers p) as (λ o. first_look answers p ≡ o → IsSome o → o ≡ Some Folder) [
          | None ↦ λ e s. absurd (false≢true s)
          | Some a ↦ λ e s. sym (look_stays answers more p e) ∙ h
        ] refl some

-- a walk goes on
pub underway_more : {answers : List Heard} (more : List Heard) {scope : Scope}
    {search next : SearchFacts} {folder to : List ℕ} {rest left : List EntryFacts}
    → IsUnderway answers scope search folder rest → IsSearch (answers ++ more) scope next to left
    → length next.files ≤ LISTING_LIMIT
    → ((path : List ℕ) → has_path search.folders path ≡ true → has_path next.folders path ≡ true)
    → IsUnderway (answers ++ more) scope next to left
underway_more more {next} u s few grows = record {
  search_is = s;
  few = few;
  looked = still_looked more next u.looked grows;
  first = begins_more more u.first;
}

-- an entry was seen to without a question
pub underway_none : {answers : List Heard} {scope : Scope} {search next : SearchFacts}
    {folder : List ℕ} {rest left : List EntryFacts} → IsUnderway answers scope search folder rest
    → IsSearch answers scope next folder left → length next.files ≤ LISTING_LIMIT
    → ((path : List ℕ) → has_path search.folders path ≡ true → has_path next.folders path ≡ true)
    → IsUnderway answers scope next folder left
underway_none u s few grows = record {
  search_is = s;
  few = few;
  looked = record { looked = u.looked.looked; folders = λ p c h. grows p (u.looked.folders p c h) };
  first = u.first;
}

-- an entry whose path isn't too long was seen to
settled_short : (answers : List Heard) (takes : List ℕ → Bool) (known long : List (List ℕ)) (path : List ℕ) (k : EntryKind)
    → length path ≤ PATH_LIMIT → IsEntryMet answers takes known path k → IsSeenTo answers takes known long path k
settled_short answers takes known long path k short met =
    subst (λ (b : Bool). MatchBool b (has_path long path ≡ true) (IsEntryMet answers takes known path k))
    (sym (le-ltb PATH_LIMIT (length path) short)) met

-- an entry that is seen to at its path
pub settled_at : {answers : List Heard} {scope : Scope} {search : SearchFacts} {folder path : List ℕ}
    {entry : EntryFacts} {rest : List EntryFacts} (later : List Heard) (next : SearchFacts)
    → IsNextPath answers scope search folder entry rest path
    → IsEntryMet later scope.takes next.folders path entry.kind
    → IsSeenTo later scope.takes next.folders next.long (child folder entry.name) entry.kind
settled_at {scope} {path} {entry} later next n met =
    subst (λ (p : List ℕ). IsSeenTo later scope.takes next.folders next.long p entry.kind) n.joined
    (settled_short later scope.takes next.folders next.long path entry.kind n.kept.short met)

-- the path is that of an entry of the folder
pub entry_of : {answers : List Heard} {scope : Scope} {search : SearchFacts} {folder path : List ℕ}
    {entry : EntryFacts} {rest : List EntryFacts} → IsNextPath answers scope search folder entry rest path
    → IsEntry answers scope entry.kind path
entry_of {folder} {entry} n =
    record {
      folder = folder;
      reached = n.next.reached;
      named = record { name = entry.name; listed = n.next.listed; joined = n.joined };
    }

-- an entry that is a folder
pub folder_entry : {answers : List Heard} {scope : Scope} {search : SearchFacts}
    {folder path : List ℕ} {entry : EntryFacts} {rest : List EntryFacts} → entry.kind ≡ kind.Folder
    → IsNextPath answers scope search folder entry rest path
    → IsUnderway answers scope (with_folder search path) folder rest
folder_entry {answers} {scope} {search} {path} {entry} is n =
    let next : SearchFacts = with_folder search path in
    let at : IsEntry answers scope kind.Folder path =
    subst (λ (k : EntryKind). IsEntry answers scope k path) is (entry_of n) in
    let s = folder_step n.next.underway.search_is (inr at) n.kept in
    let met : IsEntryMet answers scope.takes next.folders path entry.kind =
    subst (λ (k : EntryKind). IsEntryMet answers scope.takes next.folders path k) (sym is) (folder_known search path) in
    underway_none n.next.underway (entry_step s (settled_at answers next n met))
    (subst (λ (files : List (List ℕ × StampFacts)). length files ≤ LISTING_LIMIT)
    (sym (folder_files search path)) n.next.underway.few) (folder_stays search path)

-- an entry that is neither a folder nor a file
pub other_entry : {answers : List Heard} {scope : Scope} {search : SearchFacts} {folder path : List ℕ}
    {entry : EntryFacts} {rest : List EntryFacts} → entry.kind ≡ kind.Other
    → IsNextPath answers scope search folder entry rest path
    → IsUnderway answers scope search folder rest
other_entry {answers} {scope} {search} {path} {entry} is n =
    let met : IsEntryMet answers scope.takes search.folders path entry.kind =
    subst (λ (k : EntryKind). IsEntryMet answers scope.takes search.folders path k) (sym is) tt in
    underway_none n.next.underway
    (entry_step n.next.underway.search_is (settled_at answers search n met)) n.next.underway.few (λ p h. h)

-- an entry whose path is too long
pub long_entry : {answers : List Heard} {scope : Scope} {search : SearchFacts} {folder : List ℕ}
    {entry : EntryFacts} {rest : List EntryFacts} → IsNextEntry answers scope search folder entry rest
    → PATH_LIMIT < length (child folder entry.name)
    → IsUnderway answers scope (with_long search (child folder entry.name)) folder rest
long_entry {answers} {scope} {search} {folder} {entry} n long =
    let path : List ℕ = child folder entry.name in
    let next : SearchFacts = with_long search path in
    let named : IsNamed answers folder entry.kind path =
    record { name = entry.name; listed = n.listed; joined = refl } in
    let s = long_step n.underway.search_is (reached_entry folder path entry.kind n.reached named) long in
    let settled : IsSeenTo answers scope.takes next.folders next.long path entry.kind =
    subst (λ (b : Bool). MatchBool b (has_path next.long path ≡ true) (IsEntryMet answers scope.takes next.folders path entry.kind))
    (sym (lt-ltb PATH_LIMIT (length path) long)) (long_known search path) in
    underway_none n.underway (entry_step s settled) n.underway.few (λ p h. h)

-- an entry is among the entries
has_at : (entries : List EntryFacts) (i : ℕ) {e : EntryFacts} → i < length entries → e ≡ get_or entries i e
    → has_entry entries e ≡ true
has_at entries i {e} within here =
    list_any_at (same_entry e) entries i e within
    (subst (λ (f : EntryFacts). same_entry e f ≡ true) here (entry_itself e))

-- the entry that comes next
pub next_from : {answers : List Heard} {scope : Scope} {begun search : SearchFacts} {folder : List ℕ}
    {entries : List EntryFacts} (more : List Heard) (i : ℕ) {e : EntryFacts}
    → IsEntered answers scope begun folder entries
    → i < length entries → e ≡ get_or entries i e
    → IsUnderway (answers ++ more) scope search folder (drop i entries)
    → IsNextEntry (answers ++ more) scope search folder e (drop (i + 1) entries)
next_from {answers} {scope} {search} {folder} {entries} more i {e} entered within here u = record {
  underway = subst (λ (es : List EntryFacts). IsUnderway (answers ++ more) scope search folder es)
      (drop_more entries i e within ∙ ap (λ (f : EntryFacts). f ∷ drop (i + 1) entries) (sym here)) u;
  reached = reached_more more entered.reached;
  listed = entries_stay answers more folder e
      (subst (λ (es : List EntryFacts). has_entry es e ≡ true) (sym entered.listed)
      (has_at entries i within here));
}

-- with all entries seen to, nothing is pending
pub all_seen : {answers : List Heard} {scope : Scope} {search : SearchFacts} {folder : List ℕ}
    → IsUnderway answers scope search folder [] → IsUnderway answers scope search [] []
all_seen u = record {
  search_is = with_pending u.search_is (record {
    each = λ at e h. elim (u.search_is.closed.each at e h) [
      | inl done ↦ inl done
      | inr pending ↦ absurd
          (false≢true pending.among)
    ];
  });
  few = u.few;
  looked = u.looked;
  first = u.first;
}
