-- What a file of a folder, and the reading of a folder, make of a walk that is underway.
use Rattle.path_scope.specs.Scope.{Scope}
use Rattle.std.proofs.Common.{◌≡◌, ℕ, ◌+◌, ◌-◌, ◌^◌, ◌≤◌, ◌<◌, inr, min, true, false, List, [], ◌∷◌, ◌++◌}
use Rattle.std.proofs.Common.{length, Option, Some, None, is_some, IsSome, Result, MatchResult, refl, sym}
use Rattle.std.proofs.Common.{◌∙◌, ap, subst, arith}
use Rattle.std.proofs.lemmas.Bool.{false≢true}
use Rattle.std.proofs.lemmas.List.Sums.{sum_by_push}
use Rattle.tree_trait.specs.Dir.{DirFacts}
use Rattle.tree_trait.specs.Entry.{EntryFacts}
use Rattle.tree_trait.specs.Heard.{Heard, stat, read_dir}
use Rattle.tree_trait.specs.declared.entry.EntryKind.{EntryKind}
use Rattle.tree_trait.specs.declared.entry.EntryKind.TheVariants as kind
use Rattle.tree_trait.specs.declared.stat.StatAnswer.{StatAnswer}
use Rattle.tree_trait.specs.declared.stat.StatAnswer.TheVariants.{File}
use Rattle.tree_walk.specs.Answers.{first_look, listed_entries, listed_count, entries_read}
use Rattle.tree_walk.specs.Ends.{IsTooManyEntries, IsCause}
use Rattle.tree_walk.specs.Calls.{HearsLook, HearsReading}
use Rattle.tree_walk.specs.Kept.{IsEntryMet, IsSearch, kept_as}
use Rattle.tree_walk.specs.Search.{SearchFacts, NotesAnswer, search_after, with_last, paid, is_path_looked}
use Rattle.tree_walk.specs.Underway.{IsEntered, IsNextPath, IsUnderway}
use Rattle.tree_walk.specs.declared.fault.WalkFault.{WalkFault}
use Rattle.tree_walk.specs.Walked.{IsEntry, IsCandidate}
use Rattle.tree_walk.specs.declared.walked.TheConstants.{ENTRY_LIMIT}
use Rattle.tree_walk.proofs.AnswerLemmas.{look_here}
use Rattle.tree_walk.proofs.ReachLemmas.{reached_more, folder_reached}
use Rattle.tree_walk.proofs.EndLemmas.{adds_ends, too_many_is}
use Rattle.tree_walk.proofs.LastLemmas.{look_last, read_last}
use Rattle.tree_walk.proofs.UnderwayLemmas.{entry_of, settled_at, underway_more, underway_none}
use Rattle.tree_walk.proofs.EntrySteps.{entry_step}
use Rattle.tree_walk.proofs.LookLemmas.{IsLookDue, note_step, is_looked_is}
use Rattle.tree_walk.proofs.ReadLemmas.{read_step, read_entries, next_folder}

-- a file that was looked at before
pub known_file : {answers : List Heard} {scope : Scope} {search : SearchFacts} {folder path : List ℕ}
    {entry : EntryFacts} {rest : List EntryFacts} → entry.kind ≡ kind.File
    → IsNextPath answers scope search folder entry rest path
    → is_path_looked search path ≡ true → IsUnderway answers scope search folder rest
known_file {answers} {scope} {search} {path} is n looked =
    let u = n.next.underway in
    let was : IsSome (first_look answers path) = sym (is_looked_is path u.search_is) ∙ looked in
    underway_none u (entry_step u.search_is
    (settled_at answers search n
    (subst (λ (k : EntryKind). IsEntryMet answers scope.takes search.folders path k) (sym is) (λ _. was)))) u.few (λ p h. h)

-- a file that isn't selected
pub passed_file : {answers : List Heard} {scope : Scope} {search : SearchFacts} {folder path : List ℕ}
    {entry : EntryFacts} {rest : List EntryFacts} → entry.kind ≡ kind.File
    → IsNextPath answers scope search folder entry rest path
    → scope.takes path ≡ false → IsUnderway answers scope search folder rest
passed_file {answers} {scope} {search} {path} is n passed =
    let u = n.next.underway in
    underway_none u (entry_step u.search_is
    (settled_at answers search n
    (subst (λ (k : EntryKind). IsEntryMet answers scope.takes search.folders path k) (sym is)
    (λ taken. absurd (false≢true (sym passed ∙ taken)))))) u.few (λ p h. h)

-- a file of a folder that is selected may be looked at
pub file_candidate : {answers : List Heard} {scope : Scope} {search : SearchFacts}
    {folder path : List ℕ} {entry : EntryFacts} {rest : List EntryFacts} → entry.kind ≡ kind.File
    → IsNextPath answers scope search folder entry rest path → scope.takes path ≡ true
    → IsCandidate answers scope path
file_candidate {answers} {scope} {path} is n taken =
    inr (record { at = subst (λ (k : EntryKind). IsEntry answers scope k path) is (entry_of n); taken = taken })

-- how a look at a file ends that wasn't looked at before
pub file_ends : {V : Type 0} {answers more : List Heard} {scope : Scope} {search : SearchFacts}
    {folder path : List ℕ} {answer : StatAnswer} {entry : EntryFacts} {rest : List EntryFacts}
    (result : Result V WalkFault) (now : SearchFacts)
    → entry.kind ≡ kind.File → IsNextPath answers scope search folder entry rest path
    → scope.takes path ≡ true → is_path_looked search path ≡ false → HearsLook path more answer → NotesAnswer (search_after search path answer) now result
    → MatchResult result (λ _. IsUnderway (answers ++ more) scope now folder rest)
    (IsCause (answers ++ more) scope)
file_ends {answers} {scope} {search} {folder} {path} {answer} {entry} {rest} result now is n taken new look added =
    let later : List Heard = answers ++ stat path answer ∷ [] in
    let next : SearchFacts = search_after search path answer in
    let u = n.next.underway in
    let candidate : IsCandidate answers scope path = file_candidate is n taken in
    let none : is_some (first_look answers path) ≡ false = sym (is_looked_is path u.search_is) ∙ new in
    let fresh : first_look answers path ≡ None = is_none (first_look answers path) none in
    let due : IsLookDue answers scope path answer =
    record {
      candidate = candidate;
      kept = n.kept;
      answered = look.answered;
      there = λ c gone. false≢true (sym none ∙ u.looked.looked path c);
    } in
    let met : IsEntryMet later scope.takes next.folders path entry.kind =
    subst (λ (k : EntryKind). IsEntryMet later scope.takes next.folders path k) (sym is)
    (λ _. ap is_some (look_here answers path answer look.answered fresh)) in
    let as_is : kept_as answer (scope.takes path) ≡ answer =
    ap (kept_as answer) taken ∙ kept_whole answer in
    let noted = subst (λ (a : StatAnswer). IsSearch later scope (search_after search path a) folder (entry ∷ rest))
    as_is (note_step u.search_is due fresh) in
    let s = entry_step noted (settled_at later next n met) in
    subst (λ (m : List Heard). MatchResult result (λ _. IsUnderway (answers ++ m) scope now folder rest)
    (IsCause (answers ++ m) scope)) (sym look.heard)
    (adds_ends result next now (λ next. IsUnderway later scope next folder rest) added
    (λ few. underway_more (stat path answer ∷ []) u s few (λ p h. h))
    (look_last answer u candidate n.kept tt)
    (λ many. too_many_is (look_last answer u candidate n.kept tt) s many))
  where
    kept_whole : (a : StatAnswer) → kept_as a true ≡ a
    kept_whole (File stamp) = refl
    kept_whole _ = refl

    is_none : (o : Option StatAnswer) → is_some o ≡ false → o ≡ None
    is_none None h = refl
    is_none (Some a) h = absurd (false≢true (sym h))

-- a folder was read
pub read_into : {answers more : List Heard} {scope : Scope} (search : SearchFacts) {folder : List ℕ}
    {entries : List EntryFacts} {skipped : ℕ} → IsUnderway answers scope (with_last search folder) [] []
    → HearsReading folder more entries skipped → length entries ≤ search.left
    → IsEntered (answers ++ more) scope (paid search (length entries) skipped) folder entries
read_into {answers} {scope} search {folder} {entries} {skipped} u r room =
    let d : DirFacts = r.answer in
    let es : List EntryFacts = listed_entries (Some d) in
    let count : length entries ≡ length es = ap length r.entries_are in
    let s = read_step search folder d u.search_is r.answered
    (omega (arith, count, room)) (ap (λ (n : ℕ). min (search.skipped + n) (2 ^ 64 - 1)) r.passed) in
    let walk = underway_more (read_dir folder d ∷ []) u s u.few (λ p h. h) in
    let reached = reached_more (read_dir folder d ∷ [])
    (folder_reached answers scope folder (next_folder search.todo folder u.search_is.known).is_folder) in
    let listed = read_entries search folder d u.search_is r.answered in
    subst (λ (m : List Heard). IsEntered (answers ++ m) scope
    (paid search (length entries) skipped) folder entries) (sym r.heard)
    (subst (λ (x : List EntryFacts). IsEntered (answers ++ read_dir folder d ∷ []) scope
    (paid search (length entries) skipped) folder x) (sym r.entries_are)
    (record { underway = walk; reached = reached; listed = listed }))

-- a folder has more entries than may be read
pub read_over : {answers more : List Heard} {scope : Scope} (search : SearchFacts) {folder : List ℕ}
    {entries : List EntryFacts} {skipped : ℕ} → IsUnderway answers scope (with_last search folder) [] []
    → HearsReading folder more entries skipped → search.left < length entries
    → IsTooManyEntries (answers ++ more) scope
read_over {answers} {scope} search {folder} {entries} u r over =
    let d : DirFacts = r.answer in
    let count : length entries ≡ length (listed_entries (Some d)) = ap length r.entries_are in
    let read : entries_read (answers ++ read_dir folder d ∷ []) ≡ entries_read answers + length
    (listed_entries (Some d)) = sum_by_push listed_count answers (read_dir folder d) in
    let was : search.left + entries_read answers ≡ ENTRY_LIMIT = u.search_is.paid.left in
    subst (λ (m : List Heard). IsTooManyEntries (answers ++ m) scope) (sym r.heard)
    (record {
      last = read_last search folder d u tt;
      many = omega (arith, count, read, was, over);
    })
