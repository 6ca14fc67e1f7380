-- What the answers say of the files that are there.
use Rattle.path_scope.specs.Scope.{Scope}
use Rattle.std.proofs.Common.{◌≡◌, ℕ, inl, inr, true, List, Option, Some, None, IsSome, All}
use Rattle.std.proofs.Common.{refl, sym, ◌∙◌, ap, subst}
use Rattle.std.specs.List.{list_any}
use Rattle.std.specs.Str.{bytes_eq}
use Rattle.std.proofs.lemmas.Bool.{false≢true, or_left}
use Rattle.std.proofs.lemmas.List.Elements.{All-contains}
use Rattle.std.proofs.lemmas.Option.{none-some, same_Some}
use Rattle.std.proofs.lemmas.Slice.Eq.{bytes_eq-Decides}
use Rattle.row_types.specs.Name.{NameFacts}
use Rattle.row_types.specs.Stamp.{StampFacts}
use Rattle.tree_trait.specs.Dir.{DirFacts, listed, no_dir, child, is_there, TellsDir}
use Rattle.tree_trait.specs.Entry.{EntryFacts, is_entry_name, has_entry}
use Rattle.tree_trait.specs.Heard.{Heard}
use Rattle.row_types.specs.Name.{stamp_at}
use Rattle.row_types.specs.Under.{lies_under}
use Rattle.tree_trait.specs.Present.{is_folder}
use Rattle.tree_trait.specs.Stat.{TellsStat}
use Rattle.tree_trait.specs.declared.entry.EntryKind.TheVariants as kind
use Rattle.tree_trait.specs.declared.stat.StatAnswer.{StatAnswer}
use Rattle.tree_trait.specs.declared.stat.StatAnswer.TheVariants.{Folder, File, Other, Gone}
use Rattle.tree_walk.specs.Answers.{first_some, is_look_answer, is_dir_answer, look_at, reading_of, first_look}
use Rattle.tree_walk.specs.Answers.{first_reading, listed_entries, entries_in}
use Rattle.row_types.specs.Under.{is_within}
use Rattle.tree_trait.specs.Asks.{IsAnswerTold}
use Rattle.tree_walk.specs.Walked.{IsReached, root, entry, IsCandidate}
use Rattle.tree_walk.proofs.AnswerLemmas.{look_says, reading_says}
use Rattle.tree_walk.proofs.FirstLemmas.{place_of_first}
use Rattle.tree_walk.proofs.PathLemmas.{within_child}
use Rattle.tree_walk.proofs.ElementLemmas.{any_from_Contains, any_more}

-- what the answers say of the tree
told_first : {Y : Type 0} (f : Heard → Option Y) {y : Y} (present : List NameFacts) (answers : List Heard)
    → All (IsAnswerTold present) answers → first_some f answers ≡ Some y
    → (h : Heard) × IsAnswerTold present h × (f h ≡ Some y)
told_first f present answers told h =
    let at = place_of_first f answers h in
    (at.0, All-contains (IsAnswerTold present) answers at.0 told at.1, at.2)

pub told_look : (present : List NameFacts) (answers : List Heard) → All (IsAnswerTold present) answers
    → (path : List ℕ) {answer : StatAnswer} → first_look answers path ≡ Some answer
    → TellsStat present path answer × (is_look_answer answer ≡ true)
told_look present answers told path h =
    let at = told_first (look_at path) present answers told h in
    let says = look_says path at.0 at.2 in
    (subst (IsAnswerTold present) says.0 at.1, says.1)

told_reading : (present : List NameFacts) (answers : List Heard) → All (IsAnswerTold present) answers
    → (path : List ℕ) {answer : DirFacts} → first_reading answers path ≡ Some answer
    → TellsDir present path answer × (is_dir_answer answer ≡ true)
told_reading present answers told path h =
    let at = told_first (reading_of path) present answers told h in
    let says = reading_says path at.0 at.2 in
    (subst (IsAnswerTold present) says.0 at.1, says.1)

-- a look at a file finds it
pub look_finds : (present : List NameFacts) (path : List ℕ) {stamp : StampFacts} (answer : StatAnswer)
    → stamp_at present path ≡ Some stamp → TellsStat present path answer → is_look_answer answer ≡ true
    → answer ≡ File stamp
look_finds present path {stamp} Folder at t ok = absurd (none-some stamp (sym t.no_file ∙ at))
look_finds present path {stamp} (File found) at t ok =
    ap (λ (s : StampFacts). File s) (same_Some found stamp (sym t ∙ at))
look_finds present path {stamp} Gone at t ok = absurd (none-some stamp (sym t.no_file ∙ at))
look_finds present path Other at t ok = absurd t
look_finds present path _ at t ok = absurd (false≢true ok)

-- what lies under the reached paths lies under a root
pub reached_within : {answers : List Heard} {scope : Scope} {path : List ℕ}
    → IsReached answers scope path → list_any (λ r. is_within r path) scope.roots ≡ true
reached_within {scope} {path} (root p c) =
    any_from_Contains (λ r. is_within r path) scope.roots path c
    (or_left (bytes_eq path path) (lies_under path path) ((bytes_eq-Decides path path).1 refl))
reached_within {scope} (entry folder p k r n) =
    subst (λ (q : List ℕ). list_any (λ z. is_within z q) scope.roots ≡ true) (sym n.joined)
    (any_more (λ z. is_within z folder)
    (λ z. is_within z (child folder n.name)) scope.roots (λ z h. within_child z folder n.name h)
    (reached_within r))

pub candidate_within : (answers : List Heard) (scope : Scope) (path : List ℕ)
    → IsCandidate answers scope path → list_any (λ r. is_within r path) scope.roots ≡ true
candidate_within answers scope path (inl r) = reached_within {answers = answers} {scope = scope} (root path r)
candidate_within answers scope path (inr e) = reached_within (entry e.at.folder path kind.File e.at.reached e.at.named)

-- a folder's entries are those that stand there
entries_told : (present : List NameFacts) (folder : List ℕ) (answer : DirFacts) (e : EntryFacts)
    → TellsDir present folder answer → is_dir_answer answer ≡ true → is_folder present folder ≡ true
    → is_entry_name e.name ≡ true → is_there present folder e ≡ true
    → has_entry (listed_entries (Some answer)) e ≡ true
entries_told present folder (listed entries skipped) e t ok some valid there = t.listing.all e valid there
entries_told present folder no_dir e t ok some valid there = absurd (false≢true (sym t ∙ some))
entries_told present folder _ e t ok some valid there = absurd (false≢true ok)

pub named_told : (present : List NameFacts) (answers : List Heard) (folder : List ℕ) (e : EntryFacts)
    → All (IsAnswerTold present) answers → IsSome (first_reading answers folder) → is_folder present folder ≡ true
    → is_entry_name e.name ≡ true → is_there present folder e ≡ true
    → has_entry (entries_in answers folder) e ≡ true
named_told present answers folder e told read some valid there =
    elim (first_reading answers folder) as (λ o. first_reading answers folder ≡ o → IsSome o
    → has_entry (listed_entries o) e ≡ true) [
      | None ↦ λ h r. absurd (false≢true r)
      | Some answer ↦ λ h r. let says = told_reading present answers told folder h in
          entries_told present folder answer e says.0 says.1 some valid there
    ] refl read
