-- What is reached by answers is reached by more of them.
use Rattle.path_scope.specs.Scope.{Scope}
use Rattle.std.proofs.Common.{◌≡◌, ℕ, inl, inr, List, [], ◌∷◌, ◌++◌, All, Some, subst}
use Rattle.std.proofs.lemmas.List.Elements.{All-contains, All-push, All-weaker}
use Rattle.row_types.specs.Canon.{IsCanonPath}
use Rattle.tree_trait.specs.Heard.{Heard, load, stat, read_dir, open_file, read_at}
use Rattle.tree_trait.specs.declared.entry.EntryKind.{EntryKind}
use Rattle.tree_trait.specs.declared.entry.EntryKind.TheVariants as kind
use Rattle.tree_trait.specs.declared.stat.StatAnswer.{StatAnswer}
use Rattle.tree_walk.specs.Answers.{first_look, look_at}
use Rattle.tree_walk.specs.Walked.{IsNamed, IsReached, root, entry, IsEntry, IsFolder, IsCandidate, IsAskDue}
use Rattle.tree_walk.proofs.AnswerLemmas.{entries_stay, look_stays, look_says}
use Rattle.tree_walk.proofs.FirstLemmas.{place_of_first}

named_more : {answers : List Heard} (more : List Heard) {folder : List ℕ} {k : EntryKind} {path : List ℕ}
    → IsNamed answers folder k path → IsNamed (answers ++ more) folder k path
named_more {answers} more {folder} {k} n = record {
  name = n.name;
  listed = entries_stay answers more folder (record { name = n.name; kind = k }) n.listed;
  joined = n.joined;
}

pub reached_more : {answers : List Heard} (more : List Heard) {scope : Scope} {path : List ℕ}
    → IsReached answers scope path → IsReached (answers ++ more) scope path
reached_more more (root p c) = root p c
reached_more more (entry folder p k r n) = entry folder p k (reached_more more r) (named_more more n)

pub entry_more : {answers : List Heard} (more : List Heard) {scope : Scope} {k : EntryKind}
    {path : List ℕ} → IsEntry answers scope k path → IsEntry (answers ++ more) scope k path
entry_more more e = record {
  folder = e.folder;
  reached = reached_more more e.reached;
  named = named_more more e.named;
}

pub folder_more : (answers more : List Heard) (scope : Scope) (path : List ℕ)
    → IsFolder answers scope path → IsFolder (answers ++ more) scope path
folder_more answers more scope path (inl r) =
    inl (record { root = r.root; folder = look_stays answers more path r.folder })
folder_more answers more scope path (inr e) = inr (entry_more more e)

pub candidate_more : (answers more : List Heard) (scope : Scope) (path : List ℕ)
    → IsCandidate answers scope path → IsCandidate (answers ++ more) scope path
candidate_more answers more scope path (inl r) = inl r
candidate_more answers more scope path (inr e) = inr (record { at = entry_more more e.at; taken = e.taken })

due_more : (answers more : List Heard) (scope : Scope) (h : Heard) → IsAskDue answers scope h
    → IsAskDue (answers ++ more) scope h
due_more answers more scope (load path limit answer) d = d
due_more answers more scope (stat path answer) d = (candidate_more answers more scope path d.0, d.1)
due_more answers more scope (read_dir path answer) d = (folder_more answers more scope path d.0, d.1)
due_more answers more scope (open_file path limit answer) d = d
due_more answers more scope (read_at name at answer) d = d

-- with one more that was due, all were
pub due_push : (answers : List Heard) (scope : Scope) (h : Heard) → All (IsAskDue answers scope) answers
    → IsAskDue (answers ++ h ∷ []) scope h → All (IsAskDue (answers ++ h ∷ []) scope) (answers ++ h ∷ [])
due_push answers scope h due last =
    let later : List Heard = answers ++ h ∷ [] in
    All-push (IsAskDue later scope) answers h
    (All-weaker (IsAskDue answers scope) (IsAskDue later scope)
    (due_more answers (h ∷ []) scope) answers due) last

-- a folder is reached
pub folder_reached : (answers : List Heard) (scope : Scope) (path : List ℕ)
    → IsFolder answers scope path → IsReached answers scope path
folder_reached answers scope path (inl r) = root path r.root
folder_reached answers scope path (inr e) = entry e.folder path kind.Folder e.reached e.named

-- a look that was answered was due
pub look_was_due : (answers : List Heard) (scope : Scope) → All (IsAskDue answers scope) answers
    → (path : List ℕ) {answer : StatAnswer} → first_look answers path ≡ Some answer
    → IsCandidate answers scope path × IsCanonPath path
look_was_due answers scope due path h =
    let at = place_of_first (look_at path) answers h in
    subst (IsAskDue answers scope)
    (look_says path at.0 at.2).0 (All-contains (IsAskDue answers scope) answers at.0 due at.1)
