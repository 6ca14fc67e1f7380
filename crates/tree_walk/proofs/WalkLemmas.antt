-- How a walk ends.
use Rattle.path_scope.specs.Scope.{Scope}
use Rattle.std.proofs.Common.{◌≡◌, ℕ, ◌<◌, inl, inr, Bool, List, [], length, Result, Ok, Err, IfOk, IfErr}
use Rattle.std.proofs.Common.{IsTrue, MatchResult, All, sym, subst}
use Rattle.std.proofs.lemmas.List.Elements.{All-weaker}
use Rattle.row_types.specs.Faults.{summed}
use Rattle.row_types.specs.Name.{NameFacts}
use Rattle.tree_trait.specs.Asks.{IsAnswerTold}
use Rattle.tree_trait.specs.Found.{Versions}
use Rattle.tree_trait.specs.Heard.{Heard, load, stat, read_dir, open_file, read_at}
use Rattle.tree_trait.specs.Shown.{ShownTree, HandsOn, StaysStill}
use Rattle.tree_walk.specs.Ends.{EndsWalk, IsAskedUnder, IsCause, IsWholeWalk, WalksTree}
use Rattle.tree_walk.specs.Files.{AreFilesUnder}
use Rattle.tree_walk.specs.Search.{SearchFacts, search_names}
use Rattle.tree_walk.specs.Underway.{IsUnderway}
use Rattle.tree_walk.specs.declared.fault.WalkFault.{WalkFault}
use Rattle.tree_walk.specs.Walked.{IsAskDue}
use Rattle.tree_walk.specs.declared.fault.WalkFault.TheVariants.{Failed, TooMany, TooManyEntries, RootGone}
use Rattle.tree_walk.specs.declared.fault.WalkFault.TheVariants.{OutOfMemory}
use Rattle.tree_walk.specs.declared.walked.Walk.{Walk}
use Rattle.tree_walk.proofs.EndLemmas.{whole_is}
use Rattle.tree_walk.proofs.LastLemmas.{underway_between}
use Rattle.tree_walk.proofs.PresentLemmas.{files_are}
use Rattle.tree_walk.proofs.ReachLemmas.{folder_reached}
use Rattle.tree_walk.proofs.ToldLemmas.{candidate_within, reached_within}

-- with all folders read
pub walk_ended : {answers : List Heard} {scope : Scope} {search : SearchFacts}
    (result : Result Walk WalkFault) → IsUnderway answers scope search [] [] → search.todo ≡ []
    → IfOk result (λ walk. walk.listing ≡ search_names search.files)
    → IfOk result (λ walk. walk.skipped ≡ summed search.skipped (length search.long))
    → IfErr result (λ fault. fault ≡ OutOfMemory)
    → MatchResult result (IsWholeWalk answers scope) (IsCause answers scope)
walk_ended (Ok walk) u empty listing skipped memory = whole_is walk u empty listing skipped
walk_ended {answers} {scope} (Err fault) u empty listing skipped memory =
    subst (IsCause answers scope) (sym memory) (inl (underway_between u))

-- what was due is under the roots
due_under : (answers : List Heard) (scope : Scope) (h : Heard) → IsAskDue answers scope h
    → IsAskedUnder scope h
due_under answers scope (load path limit answer) due = due
due_under answers scope (stat path answer) due = candidate_within answers scope path due.0
due_under answers scope (read_dir path answer) due = reached_within (folder_reached answers scope path due.0)
due_under answers scope (open_file path limit answer) due = due
due_under answers scope (read_at name at answer) due = due

all_under : (answers : List Heard) (scope : Scope) → All (IsAskDue answers scope) answers
    → All (IsAskedUnder scope) answers
all_under answers scope due =
    All-weaker (IsAskDue answers scope) (IsAskedUnder scope) (due_under answers scope) answers due

cause_under : (answers : List Heard) (scope : Scope) (fault : WalkFault) → IsCause answers scope fault
    → All (IsAskedUnder scope) answers
cause_under answers scope Failed end = all_under answers scope end.asked.due
cause_under answers scope TooMany end = all_under answers scope end.last.asked.due
cause_under answers scope TooManyEntries end = all_under answers scope end.last.asked.due
cause_under answers scope (RootGone path) end = all_under answers scope end.asked.due
cause_under answers scope OutOfMemory (inl between) = all_under answers scope between.asked.due
cause_under answers scope OutOfMemory (inr last) = all_under answers scope last.asked.due

-- whatever its end, a walk asks nothing else
pub walks_by : {told : Bool} {before after : ShownTree} {scope : Scope} (result : Result Walk WalkFault)
    → EndsWalk told before after scope result → WalksTree told before after scope result
walks_by {scope} (Ok walk) w = record { goes = w; under = all_under w.more scope w.ends.once.due }
walks_by {scope} (Err fault) w = record { goes = w; under = cause_under w.more scope fault w.ends }

-- the listing of a tree that is told and still
pub files_of : {told : Bool} {version : Versions} {before after : ShownTree} {scope : Scope}
    {Fails : Type 0} (result : Result Walk WalkFault) → WalksTree told before after scope result
    → HandsOn told version before after (0 < length scope.roots) Fails
    → IsTrue told → before.Still → IfOk result (λ walk. AreFilesUnder before.present scope walk.listing)
files_of (Err fault) w hands t s = tt
files_of {version} {before} {after} {scope} (Ok walk) w hands t s =
    let stays : StaysStill before after = hands.still s in
    subst (λ (names : List NameFacts). AreFilesUnder names scope walk.listing) stays.same
    (files_are {version = version} {tree = after} w.goes.ends
    (subst (λ (names : List NameFacts). All (IsAnswerTold names) w.goes.more) (sym stays.same)
    (w.goes.tells t s)) stays.still (hands.known t))
