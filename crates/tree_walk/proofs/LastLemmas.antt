-- The last call of a walk, with what was asked before it.
use Rattle.path_scope.specs.Scope.{Scope}
use Rattle.std.proofs.Common.{◌≡◌, ℕ, ◌≤◌, inl, inr, List, [], ◌∷◌, ◌++◌, length, Contains, refl, sym, ◌∙◌}
use Rattle.std.proofs.Common.{ap, subst, append_assoc, arith}
use Rattle.std.proofs.lemmas.List.Elements.{Contains-append_right}
use Rattle.row_types.specs.Canon.{IsCanonPath}
use Rattle.scan_queue.specs.declared.listing.TheConstants.{LISTING_LIMIT}
use Rattle.tree_trait.specs.Dir.{DirFacts}
use Rattle.tree_trait.specs.Entry.{EntryFacts}
use Rattle.tree_trait.specs.Heard.{Heard, stat, read_dir}
use Rattle.tree_trait.specs.declared.stat.StatAnswer.{StatAnswer}
use Rattle.tree_walk.specs.Answers.{looks}
use Rattle.tree_walk.specs.Ends.{BeginsWithRoots, LooksAtRoots, StopsAtLast, StopsBetween}
use Rattle.tree_walk.specs.Kept.{IsSearch}
use Rattle.tree_walk.specs.Search.{SearchFacts, with_last}
use Rattle.tree_walk.specs.Underway.{AreFirstRootsSeen, IsUnderway}
use Rattle.tree_walk.specs.Walked.{IsCandidate, AsksDue}
use Rattle.tree_walk.proofs.EndLemmas.{room_is}
use Rattle.tree_walk.proofs.GrowLemmas.{few_of, folders_look}
use Rattle.tree_walk.proofs.ReachLemmas.{candidate_more, due_push}
use Rattle.tree_walk.proofs.ReadLemmas.{read_due, folders_read}

-- one more look, in order; the paths after it aren't looked at yet
pub looks_next : (paths after : List (List ℕ)) (given : List StatAnswer) (path : List ℕ)
    (answer : StatAnswer) → length given ≡ length paths
    → looks (paths ++ path ∷ after) (given ++ answer ∷ []) ≡ looks paths given ++ stat path answer ∷ []
looks_next [] [] [] path answer e = refl
looks_next [] (q ∷ after) [] path answer e = refl
looks_next [] after (a ∷ given) path answer e = absurd (omega (arith, e))
looks_next (p ∷ paths) after [] path answer e = absurd (omega (arith, e))
looks_next (p ∷ paths) after (a ∷ given) path answer e =
    ap (λ t. stat p a ∷ t) (looks_next paths after given path answer (omega (arith, e)))

-- the paths after those that were looked at aren't looked at yet
looks_so_far : (paths after : List (List ℕ)) (given : List StatAnswer) → length given ≡ length paths
    → looks paths given ≡ looks (paths ++ after) given
looks_so_far [] [] [] e = refl
looks_so_far [] (q ∷ after) [] e = refl
looks_so_far [] after (a ∷ given) e = absurd (omega (arith, e))
looks_so_far (p ∷ paths) after [] e = absurd (omega (arith, e))
looks_so_far (p ∷ paths) after (a ∷ given) e =
    ap (λ t. stat p a ∷ t) (looks_so_far paths after given (omega (arith, e)))

-- a root is among the roots
pub root_among : (scope : Scope) (seen after : List (List ℕ)) (path : List ℕ)
    → scope.roots ≡ seen ++ path ∷ after → Contains scope.roots path
root_among scope seen after path split =
    subst (λ (rs : List (List ℕ)). Contains rs path) (sym split)
    (Contains-append_right seen (path ∷ after) path (0, omega arith, refl))

-- what began with the roots still does
pub begins_more : {answers : List Heard} (more : List Heard) {scope : Scope}
    → BeginsWithRoots answers scope → BeginsWithRoots (answers ++ more) scope
begins_more more b = record {
  given = b.given;
  rest = b.rest ++ more;
  each = b.each;
  there = b.there;
  first = ap (λ (h : List Heard). h ++ more) b.first ∙ append_assoc _ b.rest more;
}

-- a call that was due ends the walk
stops_at : {answers : List Heard} {scope : Scope} {search : SearchFacts} {folder : List ℕ}
    {rest : List EntryFacts} {Stops : Heard → Type 0} (h : Heard) → IsSearch answers scope search folder rest
    → length search.files ≤ LISTING_LIMIT
    → LooksAtRoots (answers ++ h ∷ []) scope → AsksDue (answers ++ h ∷ []) scope → Stops h
    → StopsAtLast (answers ++ h ∷ []) scope Stops
stops_at {answers} h s few first asked stops =
    record {
      first = first;
      asked = asked;
      earlier = answers;
      last = h;
      split = refl;
      room = room_is s few;
      stops = stops;
    }

-- with a look that was due, whatever it answers, only what was due was asked, and no folder twice
look_asked : {answers : List Heard} {scope : Scope} {search : SearchFacts} {folder : List ℕ}
    {rest : List EntryFacts} {path : List ℕ} (answer : StatAnswer)
    → IsSearch answers scope search folder rest → IsCandidate answers scope path → IsCanonPath path
    → AsksDue (answers ++ stat path answer ∷ []) scope
look_asked {answers} {scope} {path} answer s candidate kept = record {
  due = due_push answers scope (stat path answer) s.asked.due
      (candidate_more answers (stat path answer ∷ []) scope path candidate, kept);
  few = few_of (folders_look path answer s.known);
}

-- memory was refused between two calls
stops_between : {answers : List Heard} {scope : Scope} {search : SearchFacts} {folder : List ℕ}
    {rest : List EntryFacts} → IsSearch answers scope search folder rest
    → length search.files ≤ LISTING_LIMIT → LooksAtRoots answers scope → StopsBetween answers scope
stops_between s few first = record {
  first = first;
  asked = record { due = s.asked.due; few = few_of s.known };
  room = room_is s few;
}

-- before all roots were looked at
pub root_between : {answers : List Heard} {scope : Scope} {seen : List (List ℕ)} {search : SearchFacts}
    (path : List ℕ) (after : List (List ℕ)) → AreFirstRootsSeen answers scope seen search
    → scope.roots ≡ seen ++ path ∷ after → StopsBetween answers scope
root_between {answers} {scope} {seen} path after b split =
    let first : answers ≡ looks scope.roots b.given =
    b.first ∙ looks_so_far seen (path ∷ after) b.given b.each
    ∙ ap (λ (rs : List (List ℕ)). looks rs b.given) (sym split) in
    stops_between b.search_is b.few (inr (b.given, first))

-- or as folders are read
pub underway_between : {answers : List Heard} {scope : Scope} {search : SearchFacts} {folder : List ℕ}
    {rest : List EntryFacts} → IsUnderway answers scope search folder rest → StopsBetween answers scope
underway_between u = stops_between u.search_is u.few (inl u.first)

-- a look at the next root
pub root_last : {answers : List Heard} {scope : Scope} {seen : List (List ℕ)} {search : SearchFacts} {path : List ℕ}
    {Stops : Heard → Type 0} (after : List (List ℕ)) (answer : StatAnswer)
    → AreFirstRootsSeen answers scope seen search → scope.roots ≡ seen ++ path ∷ after → IsCanonPath path
    → Stops (stat path answer) → StopsAtLast (answers ++ stat path answer ∷ []) scope Stops
root_last {answers} {scope} {seen} {path} after answer b split kept stops =
    let given : List StatAnswer = b.given ++ answer ∷ [] in
    let first : answers ++ stat path answer ∷ [] ≡ looks scope.roots given =
    ap (λ (h : List Heard). h ++ stat path answer ∷ []) b.first
    ∙ sym (looks_next seen after b.given path answer b.each)
    ∙ ap (λ (rs : List (List ℕ)). looks rs given) (sym split) in
    stops_at (stat path answer) b.search_is b.few (inr (given, first))
    (look_asked answer b.search_is (inl (root_among scope seen after path split)) kept) stops

-- a look at a file
pub look_last : {answers : List Heard} {scope : Scope} {search : SearchFacts} {folder : List ℕ}
    {rest : List EntryFacts} {path : List ℕ} {Stops : Heard → Type 0} (answer : StatAnswer)
    → IsUnderway answers scope search folder rest → IsCandidate answers scope path → IsCanonPath path
    → Stops (stat path answer) → StopsAtLast (answers ++ stat path answer ∷ []) scope Stops
look_last {path} answer u candidate kept stops =
    stops_at (stat path answer) u.search_is u.few (inl (begins_more (stat path answer ∷ []) u.first))
    (look_asked answer u.search_is candidate kept) stops

-- the reading of the next folder
pub read_last : {answers : List Heard} {scope : Scope} {Stops : Heard → Type 0} (search : SearchFacts)
    (path : List ℕ) (answer : DirFacts) → IsUnderway answers scope (with_last search path) [] []
    → Stops (read_dir path answer)
    → StopsAtLast (answers ++ read_dir path answer ∷ []) scope Stops
read_last search path answer u stops =
    stops_at (read_dir path answer) u.search_is u.few (inl (begins_more (read_dir path answer ∷ []) u.first))
    (record {
      due = read_due search path answer u.search_is;
      few = few_of (folders_read search.todo path answer u.search_is.known);
    }) stops
