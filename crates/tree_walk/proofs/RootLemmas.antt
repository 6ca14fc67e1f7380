-- The roots, as they are looked at one after the other.
use Rattle.path_scope.specs.Scope.{Scope}
use Rattle.std.proofs.Common.{◌≡◌, ℕ, ◌+◌, inl, inr, Bool, true, false, cond, List, [], ◌∷◌, ◌++◌, length}
use Rattle.std.proofs.Common.{Some, None, is_some, IsSome, Result, MatchResult, Contains, refl, sym, ◌∙◌, ap}
use Rattle.std.proofs.Common.{subst}
use Rattle.std.specs.Prelude.{if◌then◌else◌}
use Rattle.std.proofs.lemmas.Bool.{false≢true, and_from}
use Rattle.std.proofs.lemmas.List.{length_push}
use Rattle.std.proofs.lemmas.List.Elements.{Contains-push_cases}
use Rattle.std.proofs.lemmas.List.Folds.{list_all-append}
use Rattle.row_types.specs.Canon.{IsCanonPath}
use Rattle.tree_trait.specs.Heard.{Heard, stat}
use Rattle.tree_trait.specs.declared.stat.StatAnswer.{StatAnswer}
use Rattle.tree_trait.specs.declared.stat.StatAnswer.TheVariants.{Folder, File, Gone, Failed, OutOfMemory as LookMemory}
use Rattle.tree_walk.specs.Answers.{is_look_answer, first_look, is_found}
use Rattle.tree_walk.specs.Ends.{IsWithinLimits, IsRootGone, IsCause, StopsAtLast}
use Rattle.tree_walk.specs.Calls.{HearsLook}
use Rattle.tree_walk.specs.Kept.{IsSearch, kept_as}
use Rattle.tree_walk.specs.Search.{SearchFacts, has_path, is_path_looked, search_after, with_root, with_new_root, NotesAnswer}
use Rattle.tree_walk.specs.Underway.{AreLooked, AreFirstRootsSeen}
use Rattle.tree_walk.specs.Walked.{AsksDue}
use Rattle.tree_walk.specs.declared.fault.WalkFault.{WalkFault}
use Rattle.tree_walk.specs.declared.fault.WalkFault.TheVariants.{OutOfMemory}
use Rattle.tree_walk.proofs.EndLemmas.{room_is, adds_ends, too_many_is}
use Rattle.tree_walk.proofs.LastLemmas.{looks_next, root_among, root_last}
use Rattle.tree_walk.proofs.AnswerLemmas.{look_here, looked_now, looked_stays, after_look, look_again}
use Rattle.tree_walk.proofs.SetLemmas.{same, same-Decides}
use Rattle.tree_walk.proofs.EntrySteps.{folder_step, folder_known, folder_stays}
use Rattle.tree_walk.proofs.LookLemmas.{IsLookDue, note_step, again_step, is_looked_is}

-- something is there where the look was answered and didn't say otherwise
there_from_answer : (answer : StatAnswer) → is_look_answer answer ≡ true → (answer ≡ Gone → ⊥)
    → is_found answer ≡ true
there_from_answer Gone ok there = absurd (there refl)
there_from_answer Failed ok there = absurd (false≢true ok)
there_from_answer LookMemory ok there = absurd (false≢true ok)
there_from_answer _ ok there = refl

-- what a root's first look makes of the search
record IsRootNoted (answers : List Heard) (scope : Scope) (search next : SearchFacts)
    (path : List ℕ) : Type 0 where
  search_is : IsSearch answers scope next [] []
  keeps : (p : List ℕ) → has_path search.folders p ≡ true → has_path next.folders p ≡ true
  adds : first_look answers path ≡ Some Folder → has_path next.folders path ≡ true

-- a folder is kept as one, and nothing else is
folder_back : (answer : StatAnswer) (takes : Bool) → kept_as answer takes ≡ Folder → answer ≡ Folder
folder_back (File stamp) true e = cc
folder_back (File stamp) false e = cc
folder_back _ takes e = e

root_noted : {answers : List Heard} {scope : Scope} (search : SearchFacts) {path : List ℕ}
    (answer noted : StatAnswer) → noted ≡ kept_as answer (scope.takes path) → Contains scope.roots path
    → IsCanonPath path → first_look answers path ≡ Some answer
    → IsSearch answers scope (search_after search path noted) [] []
    → IsRootNoted answers scope search (with_root search path noted) path
root_noted {scope} search {path} answer Folder is r kept here s = record {
  search_is = folder_step s
      (inl (record {
        root = r;
        folder = here ∙ ap (λ (a : StatAnswer). Some a) (folder_back answer (scope.takes path) (sym is));
      })) kept;
  keeps = λ p h. folder_stays (search_after search path Folder) path p h;
  adds = λ h. folder_known (search_after search path Folder) path;
}
root_noted {scope} search {path} answer noted is r kept here s =
    record {
      search_is = s;
      keeps = λ p h. h;
      adds = λ h. let e : Some answer ≡ Some Folder = sym here ∙ h in
          let a : answer ≡ Folder = cc in
          let n : noted ≡ Folder = is ∙ ap (λ (x : StatAnswer). kept_as x (scope.takes path)) a in
          cc;
    }

-- what a look at a root makes of the search
record IsRootStep (answers : List Heard) (scope : Scope) (seen : List (List ℕ)) (search : SearchFacts) : Type 0 where
  search_is : IsSearch answers scope search [] []
  looked : AreLooked answers scope seen search

-- one more root was looked at
looked_push : {answers : List Heard} {scope : Scope} {seen : List (List ℕ)} {search next : SearchFacts} (path : List ℕ)
    (answer : StatAnswer) → AreLooked answers scope seen search → is_look_answer answer ≡ true
    → ((p : List ℕ) → Contains scope.roots p → first_look (answers ++ stat path answer ∷ []) p ≡ Some Folder
    → has_path next.folders p ≡ true)
    → AreLooked (answers ++ stat path answer ∷ []) scope (seen ++ path ∷ []) next
looked_push {answers} {seen} path answer looked ok folders =
    let more : List Heard = stat path answer ∷ [] in
    record {
      looked = λ p c. elim (Contains-push_cases seen path p c) [
        | inl before ↦ looked_stays answers more p (looked.looked p before)
        | inr one ↦ subst (λ (q : List ℕ). IsSome (first_look (answers ++ more) q)) one
            (looked_now answers path answer ok)
      ];
      folders = folders;
    }

root_new : {answers : List Heard} {scope : Scope} {seen : List (List ℕ)} {search next : SearchFacts} {path : List ℕ}
    {answer : StatAnswer} → AreLooked answers scope seen search → IsLookDue answers scope path answer
    → first_look answers path ≡ None
    → IsRootNoted (answers ++ stat path answer ∷ []) scope search next path
    → IsRootStep (answers ++ stat path answer ∷ []) scope (seen ++ path ∷ []) next
root_new {answers} {next} {path} {answer} looked due fresh noted_root = record {
  search_is = noted_root.search_is;
  looked = looked_push path answer looked due.answered
      (λ p r h. elim (same p path) as (λ v. same p path ≡ v → has_path next.folders p ≡ true) [
        | true ↦ λ e.
            let one : p ≡ path = (same-Decides p path).0 e in
            subst (λ (q : List ℕ). has_path next.folders q ≡ true) (sym one)
            (noted_root.adds (subst (λ (q : List ℕ). first_look
            (answers ++ stat path answer ∷ []) q ≡ Some Folder) one h))
        | false ↦ λ e. noted_root.keeps p
            (looked.folders p r (sym
            (after_look answers path answer due.answered fresh p
            ∙ ap (λ (b : Bool). cond b (Some answer) (first_look answers p)) e) ∙ h))
      ] refl);
}

root_step : {answers : List Heard} {scope : Scope} {seen : List (List ℕ)} {search : SearchFacts} {path : List ℕ}
    {answer : StatAnswer}
    → IsSearch answers scope search [] [] → AreLooked answers scope seen search → Contains scope.roots path
    → IsLookDue answers scope path answer
    → IsRootStep (answers ++ stat path answer ∷ []) scope (seen ++ path ∷ [])
    (with_new_root search path (kept_as answer (scope.takes path)))
root_step {answers} {scope} {seen} {search} {path} {answer} s looked r due =
    let later : List Heard = answers ++ stat path answer ∷ [] in
    let noted : StatAnswer = kept_as answer (scope.takes path) in
    let asked : is_path_looked search path ≡ is_some (first_look answers path) = is_looked_is path s in
    elim (first_look answers path) as (λ o. first_look answers path ≡ o
    → IsRootStep later scope (seen ++ path ∷ []) (with_new_root search path noted)) [
      | None ↦ λ e.
          let noted_root = root_noted search answer noted refl r due.kept (look_here answers path answer due.answered e)
          (note_step s due e) in
          subst (λ (b : Bool). IsRootStep later scope (seen ++ path ∷ [])
          (if b then search else with_root search path noted)) (sym (asked ∙ ap is_some e))
          (root_new looked due e noted_root)
      | Some known ↦ λ e.
          subst (λ (b : Bool). IsRootStep later scope (seen ++ path ∷ [])
          (if b then search else with_root search path noted)) (sym (asked ∙ ap is_some e))
          (record {
            search_is = again_step s due e;
            looked = looked_push path answer looked due.answered
                (λ p c h. looked.folders p c (sym (look_again answers path answer e p) ∙ h));
          })
    ] refl

-- how a look at a root that is there ends
pub root_ends : {V : Type 0} {answers more : List Heard} {scope : Scope} {seen : List (List ℕ)} {search : SearchFacts}
    {path : List ℕ} {answer : StatAnswer} (result : Result V WalkFault) (now : SearchFacts)
    (after : List (List ℕ))
    → AreFirstRootsSeen answers scope seen search → scope.roots ≡ seen ++ path ∷ after → IsCanonPath path
    → HearsLook path more answer → (answer ≡ Gone → ⊥)
    → NotesAnswer (with_new_root search path (kept_as answer (scope.takes path))) now result
    → MatchResult result (λ _. AreFirstRootsSeen (answers ++ more) scope (seen ++ path ∷ []) now)
    (IsCause (answers ++ more) scope)
root_ends {answers} {scope} {seen} {search} {path} {answer} result now after b split kept look there added =
    let r : Contains scope.roots path = root_among scope seen after path split in
    let due : IsLookDue answers scope path answer =
    record { candidate = inl r; kept = kept; answered = look.answered; there = λ _. there } in
    let step = root_step b.search_is b.looked r due in
    let e : length b.given ≡ length seen = b.each in
    subst (λ (m : List Heard). MatchResult result
    (λ _. AreFirstRootsSeen (answers ++ m) scope (seen ++ path ∷ []) now) (IsCause (answers ++ m) scope))
    (sym look.heard)
    (adds_ends result (with_new_root search path (kept_as answer (scope.takes path))) now
    (λ next. AreFirstRootsSeen (answers ++ stat path answer ∷ []) scope (seen ++ path ∷ []) next) added
    (λ few. record {
      search_is = step.search_is;
      few = few;
      looked = step.looked;
      given = b.given ++ answer ∷ [];
      each = length_push b.given answer ∙ ap (λ (n : ℕ). n + 1) e ∙ sym (length_push seen path);
      there = list_all-append is_found b.given (answer ∷ [])
          ∙ and_from _ _ b.there (and_from _ true (there_from_answer answer look.answered there) refl);
      first = ap (λ (h : List Heard). h ++ stat path answer ∷ []) b.first
          ∙ sym (looks_next seen [] b.given path answer b.each);
    })
    (root_last after answer b split kept tt)
    (λ many. too_many_is (root_last after answer b split kept tt) step.search_is many))

-- nothing is at a root
pub root_gone : {answers more : List Heard} {scope : Scope} {seen : List (List ℕ)} {search : SearchFacts}
    {path : List ℕ} (after : List (List ℕ)) → AreFirstRootsSeen answers scope seen search
    → scope.roots ≡ seen ++ path ∷ after → IsCanonPath path → more ≡ stat path Gone ∷ []
    → IsRootGone (answers ++ more) scope path
root_gone {answers} {scope} {seen} {path} after b split kept heard = record {
  before = seen;
  after = after;
  given = b.given;
  split = split;
  each = b.each;
  there = b.there;
  room = subst (λ (h : List Heard). IsWithinLimits h scope) b.first (room_is b.search_is b.few);
  heard = ap (λ (m : List Heard). answers ++ m) heard
      ∙ ap (λ (h : List Heard). h ++ stat path Gone ∷ []) b.first;
  asked = subst (λ (m : List Heard). AsksDue (answers ++ m) scope) (sym heard)
      (root_last {Stops = λ last. Unit {0}} after Gone b split kept tt).asked;
}

-- a root was looked at, and then memory was refused
pub root_memory : {answers more : List Heard} {scope : Scope} {seen : List (List ℕ)} {search : SearchFacts}
    {path : List ℕ} {answer : StatAnswer} (after : List (List ℕ)) → AreFirstRootsSeen answers scope seen search
    → scope.roots ≡ seen ++ path ∷ after → IsCanonPath path → more ≡ stat path answer ∷ []
    → IsCause (answers ++ more) scope OutOfMemory
root_memory {answers} {scope} {answer} after b split kept heard =
    inr (subst (λ (m : List Heard). StopsAtLast (answers ++ m) scope (λ last. Unit {0})) (sym heard)
    (root_last after answer b split kept tt))
