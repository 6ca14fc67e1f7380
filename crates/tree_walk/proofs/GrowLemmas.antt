-- What is kept agrees with more answers too.
use Rattle.path_scope.specs.Scope.{Scope}
use Rattle.std.proofs.Common.{◌≡◌, ℕ, ◌+◌, ◌-◌, ◌^◌, ◌≤◌, inl, inr, min, true, false, List, [], ◌∷◌, ◌++◌}
use Rattle.std.proofs.Common.{Bool, length, IsSome, MatchBool, Contains, refl, ◌∙◌, ap, subst, arith}
use Rattle.std.specs.Prelude.{nat_lt, count_by}
use Rattle.std.specs.Str.{bytes_eq}
use Rattle.std.proofs.lemmas.Bool.{and_from}
use Rattle.std.proofs.lemmas.List.Elements.{Contains-push_cases}
use Rattle.std.proofs.lemmas.List.Folds.{list_all-append}
use Rattle.std.proofs.lemmas.List.Sums.{sum_by_push}
use Rattle.row_types.specs.declared.limits.TheConstants.{PATH_LIMIT}
use Rattle.tree_trait.specs.Dir.{child}
use Rattle.tree_trait.specs.Entry.{EntryFacts, has_entry}
use Rattle.tree_trait.specs.Heard.{Heard, stat}
use Rattle.tree_trait.specs.declared.entry.EntryKind.{EntryKind}
use Rattle.tree_trait.specs.declared.entry.EntryKind.TheVariants as kind
use Rattle.tree_trait.specs.declared.stat.StatAnswer.{StatAnswer}
use Rattle.tree_trait.specs.declared.stat.StatAnswer.TheVariants.{Gone}
use Rattle.tree_walk.specs.Answers.{is_answered, first_look, entries_in, listed_count, passed_over, times_read}
use Rattle.tree_walk.specs.Kept.{IsEntryMet, IsSeenTo, AreSeenTo, AreAnswered, AreFolders, AreLong, IsPaid}
use Rattle.tree_walk.specs.Search.{has_path}
use Rattle.tree_walk.specs.Walked.{IsAskDue}
use Rattle.tree_walk.proofs.AnswerLemmas.{one_if, times_past_look}
use Rattle.tree_walk.proofs.ReachLemmas.{reached_more, folder_more, due_push}

-- later answers and sets know all that earlier ones knew
pub record Grows (answers later : List Heard) (known next long longer : List (List ℕ)) : Type 0 where
  pub folders : (path : List ℕ) → has_path known path ≡ true → has_path next path ≡ true
  pub too_long : (path : List ℕ) → has_path long path ≡ true → has_path longer path ≡ true
  pub looks : (path : List ℕ) → IsSome (first_look answers path) → IsSome (first_look later path)

met_more : {answers later : List Heard} (takes : List ℕ → Bool) {known next long longer : List (List ℕ)} (path : List ℕ)
    (k : EntryKind) → Grows answers later known next long longer → IsEntryMet answers takes known path k
    → IsEntryMet later takes next path k
met_more takes path kind.Folder g h = g.folders path h
met_more takes path kind.File g h = λ taken. g.looks path (h taken)
met_more takes path kind.Other g h = h

pub settled_more : {answers later : List Heard} (takes : List ℕ → Bool) {known next long longer : List (List ℕ)} (path : List ℕ)
    (k : EntryKind) → Grows answers later known next long longer
    → IsSeenTo answers takes known long path k → IsSeenTo later takes next longer path k
settled_more {answers} {later} takes {known} {next} {long} {longer} path k g h =
    elim (nat_lt PATH_LIMIT (length path)) as (λ v. MatchBool v (has_path long path ≡ true)
    (IsEntryMet answers takes known path k) → MatchBool v (has_path longer path ≡ true) (IsEntryMet later takes next path k))
    [ true ↦ λ s. g.too_long path s | false ↦ λ s. met_more takes path k g s ] h

-- what was seen to stays so, and nothing is new to be seen to
pub seen_more : {answers later : List Heard} {takes : List ℕ → Bool} {known next long longer : List (List ℕ)} {folder : List ℕ}
    {rest : List EntryFacts} → Grows answers later known next long longer
    → ((at : List ℕ) → entries_in later at ≡ entries_in answers at)
    → AreSeenTo answers takes known long folder rest → AreSeenTo later takes next longer folder rest
seen_more {takes} g stays seen = record {
  each = λ at entry h.
      elim (seen.each at entry (subst (λ (es : List EntryFacts). has_entry es entry ≡ true) (stays at) h)) [
        | inl s ↦ inl (settled_more takes (child at entry.name) entry.kind g s)
        | inr p ↦ inr p
      ];
}

-- one more was asked, which was due, and was answered
pub answered_push : {answers : List Heard} {scope : Scope} (h : Heard) → AreAnswered answers scope
    → IsAskDue (answers ++ h ∷ []) scope h → is_answered h ≡ true
    → ((path : List ℕ) → Contains scope.roots path → h ≡ stat path Gone → ⊥) → AreAnswered (answers ++ h ∷ []) scope
answered_push {answers} {scope} h asked due ok there = record {
  due = due_push answers scope h asked.due due;
  answered = list_all-append is_answered answers (h ∷ [])
      ∙ and_from _ _ asked.answered (and_from _ true ok refl);
  there = λ path r c. elim
      (Contains-push_cases answers h
      (stat path Gone) c) [ inl before ↦ asked.there path r before | inr last ↦ there path r last ];
}

-- a look reads no folder
pub folders_look : {answers : List Heard} {scope : Scope} {known todo : List (List ℕ)} (path : List ℕ)
    (answer : StatAnswer) → AreFolders answers scope known todo
    → AreFolders (answers ++ stat path answer ∷ []) scope known todo
folders_look {answers} {scope} {todo} path answer f = record {
  due = λ p h. (folder_more answers (stat path answer ∷ []) scope p (f.due p h).0, (f.due p h).1);
  counts = λ p. ap (λ (n : ℕ). n + count_by (bytes_eq p) todo) (times_past_look answers path answer p)
      ∙ f.counts p;
}

-- no folder was read twice
pub few_of : {answers : List Heard} {scope : Scope} {known todo : List (List ℕ)} → AreFolders answers scope known todo
    → (path : List ℕ) → times_read answers path ≤ 1
few_of {answers} {known} {todo} f path =
    let all = f.counts path in
    elim (has_path known path) as (λ b. times_read answers path + count_by (bytes_eq path) todo ≡ one_if b
    → times_read answers path ≤ 1) [ true ↦ λ e. omega arith | false ↦ λ e. omega arith ] all

-- what is too long stays so
pub long_more : {answers : List Heard} {scope : Scope} {paths : List (List ℕ)} (more : List Heard)
    → AreLong answers scope paths → AreLong (answers ++ more) scope paths
long_more more l = record { each = λ p h. (reached_more more (l.each p h).0, (l.each p h).1); apart = l.apart }

-- one more answer is paid
pub paid_push : {answers : List Heard} {spare over left skipped : ℕ} (h : Heard) → IsPaid answers spare over
    → left + listed_count h ≡ spare → skipped ≡ min (over + passed_over h) (2 ^ 64 - 1)
    → IsPaid (answers ++ h ∷ []) left skipped
paid_push {answers} h paid cost skip =
    let read = sum_by_push listed_count answers h in
    let passed = sum_by_push passed_over answers h in
    let was = paid.left in
    let had = paid.skipped in
    record { left = omega (arith, read, was, cost); skipped = omega (arith, passed, had, skip) }
