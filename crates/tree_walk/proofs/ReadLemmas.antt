-- What is kept agrees with the answers after a folder was read.
use Rattle.path_scope.specs.Scope.{Scope}
use Rattle.std.proofs.Common.{◌≡◌, ℕ, ◌+◌, ◌-◌, ◌^◌, ◌⊎◌, inl, inr, min, Bool, true, false, cond, List, []}
use Rattle.std.proofs.Common.{◌∷◌, ◌++◌, length, Option, Some, None, All, refl, ◌∙◌, ap, subst, arith}
use Rattle.std.specs.Prelude.{count_by}
use Rattle.std.specs.Str.{bytes_eq}
use Rattle.std.proofs.lemmas.Bool.{false≢true}
use Rattle.std.proofs.lemmas.List.Sums.{sum_by_push}
use Rattle.std.proofs.lemmas.Slice.Eq.{bytes_eq-Decides}
use Rattle.row_types.specs.Canon.{IsCanonPath}
use Rattle.tree_trait.specs.Dir.{DirFacts, child}
use Rattle.tree_trait.specs.Entry.{has_entry}
use Rattle.tree_trait.specs.Heard.{Heard, read_dir}
use Rattle.tree_trait.proofs.EntryLemmas.{bytes_back}
use Rattle.tree_walk.specs.Answers.{is_dir_answer, first_reading, listed_entries, entries_in, times_read}
use Rattle.tree_walk.specs.Answers.{passed_over}
use Rattle.tree_walk.specs.Kept.{IsSeenTo, IsPending, AreSeenTo, AreFolders, IsSearch}
use Rattle.tree_walk.specs.Search.{SearchFacts, has_path, with_last}
use Rattle.tree_walk.specs.Walked.{IsFolder, IsAskDue}
use Rattle.tree_walk.proofs.AnswerLemmas.{one_if, looked_stays, after_reading, times_after_reading, unread}
use Rattle.tree_walk.proofs.GrowLemmas.{settled_more, answered_push, long_more, paid_push}
use Rattle.tree_walk.proofs.LookLemmas.{looks_past_reading}
use Rattle.tree_walk.proofs.ReachLemmas.{folder_more, due_push}
use Rattle.tree_walk.proofs.SetLemmas.{same, same-Decides}

-- the next folder is one, and wasn't read
pub record IsNextFolder (answers : List Heard) (scope : Scope) (path : List ℕ) : Type 0 where
  pub is_folder : IsFolder answers scope path
  pub kept : IsCanonPath path
  pub unread : first_reading answers path ≡ None

pub next_folder : {answers : List Heard} {scope : Scope} {known : List (List ℕ)} (todo : List (List ℕ)) (path : List ℕ)
    → AreFolders answers scope known (todo ++ path ∷ []) → IsNextFolder answers scope path
next_folder {answers} {scope} {known} todo path f =
    let push = sum_by_push (λ (q : List ℕ). one_if (bytes_eq path q)) todo path in
    let one : one_if (bytes_eq path path) ≡ 1 = ap one_if ((bytes_eq-Decides path path).1 refl) in
    elim (has_path known path) as (λ v. has_path known path ≡ v → IsNextFolder answers scope path) [
      | true ↦ λ e.
          let all : times_read answers path + count_by (bytes_eq path) (todo ++ path ∷ []) ≡ 1 =
          f.counts path ∙ ap one_if e in
          record {
            is_folder = (f.due path e).0;
            kept = (f.due path e).1;
            unread = unread answers path (omega (arith, push, one, all));
          }
      | false ↦ λ e.
          let all : times_read answers path + count_by (bytes_eq path) (todo ++ path ∷ []) ≡ 0 =
          f.counts path ∙ ap one_if e in
          absurd (omega (arith, push, one, all))
    ] refl

-- its reading is due
pub reading_due : {answers : List Heard} {scope : Scope} (search : SearchFacts) (path : List ℕ)
    (answer : DirFacts) → IsSearch answers scope (with_last search path) [] []
    → IsAskDue (answers ++ read_dir path answer ∷ []) scope (read_dir path answer)
reading_due {answers} {scope} search path answer s =
    let next = next_folder search.todo path s.known in
    (folder_more answers (read_dir path answer ∷ []) scope path next.is_folder, next.kept)

pub read_due : {answers : List Heard} {scope : Scope} (search : SearchFacts) (path : List ℕ)
    (answer : DirFacts) → IsSearch answers scope (with_last search path) [] []
    → All (IsAskDue (answers ++ read_dir path answer ∷ []) scope) (answers ++ read_dir path answer ∷ [])
read_due {answers} {scope} search path answer s =
    due_push answers scope (read_dir path answer) s.asked.due (reading_due search path answer s)

-- it is one of the folders that were read
pub folders_read : {answers : List Heard} {scope : Scope} {known : List (List ℕ)} (todo : List (List ℕ)) (path : List ℕ)
    (answer : DirFacts) → AreFolders answers scope known (todo ++ path ∷ [])
    → AreFolders (answers ++ read_dir path answer ∷ []) scope known todo
folders_read {answers} {scope} {known} todo path answer f = record {
  due = λ p h. (folder_more answers (read_dir path answer ∷ []) scope p (f.due p h).0, (f.due p h).1);
  counts = λ p.
      let push = sum_by_push (λ (q : List ℕ). one_if (bytes_eq p q)) todo path in
      let times = times_after_reading answers path answer p in
      let turned : one_if (bytes_eq path p) ≡ one_if (bytes_eq p path) = ap one_if (bytes_back path p) in
      let all : times_read answers p + count_by (bytes_eq p) (todo ++ path ∷ []) ≡ one_if (has_path known p) =
      f.counts p in
      omega (arith, push, times, turned, all);
}

-- its entries are those of the answer
pub read_entries : {answers : List Heard} {scope : Scope} (search : SearchFacts) (path : List ℕ)
    (answer : DirFacts) → IsSearch answers scope (with_last search path) [] [] → is_dir_answer answer ≡ true
    → entries_in (answers ++ read_dir path answer ∷ []) path ≡ listed_entries (Some answer)
read_entries {answers} search path answer s ok =
    ap listed_entries (after_reading answers path answer ok (next_folder search.todo path s.known).unread path
    ∙ ap (λ (b : Bool). cond b (Some answer) (first_reading answers path)) ((same-Decides path path).1 refl))

-- they are still to be seen to, and all others were
seen_read : {answers : List Heard} {takes : List ℕ → Bool} {known long : List (List ℕ)} (path : List ℕ) (answer : DirFacts)
    → AreSeenTo answers takes known long [] [] → is_dir_answer answer ≡ true → first_reading answers path ≡ None
    → AreSeenTo (answers ++ read_dir path answer ∷ []) takes known long path (listed_entries (Some answer))
seen_read {answers} {takes} {known} {long} path answer seen ok fresh =
    let more : List Heard = read_dir path answer ∷ [] in
    record {
      each = λ at entry h.
          elim (same at path) as (λ v. same at path ≡ v
          → has_entry (listed_entries (cond v (Some answer) (first_reading answers at))) entry ≡ true
          → IsSeenTo (answers ++ more) takes known long (child at entry.name) entry.kind ⊎ IsPending path
          (listed_entries (Some answer)) at entry) [
            | true ↦ λ e t. inr (record { here = (same-Decides at path).0 e; among = t })
            | false ↦ λ e t. elim (seen.each at entry t) [
              | inl done ↦ inl (settled_more {answers = answers} {later = answers ++ more} takes
                  (child at entry.name) entry.kind
                  (record {
                    folders = λ p f. f;
                    too_long = λ p f. f;
                    looks = λ p f. looked_stays answers more p f;
                  }) done)
              | inr pending ↦ absurd (false≢true pending.among)
            ]
          ] refl (subst (λ (o : Option DirFacts). has_entry (listed_entries o) entry ≡ true)
          (after_reading answers path answer ok fresh at) h);
    }

-- the reading of that folder
pub read_step : {answers : List Heard} {scope : Scope} (search : SearchFacts) (path : List ℕ)
    (answer : DirFacts) {left skipped : ℕ} → IsSearch answers scope (with_last search path) [] []
    → is_dir_answer answer ≡ true
    → left + length (listed_entries (Some answer)) ≡ search.left
    → skipped ≡ min (search.skipped + passed_over (read_dir path answer)) (2 ^ 64 - 1)
    → IsSearch (answers ++ read_dir path answer ∷ []) scope
    (record search { left = left; skipped = skipped }) path (listed_entries (Some answer))
read_step search path answer s ok paid passed = record {
  looks = looks_past_reading path answer s.looks;
  asked = answered_push (read_dir path answer) s.asked (reading_due search path answer s) ok (λ p r e. cc);
  known = folders_read search.todo path answer s.known;
  too_long = long_more (read_dir path answer ∷ []) s.too_long;
  paid = paid_push (read_dir path answer) s.paid paid passed;
  closed = seen_read path answer s.closed ok (next_folder search.todo path s.known).unread;
}
