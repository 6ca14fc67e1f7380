-- What is kept agrees with the answers after a look at a path.
use Rattle.path_scope.specs.Scope.{Scope}
use Rattle.std.proofs.Common.{◌≡◌, ℕ, ◌||◌, true, false, cond, List, [], ◌∷◌, ◌++◌, Option, Some, None}
use Rattle.std.proofs.Common.{is_some, Contains, refl, sym, ◌∙◌, ap, subst, add-zero, arith}
use Rattle.std.specs.Cmp.Lexicographic.{slice_cmp}
use Rattle.std.specs.List.Sorted.{IsStrictlySortedBy}
use Rattle.std.specs.Map.{lookup, keys_of}
use Rattle.std.specs.Option.{option_map}
use Rattle.std.specs.Ordering.{nat_cmp}
use Rattle.row_types.specs.Canon.{IsCanonPath}
use Rattle.row_types.specs.Stamp.{StampFacts}
use Rattle.tree_trait.specs.Entry.{EntryFacts}
use Rattle.tree_trait.specs.Heard.{Heard, stat, read_dir}
use Rattle.tree_trait.specs.Dir.{DirFacts}
use Rattle.tree_trait.specs.declared.stat.StatAnswer.{StatAnswer}
use Rattle.tree_trait.specs.declared.stat.StatAnswer.TheVariants.{File, Gone}
use Rattle.tree_walk.specs.Answers.{is_look_answer, first_look, listed_entries}
use Rattle.tree_walk.specs.Kept.{found_stamp, kept_as, kept_look, is_no_file, AreLooks, IsSearch}
use Rattle.tree_walk.specs.Search.{SearchFacts, has_path, with_path, with_file, with_other, search_after, is_path_looked}
use Rattle.tree_walk.specs.Walked.{IsCandidate}
use Rattle.tree_walk.proofs.AnswerLemmas.{looked_stays, after_look, look_again, reading_past_look}
use Rattle.tree_walk.proofs.AnswerLemmas.{look_past_reading}
use Rattle.tree_walk.proofs.GrowLemmas.{seen_more, answered_push, folders_look, long_more, paid_push}
use Rattle.tree_walk.proofs.ReachLemmas.{candidate_more}
use Rattle.tree_walk.proofs.SetLemmas.{same, same-Decides, has-with_path, sorted-with_path, keys-insert_entry}
use Rattle.tree_walk.proofs.SetLemmas.{lookup-insert_entry}

-- the files with what a look found
file_kept : (files : List (List ℕ × StampFacts)) (before : Option StatAnswer) (p path : List ℕ)
    (answer : StatAnswer) → found_stamp (Some answer) ≡ None → lookup (same p) files ≡ found_stamp before
    → (same p path ≡ true → before ≡ None)
    → lookup (same p) files ≡ found_stamp (cond (same p path) (Some answer) before)
file_kept files before p path answer none h fresh =
    elim (same p path) as (λ v. same p path ≡ v → lookup (same p) files ≡ found_stamp (cond v (Some answer) before))
    [ true ↦ λ e. h ∙ ap found_stamp (fresh e) ∙ sym none | false ↦ λ e. h ] refl

lookup-with_file : (files : List (List ℕ × StampFacts)) (before : Option StatAnswer) (p path : List ℕ)
    (answer : StatAnswer) → lookup (same p) files ≡ found_stamp before → (same p path ≡ true → before ≡ None)
    → lookup (same p) (with_file files path answer) ≡ found_stamp (cond (same p path) (Some answer) before)
lookup-with_file files before p path (File stamp) h fresh =
    lookup-insert_entry files path stamp p
    ∙ elim (same p path) as (λ v. cond v (Some stamp)
    (lookup (same p) files) ≡ found_stamp (cond v (Some (File stamp)) before)) [ true ↦ refl | false ↦ h ]
lookup-with_file files before p path answer h fresh = file_kept files before p path answer refl h fresh

-- the other paths with what a look found
other_added : (others : List (List ℕ)) (before : Option StatAnswer) (p path : List ℕ) (answer : StatAnswer)
    → is_no_file (Some answer) ≡ true → has_path others p ≡ is_no_file before
    → has_path (with_path others path) p ≡ is_no_file (cond (same p path) (Some answer) before)
other_added others before p path answer no_file h =
    has-with_path others path p
    ∙ elim (same p path) as (λ v. (v || has_path others p) ≡ is_no_file (cond v (Some answer) before))
    [ true ↦ sym no_file | false ↦ h ]

has-with_other : (others : List (List ℕ)) (before : Option StatAnswer) (p path : List ℕ)
    (answer : StatAnswer) → has_path others p ≡ is_no_file before → (same p path ≡ true → before ≡ None)
    → has_path (with_other others path answer) p ≡ is_no_file (cond (same p path) (Some answer) before)
has-with_other others before p path (File stamp) h fresh =
    elim (same p path) as (λ v. same p path ≡ v → has_path others p ≡ is_no_file (cond v (Some (File stamp)) before))
    [ true ↦ λ e. h ∙ ap is_no_file (fresh e) | false ↦ λ e. h ] refl
has-with_other others before p path answer h fresh = other_added others before p path answer refl h

sorted-with_file : (files : List (List ℕ × StampFacts)) (path : List ℕ) (answer : StatAnswer)
    → IsStrictlySortedBy (slice_cmp nat_cmp) (keys_of files)
    → IsStrictlySortedBy (slice_cmp nat_cmp) (keys_of (with_file files path answer))
sorted-with_file files path (File stamp) h =
    subst (λ (ks : List (List ℕ)). IsStrictlySortedBy (slice_cmp nat_cmp) ks)
    (sym (keys-insert_entry files path stamp)) (sorted-with_path (keys_of files) path h)
sorted-with_file files path _ h = h

-- a look at a path that wasn't looked at
-- what is kept of the first looks, after a look at a path that wasn't looked at
kept_after : (answers : List Heard) (scope : Scope) (path : List ℕ) (answer : StatAnswer)
    → is_look_answer answer ≡ true → first_look answers path ≡ None → (p : List ℕ)
    → kept_look (answers ++ stat path answer ∷ []) scope p
    ≡ cond (same p path) (Some (kept_as answer (scope.takes path))) (kept_look answers scope p)
kept_after answers scope path answer ok fresh p =
    ap (option_map (λ (a : StatAnswer). kept_as a (scope.takes p))) (after_look answers path answer ok fresh p)
    ∙ elim (same p path) as (λ v. same p path ≡ v
    → option_map (λ (a : StatAnswer). kept_as a (scope.takes p)) (cond v (Some answer) (first_look answers p))
    ≡ cond v (Some (kept_as answer (scope.takes path))) (kept_look answers scope p)) [
      | true ↦ λ e. ap (λ (z : List ℕ). Some (kept_as answer (scope.takes z))) ((same-Decides p path).0 e)
      | false ↦ λ e. refl
    ] refl

looks_noted : {answers : List Heard} {scope : Scope} {files : List (List ℕ × StampFacts)} {others : List (List ℕ)}
    (path : List ℕ) (answer : StatAnswer) → AreLooks answers scope files others → is_look_answer answer ≡ true
    → first_look answers path ≡ None
    → AreLooks (answers ++ stat path answer ∷ []) scope (with_file files path (kept_as answer (scope.takes path)))
    (with_other others path (kept_as answer (scope.takes path)))
looks_noted {answers} {scope} {files} {others} path answer l ok fresh =
    let kept : StatAnswer = kept_as answer (scope.takes path) in
    let before : (p : List ℕ) → same p path ≡ true → kept_look answers scope p ≡ None =
    λ p e. ap (option_map (λ (a : StatAnswer). kept_as a (scope.takes p)))
    (subst (λ (z : List ℕ). first_look answers z ≡ None) (sym ((same-Decides p path).0 e)) fresh) in
    record {
      files = λ p. lookup-with_file files (kept_look answers scope p) p path kept (l.files p) (before p)
          ∙ ap found_stamp (sym (kept_after answers scope path answer ok fresh p));
      others = λ p. has-with_other others (kept_look answers scope p) p path kept (l.others p) (before p)
          ∙ ap is_no_file (sym (kept_after answers scope path answer ok fresh p));
      ordered = sorted-with_file files path kept l.ordered;
    }

-- a call that changes no first look
looks_stay : {answers : List Heard} {scope : Scope} {files : List (List ℕ × StampFacts)} {others : List (List ℕ)}
    (later : List Heard) → AreLooks answers scope files others
    → ((p : List ℕ) → first_look later p ≡ first_look answers p) → AreLooks later scope files others
looks_stay {scope} later l stays = record {
  files = λ p. l.files p ∙ ap (λ o. found_stamp (option_map (λ (a : StatAnswer). kept_as a (scope.takes p)) o)) (sym (stays p));
  others = λ p. l.others p ∙ ap (λ o. is_no_file (option_map (λ (a : StatAnswer). kept_as a (scope.takes p)) o)) (sym (stays p));
  ordered = l.ordered;
}

pub looks_past_reading : {answers : List Heard} {scope : Scope} {files : List (List ℕ × StampFacts)} {others : List (List ℕ)}
    (path : List ℕ) (answer : DirFacts) → AreLooks answers scope files others
    → AreLooks (answers ++ read_dir path answer ∷ []) scope files others
looks_past_reading {answers} path answer l =
    looks_stay (answers ++ read_dir path answer ∷ []) l (look_past_reading answers path answer)

-- a look that is due
pub record IsLookDue (answers : List Heard) (scope : Scope) (path : List ℕ)
    (answer : StatAnswer) : Type 0 where
  pub candidate : IsCandidate answers scope path
  pub kept : IsCanonPath path
  pub answered : is_look_answer answer ≡ true
  pub there : Contains scope.roots path → answer ≡ Gone → ⊥

-- it leaves all else as it was
look_step : {answers : List Heard} {scope : Scope} {search : SearchFacts} {folder : List ℕ}
    {rest : List EntryFacts} {path : List ℕ} {answer : StatAnswer} {files : List (List ℕ × StampFacts)}
    {others : List (List ℕ)}
    → IsSearch answers scope search folder rest → IsLookDue answers scope path answer
    → AreLooks (answers ++ stat path answer ∷ []) scope files others
    → IsSearch (answers ++ stat path answer ∷ []) scope
    (record search { files = files; others = others }) folder rest
look_step {answers} {scope} {search} {path} {answer} s due looks =
    let more : List Heard = stat path answer ∷ [] in
    let had = s.paid.skipped in
    record {
      looks = looks;
      asked = answered_push (stat path answer) s.asked
          (candidate_more answers more scope path due.candidate, due.kept) due.answered
          (λ p r e.
          let one : path ≡ p = cc in
          let gone : answer ≡ Gone = cc in
          due.there (subst (Contains scope.roots) (sym one) r) gone);
      known = folders_look path answer s.known;
      too_long = long_more more s.too_long;
      paid = paid_push (stat path answer) s.paid (add-zero search.left) (omega (arith, had));
      closed = seen_more (record {
        folders = λ p h. h;
        too_long = λ p h. h;
        looks = λ p h. looked_stays answers more p h;
      })
          (λ at. ap listed_entries (reading_past_look answers path answer at)) s.closed;
    }

pub note_step : {answers : List Heard} {scope : Scope} {search : SearchFacts} {folder : List ℕ}
    {rest : List EntryFacts} {path : List ℕ} {answer : StatAnswer}
    → IsSearch answers scope search folder rest → IsLookDue answers scope path answer
    → first_look answers path ≡ None
    → IsSearch (answers ++ stat path answer ∷ []) scope
    (search_after search path (kept_as answer (scope.takes path))) folder rest
note_step {path} {answer} s due fresh = look_step s due (looks_noted path answer s.looks due.answered fresh)

-- a look at a path that was looked at before
pub again_step : {answers : List Heard} {scope : Scope} {search : SearchFacts} {folder : List ℕ}
    {rest : List EntryFacts} {path : List ℕ} {answer known : StatAnswer}
    → IsSearch answers scope search folder rest → IsLookDue answers scope path answer
    → first_look answers path ≡ Some known
    → IsSearch (answers ++ stat path answer ∷ []) scope search folder rest
again_step {answers} {path} {answer} s due before =
    look_step s due (looks_stay (answers ++ stat path answer ∷ []) s.looks
    (look_again answers path answer before))

-- whether a path was looked at
is_some_file : (answer : Option StatAnswer) → (is_some (found_stamp answer) || is_no_file answer) ≡ is_some answer
is_some_file (Some (File stamp)) = refl
is_some_file _ = refl

pub is_looked_is : {answers : List Heard} {scope : Scope} {search : SearchFacts} {folder : List ℕ}
    {rest : List EntryFacts} (path : List ℕ) → IsSearch answers scope search folder rest
    → is_path_looked search path ≡ is_some (first_look answers path)
is_looked_is {answers} {scope} {search} path s =
    ap (λ (o : Option StampFacts). is_some o || has_path search.others path) (s.looks.files path)
    ∙ ap (λ b. is_some (found_stamp (kept_look answers scope path)) || b) (s.looks.others path)
    ∙ is_some_file (kept_look answers scope path)
    ∙ is_some_map (first_look answers path)
  where
    is_some_map : (o : Option StatAnswer) → is_some (option_map (λ a. kept_as a (scope.takes path)) o) ≡ is_some o
    is_some_map None = refl
    is_some_map (Some a) = refl
