-- What is kept agrees with the answers after an entry that asks nothing: a folder, or a path that is too long.
use Rattle.path_scope.specs.Scope.{Scope}
use Rattle.std.proofs.Common.{◌≡◌, ℕ, ◌+◌, ◌<◌, ◌||◌, inl, inr, Bool, true, false, List, [], ◌∷◌, ◌++◌}
use Rattle.std.proofs.Common.{length, refl, sym, ◌∙◌, ap, subst, arith}
use Rattle.std.specs.Prelude.{if◌then◌else◌, count_by}
use Rattle.std.specs.Str.{bytes_eq}
use Rattle.std.proofs.lemmas.Bool.{or_cases, or_right}
use Rattle.std.proofs.lemmas.List.Sums.{sum_by_push}
use Rattle.row_types.specs.Canon.{IsCanonPath}
use Rattle.row_types.specs.declared.limits.TheConstants.{PATH_LIMIT}
use Rattle.tree_trait.specs.Dir.{child}
use Rattle.tree_trait.specs.Entry.{EntryFacts, has_entry, same_entry}
use Rattle.tree_trait.specs.Heard.{Heard}
use Rattle.tree_trait.proofs.EntryLemmas.{entries_same}
use Rattle.tree_walk.specs.Answers.{times_read}
use Rattle.tree_walk.specs.Kept.{IsSeenTo, AreFolders, AreSeenTo, IsSearch}
use Rattle.tree_walk.specs.Search.{SearchFacts, has_path, with_path, with_folder, with_long}
use Rattle.tree_walk.specs.Walked.{IsReached, IsFolder}
use Rattle.tree_walk.proofs.AnswerLemmas.{one_if}
use Rattle.tree_walk.proofs.GrowLemmas.{Grows, seen_more}
use Rattle.tree_walk.proofs.SetLemmas.{same, same-Decides, same_bytes, has-with_path, sorted-with_path}

-- the same search with other entries to see to
pub with_pending : {answers : List Heard} {scope : Scope} {search : SearchFacts} {folder to : List ℕ}
    {rest left : List EntryFacts} → IsSearch answers scope search folder rest
    → AreSeenTo answers scope.takes search.folders search.long to left → IsSearch answers scope search to left
with_pending s closed = record {
  looks = s.looks;
  asked = s.asked;
  known = s.known;
  too_long = s.too_long;
  paid = s.paid;
  closed = closed;
}

-- sets that only grew
has_more : (paths : List (List ℕ)) (path p : List ℕ) → has_path paths p ≡ true
    → has_path (with_path paths path) p ≡ true
has_more paths path p h = has-with_path paths path p ∙ or_right (same p path) (has_path paths p) h

has_new : (paths : List (List ℕ)) (path : List ℕ) → has_path (with_path paths path) path ≡ true
has_new paths path = has-with_path paths path path
    ∙ ap (λ (b : Bool). b || has_path paths path) ((same-Decides path path).1 refl)

grown : {answers : List Heard} {known next long longer : List (List ℕ)}
    → ((path : List ℕ) → has_path known path ≡ true → has_path next path ≡ true)
    → ((path : List ℕ) → has_path long path ≡ true → has_path longer path ≡ true)
    → Grows answers answers known next long longer
grown folders long = record { folders = folders; too_long = long; looks = λ p h. h }

-- a folder that wasn't known is to be read
folder_new : {answers : List Heard} {scope : Scope} {known todo : List (List ℕ)} {path : List ℕ}
    → AreFolders answers scope known todo → IsFolder answers scope path → IsCanonPath path
    → has_path known path ≡ false
    → AreFolders answers scope (with_path known path) (todo ++ path ∷ [])
folder_new {answers} {scope} {known} {todo} {path} f is_folder kept fresh = record {
  due = λ p h. elim (or_cases (same p path) (has_path known p) (sym (has-with_path known path p) ∙ h)) [
    | inl one ↦ subst (λ (z : List ℕ). IsFolder answers scope z × IsCanonPath z)
        (sym ((same-Decides p path).0 one)) (is_folder, kept)
    | inr old ↦ f.due p old
  ];
  counts = λ p.
      let push = sum_by_push (λ (q : List ℕ). one_if (bytes_eq p q)) todo path in
      elim (same p path) as (λ v. same p path ≡ v
      → times_read answers p + count_by (bytes_eq p) (todo ++ path ∷ []) ≡ one_if (v || has_path known p)) [
        | true ↦ λ e.
            let one : one_if (bytes_eq p path) ≡ 1 = ap one_if (sym (same_bytes p path) ∙ e) in
            let fresh_p : has_path known p ≡ false =
            subst (λ (z : List ℕ). has_path known z ≡ false) (sym ((same-Decides p path).0 e)) fresh in
            let none : times_read answers p + count_by (bytes_eq p) todo ≡ 0 = f.counts p ∙ ap one_if fresh_p in
            omega (arith, push, one, none)
        | false ↦ λ e.
            let zero : one_if (bytes_eq p path) ≡ 0 = ap one_if (sym (same_bytes p path) ∙ e) in
            let old : times_read answers p + count_by (bytes_eq p) todo ≡ one_if (has_path known p) = f.counts p in
            omega (arith, push, zero, old)
      ] refl ∙ ap one_if (sym (has-with_path known path p));
}

-- the search with a folder that is to be read, if it isn't known yet
abbrev with_new_folder : SearchFacts → List ℕ → Bool → SearchFacts
with_new_folder search path known =
    if known then search else record search {
      folders = with_path search.folders path;
      todo = search.todo ++ path ∷ [];
    }

pub folder_step : {answers : List Heard} {scope : Scope} {search : SearchFacts} {folder : List ℕ}
    {rest : List EntryFacts} {path : List ℕ} → IsSearch answers scope search folder rest
    → IsFolder answers scope path → IsCanonPath path
    → IsSearch answers scope (with_folder search path) folder rest
folder_step {answers} {scope} {search} {folder} {rest} {path} s is_folder kept =
    elim (has_path search.folders path) as (λ v. has_path search.folders path ≡ v
    → IsSearch answers scope (with_new_folder search path v) folder rest) [
      | true ↦ λ e. s
      | false ↦ λ e. record {
        looks = s.looks;
        asked = s.asked;
        known = folder_new s.known is_folder kept e;
        too_long = s.too_long;
        paid = s.paid;
        closed = seen_more (grown (has_more search.folders path) (λ p h. h)) (λ at. refl) s.closed;
      }
    ] refl

-- it is known from then on
pub folder_known : (search : SearchFacts) (path : List ℕ) → has_path (with_folder search path).folders path ≡ true
folder_known search path =
    elim (has_path search.folders path) as (λ v. has_path search.folders path ≡ v
    → has_path (with_new_folder search path v).folders path ≡ true)
    [ true ↦ λ e. e | false ↦ λ e. has_new search.folders path ] refl

pub folder_stays : (search : SearchFacts) (path p : List ℕ) → has_path search.folders p ≡ true
    → has_path (with_folder search path).folders p ≡ true
folder_stays search path p h =
    elim (has_path search.folders path) as (λ v. has_path (with_new_folder search path v).folders p ≡ true)
    [ true ↦ h | false ↦ has_more search.folders path p h ]

-- a folder is no file
pub folder_files : (search : SearchFacts) (path : List ℕ) → (with_folder search path).files ≡ search.files
folder_files search path =
    elim (has_path search.folders path) as (λ v. (with_new_folder search path v).files ≡ search.files)
    [ true ↦ refl | false ↦ refl ]

-- a path that is too long
pub long_step : {answers : List Heard} {scope : Scope} {search : SearchFacts} {folder : List ℕ}
    {rest : List EntryFacts} {path : List ℕ} → IsSearch answers scope search folder rest
    → IsReached answers scope path → PATH_LIMIT < length path
    → IsSearch answers scope (with_long search path) folder rest
long_step {answers} {scope} {search} {path} s reached long = record {
  looks = s.looks;
  asked = s.asked;
  known = s.known;
  too_long = record {
    each = λ p h. elim (or_cases (same p path) (has_path search.long p)
        (sym (has-with_path search.long path p) ∙ h)) [
          | inl one ↦ subst (λ (z : List ℕ). IsReached answers scope z × (PATH_LIMIT < length z))
              (sym ((same-Decides p path).0 one)) (reached, long)
          | inr old ↦ s.too_long.each p old
        ];
    apart = sorted-with_path search.long path s.too_long.apart;
  };
  paid = s.paid;
  closed = seen_more (grown (λ p h. h) (has_more search.long path)) (λ at. refl) s.closed;
}

pub long_known : (search : SearchFacts) (path : List ℕ) → has_path (with_long search path).long path ≡ true
long_known search path = has_new search.long path

-- one of the entries was seen to
pub entry_step : {answers : List Heard} {scope : Scope} {search : SearchFacts} {folder : List ℕ}
    {first : EntryFacts} {rest : List EntryFacts} → IsSearch answers scope search folder (first ∷ rest)
    → IsSeenTo answers scope.takes search.folders search.long (child folder first.name) first.kind
    → IsSearch answers scope search folder rest
entry_step {answers} {scope} {search} {folder} {first} {rest} s settled =
    with_pending s (record {
      each = λ at entry h. elim (s.closed.each at entry h) [
        | inl done ↦ inl done
        | inr pending ↦ elim (or_cases (same_entry entry first) (has_entry rest entry) pending.among) [
          | inl one ↦
              let is_first : first ≡ entry = sym (entries_same entry first one) in
              inl (subst (λ (z : List ℕ). IsSeenTo answers scope.takes search.folders search.long
              (child z entry.name) entry.kind) (sym pending.here)
              (subst (λ (e : EntryFacts). IsSeenTo answers scope.takes search.folders search.long
              (child folder e.name) e.kind) is_first settled))
          | inr later ↦ inr (record { here = pending.here; among = later })
        ]
      ];
    })
