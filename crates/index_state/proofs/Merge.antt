-- The rows' names, each looked for among the listed ones that are left by one walk over both.
use Rattle.std.proofs.Common.{◌≡◌, ℕ, ◌+◌, ◌-◌, ◌≤◌, ◌&&◌, ◌++◌, Bool, true, false, not, cond, List, [], ◌∷◌, length, Option, Some, None, refl, sym, ◌∙◌, ap, subst, arith}
use Rattle.std.specs.List.{All, AllByRecursion, find}
use Rattle.std.specs.Option.{option_map}
use Rattle.std.specs.Prelude.{count_by, is_none}
use Rattle.std.specs.Str.{bytes_eq}
use Rattle.std.proofs.lemmas.Bool.{false_from_ne_true, true≢false}
use Rattle.std.proofs.lemmas.Cmp.{nat_list_cmp_total}
use Rattle.std.proofs.lemmas.List.{append_assoc}
use Rattle.std.proofs.lemmas.List.Elements.{All-cons, All-weaker, recursion_from_All}
use Rattle.std.proofs.lemmas.List.Kept.{AllPairs-filter}
use Rattle.std.proofs.lemmas.List.Sums.{sum_by-cons}
use Rattle.std.proofs.lemmas.Slice.Eq.{bytes_eq-Decides}
use Rattle.row_types.specs.Ascends.{IsBefore, is_before}
use Rattle.row_types.specs.Name.{NameFacts, stamp_at}
use Rattle.row_types.specs.Stamp.{StampFacts, same_stamp}
use Rattle.row_types.proofs.AscendsLemmas.{before_differs}
use Rattle.index_rows.proofs.Lists.{filter_all, filter_skips, find_none}
use Rattle.index_rows.proofs.PathLemmas.{differs_after, fails_after, fails_itself, tests_before}
use Rattle.scan_queue.specs.Names.{IsByPath, is_in}
use Rattle.scan_queue.proofs.Picks.{head_pairs, tail_pairs}
use Rattle.path_scope.specs.Scope.{Scope, is_in_scope}
use Rattle.index_state.specs.Marks.{is_to_mark, with_marks}
use Rattle.index_state.specs.Plan.{has_stamp, is_other, plan_of}
use Rattle.index_state.specs.Seen.{behind, plan_by, seen_in_all, seen_more, seen_of}
use Rattle.index_state.specs.declared.answer.Plan.{Plan}
use Rattle.index_state.specs.declared.seen.Seen.{Seen}
use Rattle.index_state.proofs.ByName.{has_stamp_is_in}
use Rattle.index_state.proofs.PlanBound.{common_matched, others_matched}

abbrev number : Bool → ℕ
number b = cond b 1 0

-- ---- what is left behind a path

later_paths : (n : NameFacts) (ns : List NameFacts) → IsByPath (n ∷ ns) → All (λ (m : NameFacts). IsBefore n.path m.path) ns
later_paths n ns h = head_pairs (λ (a b : NameFacts). IsBefore a.path b.path) n ns h

-- names whose paths stand behind a path are all kept
all_behind : (path : List ℕ) (ns : List NameFacts) → All (λ (m : NameFacts). IsBefore path m.path) ns → behind path ns ≡ ns
all_behind path ns h =
    filter_all (λ (m : NameFacts). is_before path m.path) ns
    (All-weaker (λ (m : NameFacts). IsBefore path m.path) (λ (m : NameFacts). is_before path m.path ≡ true) (λ m. tests_before path m.path) ns h)

-- and the path isn't among them
none_behind : (path : List ℕ) (ns : List NameFacts) → All (λ (m : NameFacts). IsBefore path m.path) ns → stamp_at ns path ≡ None
none_behind path ns h =
    ap (option_map (λ (m : NameFacts). m.stamp))
    (find_none (λ (m : NameFacts). bytes_eq m.path path) ns
    (All-weaker (λ (m : NameFacts). IsBefore path m.path) (λ (m : NameFacts). bytes_eq m.path path ≡ false) (λ m. differs_after path m.path) ns h))

module _ (path : List ℕ) (n : NameFacts) (ns : List NameFacts) where
  -- a first name before the path is passed
  pub passed_stamp : IsBefore n.path path → stamp_at (n ∷ ns) path ≡ stamp_at ns path
  passed_stamp before =
      ap (λ b. option_map (λ (m : NameFacts). m.stamp) (cond b (Some n) (find (λ (m : NameFacts). bytes_eq m.path path) ns))) (before_differs n.path path before)

  pub passed_behind : IsBefore n.path path → behind path (n ∷ ns) ≡ behind path ns
  passed_behind before = filter_skips (λ (m : NameFacts). is_before path m.path) n ns (fails_after n.path path before)

  -- a first name of the path is found
  pub here_stamp : n.path ≡ path → stamp_at (n ∷ ns) path ≡ Some n.stamp
  here_stamp same =
      ap (λ b. option_map (λ (m : NameFacts). m.stamp) (cond b (Some n) (find (λ (m : NameFacts). bytes_eq m.path path) ns))) ((bytes_eq-Decides n.path path).1 same)

  pub here_behind : n.path ≡ path → IsByPath (n ∷ ns) → behind path (n ∷ ns) ≡ ns
  here_behind same by_path =
      filter_skips (λ (m : NameFacts). is_before path m.path) n ns (fails_itself path n.path (sym same))
      ∙ all_behind path ns (subst (λ (p : List ℕ). All (λ (m : NameFacts). IsBefore p m.path) ns) same (later_paths n ns by_path))

  -- behind a first name that stands behind the path are all
  beyond : IsBefore path n.path → IsByPath (n ∷ ns) → All (λ (m : NameFacts). IsBefore path m.path) (n ∷ ns)
  beyond before by_path =
      All-cons (λ (m : NameFacts). IsBefore path m.path) n ns before
      (All-weaker (λ (m : NameFacts). IsBefore n.path m.path) (λ (m : NameFacts). IsBefore path m.path)
      (λ m after. nat_list_cmp_total.trans path n.path m.path before after) ns (later_paths n ns by_path))

  pub beyond_stamp : IsBefore path n.path → IsByPath (n ∷ ns) → stamp_at (n ∷ ns) path ≡ None
  beyond_stamp before by_path = none_behind path (n ∷ ns) (beyond before by_path)

  pub beyond_behind : IsBefore path n.path → IsByPath (n ∷ ns) → behind path (n ∷ ns) ≡ n ∷ ns
  beyond_behind before by_path = all_behind path (n ∷ ns) (beyond before by_path)

-- a path behind another is found among the names behind that one as among all
found_behind : (path later : List ℕ) → IsBefore path later → (ns : List NameFacts) → stamp_at (behind path ns) later ≡ stamp_at ns later
found_behind path later before [] = refl
found_behind path later before (n ∷ ns) =
    elim (is_before path n.path) as (λ b. is_before path n.path ≡ b → stamp_at (cond b (n ∷ behind path ns) (behind path ns)) later ≡ stamp_at (n ∷ ns) later) [
      | true ↦ λ _.
          elim (bytes_eq n.path later) as (λ b. option_map (λ (m : NameFacts). m.stamp) (cond b (Some n) (find (λ (m : NameFacts). bytes_eq m.path later) (behind path ns))) ≡ option_map (λ (m : NameFacts). m.stamp) (cond b (Some n) (find (λ (m : NameFacts). bytes_eq m.path later) ns)))
          [ true ↦ refl | false ↦ found_behind path later before ns ]
      | false ↦ λ fails.
          found_behind path later before ns
          ∙ sym (ap (λ b. option_map (λ (m : NameFacts). m.stamp) (cond b (Some n) (find (λ (m : NameFacts). bytes_eq m.path later) ns)))
          (false_from_ne_true (bytes_eq n.path later)
          (λ same. true≢false (sym (subst (λ (p : List ℕ). is_before path p ≡ true) (sym ((bytes_eq-Decides n.path later).0 same)) (tests_before path later before)) ∙ fails))))
    ] refl

-- each of the names is found among those that are left as among all
abbrev pub FindsAll : List NameFacts → List NameFacts → List NameFacts → Type 0
FindsAll listing left names = AllByRecursion (λ n. stamp_at left n.path ≡ stamp_at listing n.path) names

-- as the walk begins
pub finds_all : (listing names : List NameFacts) → FindsAll listing listing names
finds_all listing [] = tt
finds_all listing (n ∷ names) = (refl, finds_all listing names)

later_found : (path : List ℕ) (listing left : List NameFacts) (names : List NameFacts) → AllByRecursion (λ (m : NameFacts). IsBefore path m.path) names → FindsAll listing left names → FindsAll listing (behind path left) names
later_found path listing left [] h finds = tt
later_found path listing left (n ∷ names) h finds = (found_behind path n.path h.0 left ∙ finds.0, later_found path listing left names h.1 finds.1)

-- and once a name was passed
pub finds_later : (listing left : List NameFacts) (n : NameFacts) (names : List NameFacts) → IsByPath (n ∷ names) → FindsAll listing left (n ∷ names) → FindsAll listing (behind n.path left) names
finds_later listing left n names by_path finds =
    later_found n.path listing left names (recursion_from_All (λ (m : NameFacts). IsBefore n.path m.path) names (later_paths n names by_path)) finds.1

pub behind_by_path : (path : List ℕ) (names : List NameFacts) → IsByPath names → IsByPath (behind path names)
behind_by_path path names by_path = AllPairs-filter (λ (a b : NameFacts). IsBefore a.path b.path) (λ (m : NameFacts). is_before path m.path) names by_path

pub rest_by_path : (n : NameFacts) (names : List NameFacts) → IsByPath (n ∷ names) → IsByPath names
rest_by_path n names by_path = tail_pairs (λ (a b : NameFacts). IsBefore a.path b.path) n names by_path

-- ---- the walk

-- what stands so far, and what the names that are left give with the listed ones that are left, is all
pub record Walks (scope : Scope) (listing all : List NameFacts) (current : List (NameFacts × Bool)) (seen : Seen) (left names : List NameFacts) : Type 0 where
  pub marks : current ++ with_marks scope listing names ≡ with_marks scope listing all
  pub unlisted : seen.unlisted + (seen_of listing names).unlisted ≡ (seen_of listing all).unlisted
  pub changed : seen.changed + (seen_of listing names).changed ≡ (seen_of listing all).changed
  pub listed : seen.listed + (seen_of listing names).listed ≡ (seen_of listing all).listed
  pub finds : FindsAll listing left names
  pub left_by_path : IsByPath left
  pub by_path : IsByPath names

-- as it begins
pub walk_begins : (scope : Scope) {listing names asked left : List NameFacts} {current : List (NameFacts × Bool)} → IsByPath listing → IsByPath names → current ≡ [] → left ≡ listing → asked ≡ names → Walks scope listing names current (record { unlisted = 0; changed = 0; listed = 0 }) left asked
walk_begins scope {listing} {names} {asked} {left} {current} listed_path by_path none whole all =
    subst (λ (c : List (NameFacts × Bool)). Walks scope listing names c (record { unlisted = 0; changed = 0; listed = 0 }) left asked) (sym none)
    (subst (λ (l : List NameFacts). Walks scope listing names [] (record { unlisted = 0; changed = 0; listed = 0 }) l asked) (sym whole)
    (subst (λ (ns : List NameFacts). Walks scope listing names [] (record { unlisted = 0; changed = 0; listed = 0 }) listing ns) (sym all)
    (record { marks = refl; unlisted = omega arith; changed = omega arith; listed = omega arith; finds = finds_all listing names; left_by_path = listed_path; by_path = by_path })))

-- one name, as it is looked for, marked and counted
pub record LooksAt (scope : Scope) (current more : List (NameFacts × Bool)) (seen next : Seen) (left rest : List NameFacts) (n : NameFacts) : Type 0 where
  pub found : Option StampFacts
  pub is_listed : Bool
  pub mark : Bool
  pub stamp : found ≡ stamp_at left n.path
  pub behind : rest ≡ behind n.path left
  pub listed : is_listed ≡ has_stamp found n.stamp
  pub marked : mark ≡ (not is_listed && is_in_scope scope n.path)
  pub pushed : more ≡ current ++ (n, mark) ∷ []
  pub counted : next ≡ seen_more found n.stamp seen

-- one name more
pub walk_more : {scope : Scope} {listing all : List NameFacts} {current more : List (NameFacts × Bool)} {seen next : Seen} {left rest asked names : List NameFacts} {n : NameFacts} → IsByPath listing → Walks scope listing all current seen left asked → asked ≡ n ∷ names → LooksAt scope current more seen next left rest n → Walks scope listing all more next rest names
walk_more {scope} {listing} {all} {current} {more} {seen} {next} {left} {rest} {asked} {names} {n} listed_path walk first look = record {
  marks = ap (λ (c : List (NameFacts × Bool)). c ++ with_marks scope listing names) look.pushed
      ∙ append_assoc current ((n, look.mark) ∷ []) (with_marks scope listing names)
      ∙ ap (λ (b : Bool). current ++ (n, b) ∷ with_marks scope listing names) mark
      ∙ so_far.marks;
  unlisted =
      let a = sum_by-cons (λ (m : NameFacts). cond (is_none (stamp_at listing m.path)) 1 0) n names in
      let b = ap (λ (s : Seen). s.unlisted) look.counted in
      let c = ap (λ (o : Option StampFacts). number (is_none o)) found in
      omega (arith, so_far.unlisted, a, b, c);
  changed =
      let a = sum_by-cons (λ (m : NameFacts). cond (is_other (stamp_at listing m.path) m.stamp) 1 0) n names in
      let b = ap (λ (s : Seen). s.changed) look.counted in
      let c = ap (λ (o : Option StampFacts). number (is_other o n.stamp)) found in
      omega (arith, so_far.changed, a, b, c);
  listed =
      let a = sum_by-cons (λ (m : NameFacts). cond (has_stamp (stamp_at listing m.path) m.stamp) 1 0) n names in
      let b = ap (λ (s : Seen). s.listed) look.counted in
      let c = ap (λ (o : Option StampFacts). number (has_stamp o n.stamp)) found in
      omega (arith, so_far.listed, a, b, c);
  finds = subst (λ (l : List NameFacts). FindsAll listing l names) (sym look.behind) (finds_later listing left n names so_far.by_path so_far.finds);
  left_by_path = subst (λ (l : List NameFacts). IsByPath l) (sym look.behind) (behind_by_path n.path left walk.left_by_path);
  by_path = rest_by_path n names so_far.by_path;
}
  where
    so_far : Walks scope listing all current seen left (n ∷ names)
    so_far = subst (λ (ns : List NameFacts). Walks scope listing all current seen left ns) first walk

    found : look.found ≡ stamp_at listing n.path
    found = look.stamp ∙ so_far.finds.0

    mark : look.mark ≡ is_to_mark scope listing n
    mark = look.marked ∙ ap (λ (b : Bool). not b && is_in_scope scope n.path)
        (look.listed ∙ ap (λ (o : Option StampFacts). has_stamp o n.stamp) found ∙ has_stamp_is_in n listing listed_path)

-- ---- the numbers

-- a name is one of three
one_of_three : (o : Option StampFacts) (s : StampFacts) → cond (is_none o) 1 0 + cond (is_other o s) 1 0 + cond (has_stamp o s) 1 0 ≡ 1
one_of_three None s = refl
one_of_three (Some t) s = elim (same_stamp s t) as (λ b. 0 + cond (not b) 1 0 + cond b 1 0 ≡ 1) [ true ↦ refl | false ↦ refl ]

-- each name is counted once
pub all_seen : (listing names : List NameFacts) → seen_in_all (seen_of listing names) ≡ length names
all_seen listing [] = refl
all_seen listing (n ∷ names) =
    let rest = all_seen listing names in
    let one = one_of_three (stamp_at listing n.path) n.stamp in
    let a = sum_by-cons (λ (m : NameFacts). cond (is_none (stamp_at listing m.path)) 1 0) n names in
    let b = sum_by-cons (λ (m : NameFacts). cond (is_other (stamp_at listing m.path) m.stamp) 1 0) n names in
    let c = sum_by-cons (λ (m : NameFacts). cond (has_stamp (stamp_at listing m.path) m.stamp) 1 0) n names in
    omega (arith, rest, one, a, b, c)

-- tests that agree count the same
counts_alike : (p q : NameFacts → Bool) → ((n : NameFacts) → p n ≡ q n) → (names : List NameFacts) → count_by p names ≡ count_by q names
counts_alike p q alike [] = refl
counts_alike p q alike (n ∷ names) =
    let one = ap (λ (b : Bool). number b) (alike n) in
    let a = sum_by-cons (λ (m : NameFacts). cond (p m) 1 0) n names in
    let b = sum_by-cons (λ (m : NameFacts). cond (q m) 1 0) n names in
    omega (arith, counts_alike p q alike names, one, a, b)

-- the names that stand in both lists are as many in either
listed_alike : (listing names : List NameFacts) → IsByPath listing → (seen_of listing names).listed ≡ (plan_of names listing).keep
listed_alike listing names listed_path =
    counts_alike (λ n. has_stamp (stamp_at listing n.path) n.stamp) (λ n. is_in listing n) (λ n. has_stamp_is_in n listing listed_path) names

listed_kept : (listing names : List NameFacts) → IsByPath listing → IsByPath names → (seen_of listing names).listed ≡ (plan_of listing names).keep
listed_kept listing names listed_path by_path =
    let a = listed_alike listing names listed_path in
    let b = common_matched listing names by_path in
    let c = common_matched names listing listed_path in
    omega (arith, a, b, c)

changed_replaced : (listing names : List NameFacts) → IsByPath listing → IsByPath names → (seen_of listing names).changed ≡ (plan_of listing names).replace
changed_replaced listing names listed_path by_path =
    omega (arith, others_matched listing names listed_path by_path, others_matched names listing by_path listed_path)

-- the listed paths that have a row are no more than the listed names
pub listed_enough : (listing names : List NameFacts) → IsByPath listing → IsByPath names → (seen_of listing names).changed + (seen_of listing names).listed ≤ length listing
listed_enough listing names listed_path by_path =
    omega (arith, all_seen names listing, listed_kept listing names listed_path by_path, changed_replaced listing names listed_path by_path, listed_alike names listing by_path)

added : (listing names : List NameFacts) → IsByPath listing → IsByPath names → length listing - ((seen_of listing names).changed + (seen_of listing names).listed) ≡ (plan_of listing names).add
added listing names listed_path by_path =
    omega (arith, all_seen names listing, listed_kept listing names listed_path by_path, changed_replaced listing names listed_path by_path, listed_alike names listing by_path)

-- so these are the numbers of the plan
pub plan_by_seen : (listing names : List NameFacts) → IsByPath listing → IsByPath names → plan_by (length listing) (seen_of listing names) ≡ plan_of listing names
plan_by_seen listing names listed_path by_path =
    same_plan (added listing names listed_path by_path) (changed_replaced listing names listed_path by_path) (listed_kept listing names listed_path by_path)
  where
    numbers : ℕ → ℕ → ℕ → ℕ → ℕ → Plan
    numbers f a r d k = record { files = f; add = a; replace = r; drop = d; keep = k }

    same_plan : {f d a b c x y z : ℕ} → a ≡ x → b ≡ y → c ≡ z → numbers f a b d c ≡ numbers f x y d z
    same_plan {f} {d} {a} {b} {c} {x} {y} {z} p q r =
        ap (λ (v : ℕ). numbers f v b d c) p ∙ ap (λ (v : ℕ). numbers f x v d c) q ∙ ap (λ (v : ℕ). numbers f x y d v) r
