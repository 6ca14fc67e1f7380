-- A walk that has heard of all changes has what the test keeps of the rows up to its place.
use Rattle.std.proofs.Common.{◌≡◌, ℕ, ◌<◌, Bool, true, false, not, cond, List, [], ◌∷◌, ◌++◌, length, get_or, map, Option, Some, None, refl, sym, ◌∙◌, ap, subst, arith}
use Rattle.std.specs.Bool.{if◌then◌else◌}
use Rattle.std.specs.List.{All, AllPairs, filter}
use Rattle.std.specs.Option.{option_map}
use Rattle.std.specs.Ordering.{nat_cmp}
use Rattle.std.specs.Cmp.Lexicographic.{slice_cmp}
use Rattle.std.specs.Str.{bytes_eq}
use Rattle.std.specs.declared.cmp.Ordering.{Ordering}
use Rattle.std.specs.declared.cmp.Ordering.TheVariants.{Less, Equal, Greater}
use Rattle.std.proofs.Math.ListN.{drop_of_length-le}
use Rattle.std.proofs.lemmas.Bool.{true≢false}
use Rattle.std.proofs.lemmas.Option.{none-some}
use Rattle.std.proofs.lemmas.List.{get_or-map, get_or_default, length-map, map-append}
use Rattle.std.proofs.lemmas.List.Elements.{All-cons, All-head, All-nil, All-tail, All-weaker, filter-append}
use Rattle.std.proofs.lemmas.List.Kept.{AllPairs-filter}
use Rattle.std.proofs.lemmas.Cmp.{nat_list_cmp_total}
use Rattle.std.proofs.lemmas.Map.Lookups.{exact_bytes}
use Rattle.std.proofs.lemmas.Slice.Eq.{bytes_eq-Decides}
use Rattle.row_types.specs.Name.{NameFacts}
use Rattle.row_types.specs.Row.{RowFacts}
use Rattle.row_types.specs.Ascends.{AscendsBy, IsBefore}
use Rattle.row_types.specs.declared.limits.TheConstants.{EDITION}
use Rattle.row_codec.specs.Spelled.{IsSpelled}
use Rattle.index_rows.specs.ByPath.{find_at}
use Rattle.index_rows.specs.Log.{replay}
use Rattle.index_rows.specs.Rows.{row_at, row_names, row_path}
use Rattle.index_rows.proofs.FindLemmas.{find_kept}
use Rattle.index_rows.proofs.Lists.{IsFound, filter_all, filter_none, first_related, found_there, rest_related}
use Rattle.index_rows.proofs.PathLemmas.{before_after, found_standing, stands_here, tests_before}
use Rattle.index_state.specs.State.{StateFacts}
use Rattle.row_walk.specs.Found.{found_of, found_path}
use Rattle.row_walk.specs.Looked.{rows_behind}
use Rattle.row_walk.specs.Place.{is_behind}
use Rattle.row_walk.specs.Walk.{IsFront, IsKeptOf, IsTrueRow, IsWalk, IsWalkOf, WalkFacts, is_named, kept_of, name_at, rows_up_to, sieved}
use Rattle.row_walk.specs.declared.found.Found.{Found}
use Rattle.row_walk.specs.declared.place.Place.{Place}
use Rattle.row_walk.proofs.StepLemmas.{HasRows, behind_further, find_before, find_named, shown}

-- the pairs of what f gives
pairs_map : {X Y : Type 0} (R : Y → Y → Type 0) (f : X → Y) (xs : List X) → AllPairs (λ x z. R (f x) (f z)) xs → AllPairs R (map f xs)
pairs_map {X} {Y} R f [] h = λ i j d less within. absurd (omega (arith, within))
pairs_map {X} {Y} R f (x ∷ xs) h = λ i j d less within.
    let short : j < length (x ∷ xs) = omega (arith, within, length-map (x ∷ xs) f) in
    let shorter : i < length (x ∷ xs) = omega (arith, less, short) in
    subst (λ (y : Y). R y (get_or (map f (x ∷ xs)) j d)) (sym (get_or-map f (x ∷ xs) i x d shorter))
    (subst (R (f (get_or (x ∷ xs) i x))) (sym (get_or-map f (x ∷ xs) j x d short)) (h i j x less short))

-- the pairs of what f is given
pairs_back : {X Y : Type 0} (R : Y → Y → Type 0) (f : X → Y) (xs : List X) → AllPairs R (map f xs) → AllPairs (λ x z. R (f x) (f z)) xs
pairs_back {X} {Y} R f xs h = λ i j d less within.
    let long : j < length (map f xs) = omega (arith, within, length-map xs f) in
    subst (λ (y : Y). R y (f (get_or xs j d))) (get_or-map f xs i d (f d) (omega (arith, less, within)))
    (subst (R (get_or (map f xs) i (f d))) (get_or-map f xs j d (f d) within) (h i j (f d) less long))

-- what has no path of a list that stands behind it
none_first : {X : Type 0} (path : X → List ℕ) (x : X) (xs : List X) → AscendsBy path (x ∷ xs) → find_at path (path x) xs ≡ None
none_first path x xs h = find_before path (path x) xs (first_related (λ y z. IsBefore (path y) (path z)) x xs h)

itself : (path : List ℕ) → bytes_eq path path ≡ true
itself path = (bytes_eq-Decides path path).1 refl

-- lists in path order, in which the same is found by each path, are the same
pub same_found : {X : Type 0} (path : X → List ℕ) (xs ys : List X) → AscendsBy path xs → AscendsBy path ys → ((key : List ℕ) → find_at path key xs ≡ find_at path key ys) → xs ≡ ys
same_found path [] [] p q h = refl
same_found {X} path [] (y ∷ ys) p q h = absurd (none-some y (h (path y) ∙ ap (λ b. cond b (Some y) (find_at path (path y) ys)) (itself (path y))))
same_found {X} path (x ∷ xs) [] p q h = absurd (none-some x (sym (h (path x)) ∙ ap (λ b. cond b (Some x) (find_at path (path x) xs)) (itself (path x))))
same_found {X} path (x ∷ xs) (y ∷ ys) p q h =
    of (slice_cmp nat_cmp (path x) (path y)) refl (same_found path xs ys (rest_related (λ a b. IsBefore (path a) (path b)) x xs p) (rest_related (λ a b. IsBefore (path a) (path b)) y ys q))
  where
    here : find_at path (path x) (x ∷ xs) ≡ Some x
    here = ap (λ b. cond b (Some x) (find_at path (path x) xs)) (itself (path x))

    there : find_at path (path y) (y ∷ ys) ≡ Some y
    there = ap (λ b. cond b (Some y) (find_at path (path y) ys)) (itself (path y))

    -- nothing of a list has a path that stands before its first
    past : (key : List ℕ) (z : X) (zs : List X) → AscendsBy path (z ∷ zs) → IsBefore key (path z) → find_at path key (z ∷ zs) ≡ None
    past key z zs r before =
        find_before path key (z ∷ zs) (All-cons (λ v. IsBefore key (path v)) z zs before
        (All-weaker (λ v. IsBefore (path z) (path v)) (λ v. IsBefore key (path v)) (λ v after. nat_list_cmp_total.trans key (path z) (path v) before after) zs
        (first_related (λ a b. IsBefore (path a) (path b)) z zs r)))

    tails : path x ≡ path y → (key : List ℕ) → find_at path key xs ≡ find_at path key ys
    tails same key =
        (elim (bytes_eq (path x) key) as (λ b. bytes_eq (path x) key ≡ b → find_at path key xs ≡ find_at path key ys) [
          | true ↦ λ e.
              let is : path x ≡ key = (bytes_eq-Decides (path x) key).0 e in
              ap (λ k. find_at path k xs) (sym is) ∙ none_first path x xs p
              ∙ sym (ap (λ k. find_at path k ys) (sym is ∙ same) ∙ none_first path y ys q)
          | false ↦ λ e.
              sym (ap (λ b. cond b (Some x) (find_at path key xs)) e) ∙ h key
              ∙ ap (λ b. cond b (Some y) (find_at path key ys)) (ap (λ k. bytes_eq k key) (sym same) ∙ e)
        ]) refl

    of : (o : Ordering) → slice_cmp nat_cmp (path x) (path y) ≡ o → (((key : List ℕ) → find_at path key xs ≡ find_at path key ys) → xs ≡ ys) → x ∷ xs ≡ y ∷ ys
    of Less e rest = absurd (none-some x (sym (past (path x) y ys q e) ∙ sym (h (path x)) ∙ here))
    of Greater e rest = absurd (none-some y (sym (past (path y) x xs p (before_after (path x) (path y) e)) ∙ h (path y) ∙ there))
    of Equal e rest =
        let same : path x ≡ path y = exact_bytes (path x) (path y) e in
        let firsts : Some x ≡ Some y = sym here ∙ h (path x) ∙ ap (λ b. cond b (Some y) (find_at path (path x) ys)) ((bytes_eq-Decides (path y) (path x)).1 (sym same)) in
        let tail : xs ≡ ys = rest (tails same) in
        cc

-- what is found among what the test keeps
pub find_kept_of : (keeps : Found → Bool) (path : List ℕ) (rows : List RowFacts) → AscendsBy row_path rows → find_at found_path path (kept_of keeps rows) ≡ shown keeps (row_at path rows)
find_kept_of keeps path [] h = refl
find_kept_of keeps path (row ∷ rows) h =
    of (find_kept_of keeps path rows (rest_related (λ a b. IsBefore (row_path a) (row_path b)) row rows h))
  where
    of : find_at found_path path (kept_of keeps rows) ≡ shown keeps (row_at path rows) → find_at found_path path (kept_of keeps (row ∷ rows)) ≡ shown keeps (row_at path (row ∷ rows))
    of later =
        (elim (bytes_eq row.name.path path) as (λ b. bytes_eq row.name.path path ≡ b → find_at found_path path (cond (keeps (found_of row)) (found_of row ∷ kept_of keeps rows) (kept_of keeps rows)) ≡ shown keeps (cond b (Some row) (row_at path rows))) [
          | true ↦ λ e.
              elim (keeps (found_of row)) as (λ k. find_at found_path path (cond k (found_of row ∷ kept_of keeps rows) (kept_of keeps rows)) ≡ (if k then Some (found_of row) else None)) [
                | true ↦ ap (λ b. cond b (Some (found_of row)) (find_at found_path path (kept_of keeps rows))) e
                | false ↦ later ∙ ap (shown keeps) (ap (λ k. row_at k rows) (sym ((bytes_eq-Decides row.name.path path).0 e)) ∙ none_first row_path row rows h)
              ]
          | false ↦ λ e.
              elim (keeps (found_of row)) as (λ k. find_at found_path path (cond k (found_of row ∷ kept_of keeps rows) (kept_of keeps rows)) ≡ shown keeps (row_at path rows)) [
                | true ↦ ap (λ b. cond b (Some (found_of row)) (find_at found_path path (kept_of keeps rows))) e ∙ later
                | false ↦ later
              ]
        ]) refl

-- what the test keeps is in order
kept_ascends : (keeps : Found → Bool) (rows : List RowFacts) → AscendsBy row_path rows → AscendsBy found_path (kept_of keeps rows)
kept_ascends keeps rows h =
    AllPairs-filter (λ a b. IsBefore (found_path a) (found_path b)) keeps (map found_of rows)
    (pairs_map (λ a b. IsBefore (found_path a) (found_path b)) found_of rows h)

-- a path up to the place has in the list what the test keeps of the row
abbrev pub IsItsOwn : (Found → Bool) → Place → List Found → RowFacts → Type 0
IsItsOwn keeps place kept row = is_behind place row.name.path ≡ false → find_at found_path row.name.path kept ≡ sieved keeps (found_of row)

-- the same, of some true row of the name
abbrev pub IsOfItsName : (RowFacts → Type 0) → (Found → Bool) → Place → List Found → RowFacts → Type 0
IsOfItsName true_row keeps place kept row = is_behind place row.name.path ≡ false → IsKeptOf true_row keeps (Some row.name) (find_at found_path row.name.path kept)

-- true rows of the names of these, of which the list has what the test keeps
pub record ArePicked (true_row : RowFacts → Type 0) (keeps : Found → Bool) (place : Place) (kept : List Found) (rows : List RowFacts) : Type 0 where
  pub picked : List RowFacts
  pub sound : All (IsTrueRow true_row) picked
  pub names : row_names picked ≡ row_names rows
  pub own : All (IsItsOwn keeps place kept) picked

pick : {true_row : RowFacts → Type 0} (keeps : Found → Bool) (place : Place) (kept : List Found) (rows : List RowFacts) → All (IsTrueRow true_row) rows → All (IsOfItsName true_row keeps place kept) rows → ArePicked true_row keeps place kept rows
pick {true_row} keeps place kept [] sound named = record { picked = []; sound = All-nil (IsTrueRow true_row); names = refl; own = All-nil (IsItsOwn keeps place kept) }
pick {true_row} keeps place kept (row ∷ rows) sound named =
    of (is_behind place row.name.path) refl (pick keeps place kept rows (All-tail (IsTrueRow true_row) row rows sound) (All-tail (IsOfItsName true_row keeps place kept) row rows named))
  where
    with : (one : RowFacts) → IsTrueRow true_row one → one.name ≡ row.name → IsItsOwn keeps place kept one → ArePicked true_row keeps place kept rows → ArePicked true_row keeps place kept (row ∷ rows)
    with one sound_one its own more = record {
      picked = one ∷ more.picked;
      sound = All-cons (IsTrueRow true_row) one more.picked sound_one more.sound;
      names = ap (λ (n : NameFacts). n ∷ row_names more.picked) its ∙ ap (λ (ns : List NameFacts). row.name ∷ ns) more.names;
      own = All-cons (IsItsOwn keeps place kept) one more.picked own more.own;
    }

    of : (b : Bool) → is_behind place row.name.path ≡ b → ArePicked true_row keeps place kept rows → ArePicked true_row keeps place kept (row ∷ rows)
    of true e more = with row (All-head (IsTrueRow true_row) row rows sound) refl (λ there. absurd (true≢false (sym e ∙ there))) more
    of false e more =
        let its = All-head (IsOfItsName true_row keeps place kept) row rows named e in
        with its.0 its.1 its.2 (λ there. ap (λ (n : NameFacts). find_at found_path n.path kept) its.2 ∙ its.3) more

-- true rows of the same names are the same, where a name has one true row
same_rows : {true_row : RowFacts → Type 0} → ((a b : RowFacts) → a.name ≡ b.name → true_row a → true_row b → a ≡ b) → (rows others : List RowFacts) → row_names rows ≡ row_names others → All true_row rows → All true_row others → rows ≡ others
same_rows one [] [] e p q = refl
same_rows one [] (y ∷ ys) e p q = absurd (let f : [] ≡ y.name ∷ row_names ys = e in cc)
same_rows one (x ∷ xs) [] e p q = absurd (let f : x.name ∷ row_names xs ≡ [] = e in cc)
same_rows {true_row} one (x ∷ xs) (y ∷ ys) e p q =
    let f : x.name ∷ row_names xs ≡ y.name ∷ row_names ys = e in
    let name_is : x.name ≡ y.name = cc in
    let names_are : row_names xs ≡ row_names ys = cc in
    let first : x ≡ y = one x y name_is (All-head true_row x xs p) (All-head true_row y ys q) in
    let rest : xs ≡ ys = same_rows one xs ys names_are (All-tail true_row x xs p) (All-tail true_row y ys q) in
    cc

-- rows in order are those up to the place, and then those behind it
split_rows : (place : Place) (rows : List RowFacts) → AscendsBy row_path rows → rows ≡ rows_up_to place rows ++ rows_behind place rows
split_rows place [] h = refl
split_rows place (row ∷ rows) h =
    of (is_behind place row.name.path) refl (split_rows place rows (rest_related (λ a b. IsBefore (row_path a) (row_path b)) row rows h))
  where
    later : is_behind place row.name.path ≡ true → All (λ r. is_behind place r.name.path ≡ true) rows
    later e = All-weaker (λ r. IsBefore row.name.path (row_path r)) (λ r. is_behind place r.name.path ≡ true)
        (λ r after. behind_further place row.name.path r.name.path e (tests_before row.name.path r.name.path after)) rows
        (first_related (λ a b. IsBefore (row_path a) (row_path b)) row rows h)

    of : (b : Bool) → is_behind place row.name.path ≡ b → rows ≡ rows_up_to place rows ++ rows_behind place rows
        → row ∷ rows ≡ cond (not (is_behind place row.name.path)) (row ∷ rows_up_to place rows) (rows_up_to place rows) ++ cond (is_behind place row.name.path) (row ∷ rows_behind place rows) (rows_behind place rows)
    of false e more =
        ap (λ (l : List RowFacts). row ∷ l) more
        ∙ ap (λ b. cond (not b) (row ∷ rows_up_to place rows) (rows_up_to place rows) ++ cond b (row ∷ rows_behind place rows) (rows_behind place rows)) (sym e)
    of true e more =
        ap (λ (l : List RowFacts). row ∷ l) (sym (filter_all (λ r. is_behind place r.name.path) rows (later e)))
        ∙ ap (λ (l : List RowFacts). l ++ row ∷ rows_behind place rows) (sym (filter_none (λ r. not (is_behind place r.name.path)) rows (All-weaker (λ r. is_behind place r.name.path ≡ true) (λ r. not (is_behind place r.name.path) ≡ false) (λ r t. ap not t) rows (later e))))
        ∙ ap (λ b. cond (not b) (row ∷ rows_up_to place rows) (rows_up_to place rows) ++ cond b (row ∷ rows_behind place rows) (rows_behind place rows)) (sym e)

-- what the test keeps of two lists
kept_append : (keeps : Found → Bool) (rows others : List RowFacts) → kept_of keeps (rows ++ others) ≡ kept_of keeps rows ++ kept_of keeps others
kept_append keeps rows others = ap (filter keeps) (map-append found_of rows others) ∙ filter-append keeps (map found_of rows) (map found_of others)

module _ {true_row : RowFacts → Type 0} (keeps : Found → Bool) {K : Type 0} (index : StateFacts K) (h : HasRows true_row index) (walk : WalkFacts) (w : IsWalk true_row keeps index.log walk) (heard : walk.heard ≡ length index.log) where
  -- what stands up to the place is kept
  all_stand : (path : List ℕ) → is_behind walk.place path ≡ false → IsKeptOf true_row keeps (name_at path (replay index.log)) (find_at found_path path walk.kept)
  all_stand path there = w.stands path there (ap (is_named path) (drop_of_length-le index.log {i = walk.heard} (omega (arith, heard))))

  named : All (IsOfItsName true_row keeps walk.place walk.kept) index.rows
  named = λ k d within there.
      let row : RowFacts = get_or index.rows k d in
      let found : row_at row.name.path index.rows ≡ Some row =
      found_standing row_path row.name.path index.rows k d (stands_here row_path row.name.path index.rows k h.ascends within (λ z. ap row_path (get_or_default index.rows k z d within))) in
      let name_is : name_at row.name.path (replay index.log) ≡ Some row.name =
      ap (name_at row.name.path) (sym h.replays) ∙ find_named row.name.path index.rows ∙ ap (option_map (λ (r : RowFacts). r.name)) found in
      subst (λ (n : Option NameFacts). IsKeptOf true_row keeps n (find_at found_path row.name.path walk.kept)) name_is (all_stand row.name.path there)

  chosen : ArePicked true_row keeps walk.place walk.kept index.rows
  chosen = pick keeps walk.place walk.kept index.rows h.holds named

  chosen_ascends : AscendsBy row_path chosen.picked
  chosen_ascends =
      pairs_back (λ (a b : NameFacts). IsBefore a.path b.path) (λ (r : RowFacts). r.name) chosen.picked
      (subst (AllPairs (λ (a b : NameFacts). IsBefore a.path b.path)) (sym chosen.names)
      (pairs_map (λ (a b : NameFacts). IsBefore a.path b.path) (λ (r : RowFacts). r.name) index.rows h.ascends))

  found_same : (path : List ℕ) → find_at found_path path walk.kept ≡ find_at found_path path (kept_of keeps (rows_up_to walk.place chosen.picked))
  found_same path =
      of (is_behind walk.place path) refl
      ∙ sym (find_kept_of keeps path (rows_up_to walk.place chosen.picked) (AllPairs-filter (λ a b. IsBefore (row_path a) (row_path b)) (λ row. not (is_behind walk.place row.name.path)) chosen.picked chosen_ascends)
      ∙ ap (shown keeps) (find_kept row_path path (λ p. not (is_behind walk.place p)) chosen.picked))
    where
      name_is : name_at path (replay index.log) ≡ option_map (λ (r : RowFacts). r.name) (row_at path chosen.picked)
      name_is = ap (name_at path) (sym h.replays ∙ sym chosen.names) ∙ find_named path chosen.picked

      up : is_behind walk.place path ≡ false → (o : Option RowFacts) → row_at path chosen.picked ≡ o → find_at found_path path walk.kept ≡ shown keeps o
      up there None e =
          subst (λ (n : Option NameFacts). IsKeptOf true_row keeps n (find_at found_path path walk.kept)) (name_is ∙ ap (option_map (λ (r : RowFacts). r.name)) e) (all_stand path there)
      up there (Some row) e =
          let found : IsFound (λ r. bytes_eq (row_path r) path) chosen.picked row = found_there (λ r. bytes_eq (row_path r) path) chosen.picked row e in
          let is : row.name.path ≡ path = (bytes_eq-Decides row.name.path path).0 found.passes in
          let own : IsItsOwn keeps walk.place walk.kept row = subst (IsItsOwn keeps walk.place walk.kept) found.there (chosen.own found.place row found.within) in
          ap (λ k. find_at found_path k walk.kept) (sym is) ∙ own (ap (is_behind walk.place) is ∙ there)

      of : (b : Bool) → is_behind walk.place path ≡ b → find_at found_path path walk.kept ≡ shown keeps (cond (not (is_behind walk.place path)) (row_at path chosen.picked) None)
      of true e = w.behind path e ∙ ap (λ b. shown keeps (cond (not b) (row_at path chosen.picked) None)) (sym e)
      of false e = up e (row_at path chosen.picked) refl ∙ ap (λ b. shown keeps (cond (not b) (row_at path chosen.picked) None)) (sym e)

  kept_is : walk.kept ≡ kept_of keeps (rows_up_to walk.place chosen.picked)
  kept_is = same_found found_path walk.kept (kept_of keeps (rows_up_to walk.place chosen.picked)) w.ascends
      (kept_ascends keeps (rows_up_to walk.place chosen.picked) (AllPairs-filter (λ a b. IsBefore (row_path a) (row_path b)) (λ row. not (is_behind walk.place row.name.path)) chosen.picked chosen_ascends))
      found_same

  -- it has what the test keeps of the rows up to the place
  pub front : {told : Bool} → (told ≡ true → (a b : RowFacts) → a.name ≡ b.name → true_row a → true_row b → a ≡ b) → IsFront told true_row keeps index walk
  front one = record {
    rows = chosen.picked;
    stood = record {
      sound = record {
        ascend = chosen_ascends;
        edition = All-weaker (IsTrueRow true_row) (λ row. row.edition ≡ EDITION) (λ row t. t.edition) chosen.picked chosen.sound;
        holds = All-weaker (IsTrueRow true_row) true_row (λ row t. t.holds) chosen.picked chosen.sound;
        spelled = All-weaker (IsTrueRow true_row) IsSpelled (λ row t. t.spelled) chosen.picked chosen.sound;
      };
      names = chosen.names ∙ h.replays;
    };
    itself = λ is_told. same_rows {true_row = IsTrueRow true_row} (λ a b same p q. one is_told a b same p.holds q.holds) chosen.picked index.rows chosen.names chosen.sound h.holds;
    are = kept_is;
    first = ap (kept_of keeps) (split_rows walk.place chosen.picked chosen_ascends)
        ∙ kept_append keeps (rows_up_to walk.place chosen.picked) (rows_behind walk.place chosen.picked)
        ∙ ap (λ (l : List Found). l ++ kept_of keeps (rows_behind walk.place chosen.picked)) (sym kept_is);
  }

-- a walk of the index's log
pub walk_of : {true_row : RowFacts → Type 0} {told : Bool} (keeps : Found → Bool) {K : Type 0} (index : StateFacts K) (walk : WalkFacts) → HasRows true_row index → (told ≡ true → (a b : RowFacts) → a.name ≡ b.name → true_row a → true_row b → a ≡ b) → IsWalk true_row keeps index.log walk → IsWalkOf told true_row keeps index walk
walk_of keeps index walk h one w = record { stands = w; front = λ heard. front keeps index h walk w heard one }
