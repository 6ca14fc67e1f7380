-- What a walk has, once a change was heard of, a row was seen, or the log has grown.
use Rattle.std.proofs.Common.{◌≡◌, ℕ, suc, add-one, get_or, ◌+◌, ◌≤◌, ◌<◌, ◌||◌, Bool, true, false, not, cond, List, [], ◌∷◌, ◌++◌, length, drop, map, Option, Some, None, refl, sym, ◌∙◌, ap, subst, arith}
use Rattle.std.specs.Bool.{if◌then◌else◌}
use Rattle.std.specs.List.{All, fold}
use Rattle.std.specs.Option.{option_map}
use Rattle.std.specs.Ordering.{nat_cmp}
use Rattle.std.specs.Cmp.Lexicographic.{slice_cmp}
use Rattle.std.specs.Str.{bytes_eq}
use mathlib.Core.List.{IsPrefix}
use Rattle.std.proofs.lemmas.Bool.{true≢false, false≢true}
use Rattle.std.proofs.lemmas.Cmp.{nat_list_cmp_total}
use Rattle.std.proofs.lemmas.List.{drop-append-le, length-append, length-drop}
use Rattle.std.proofs.Math.Seq.{drop-cons}
use Rattle.std.proofs.lemmas.Map.Lookups.{exact_bytes}
use Rattle.std.specs.declared.cmp.Ordering.{Ordering}
use Rattle.std.specs.declared.cmp.Ordering.TheVariants.{Less, Equal, Greater}
use Rattle.std.proofs.lemmas.List.Folds.{list_any-append}
use Rattle.std.proofs.lemmas.List.Elements.{All-head, All-weaker, filter_passes}
use Rattle.std.proofs.lemmas.List.Kept.{AllPairs-filter}
use Rattle.std.proofs.lemmas.Slice.Eq.{bytes_eq-Decides}
use Rattle.row_types.specs.Name.{NameFacts}
use Rattle.row_types.specs.Row.{RowFacts}
use Rattle.row_types.specs.Ascends.{AscendsBy, IsBefore, is_before}
use Rattle.row_types.proofs.AscendsLemmas.{before_differs, before_from_test}
use Rattle.index_rows.specs.ByPath.{put_at, find_at, without_at}
use Rattle.index_rows.specs.Log.{replay}
use Rattle.index_rows.specs.Rows.{row_at, row_names, row_path}
use Rattle.index_rows.specs.declared.change.Change.{Change}
use Rattle.index_rows.proofs.FindLemmas.{find_kept, find_put, find_without, same_turned}
use Rattle.index_rows.proofs.Lists.{IsFound, first_related, find_none, found_there, rest_related}
use Rattle.index_rows.proofs.PathLemmas.{before_after, differs_after, put_ascends, tests_before, without_ascends}
use Rattle.index_keeper.specs.Keeper.{ShownKeeper}
use Rattle.index_state.specs.Invariant.{IndexInvariant}
use Rattle.index_state.specs.State.{StateFacts}
use Rattle.row_walk.specs.Found.{found_of, found_path}
use Rattle.row_walk.specs.Looked.{CopiesNext, Reaches, changes_up_to, look_at, look_from, looks_of, rows_behind}
use Rattle.row_walk.specs.Place.{is_behind}
use Rattle.row_walk.specs.Walk.{IsKeptOf, IsTrueRow, IsWalk, WalkFacts, after_look, after_row, is_named, name_at, sieved}
use Rattle.row_walk.specs.declared.found.Found.{Found}
use Rattle.row_walk.specs.declared.looked.Look.{Look}
use Rattle.row_walk.specs.declared.looked.Look.TheVariants.{Gone, There}
use Rattle.row_walk.specs.declared.place.Place.{Place}
use Rattle.row_walk.specs.declared.place.Place.TheVariants.{Start, At, End}
use Rattle.row_walk.proofs.LawLemmas.{name_stays, or_first, or_second}

-- the rows of an index: by path, true, and with the names that its log leaves
pub record HasRows {K : Type 0} (true_row : RowFacts → Type 0) (index : StateFacts K) : Type 0 where
  pub ascends : AscendsBy row_path index.rows
  pub holds : All (IsTrueRow true_row) index.rows
  pub replays : row_names index.rows ≡ replay index.log

-- what always holds of an index says so
pub rows_held : {K : Type 0} {true_row : RowFacts → Type 0} {told : Bool} {shows : K → ShownKeeper} (index : StateFacts K) → IndexInvariant true_row told shows index → HasRows true_row index
rows_held index h =
    let sound = h.rows_sorted_and_true in record {
      ascends = sound.ascend;
      holds = λ k d within. record { holds = sound.holds k d within; edition = sound.edition k d within; spelled = sound.spelled k d within };
      replays = h.rows_replay_the_log.names;
    }

-- a walk of its parts
abbrev pub walk_from : List Found → Place → ℕ → WalkFacts
walk_from kept place heard = record { kept = kept; place = place; heard = heard }

-- what is kept of the row, if there is one
abbrev pub shown : (Found → Bool) → Option RowFacts → Option Found
shown keeps None = None
shown keeps (Some row) = sieved keeps (found_of row)

-- the same, of what was looked at
abbrev pub look_path : Look → List ℕ
look_path (Gone path) = path
look_path (There found) = found.path

abbrev pub look_shows : (Found → Bool) → Look → Option Found
look_shows keeps (Gone path) = None
look_shows keeps (There found) = sieved keeps found

-- nothing before all others is found
pub find_before : {X : Type 0} (path : X → List ℕ) (key : List ℕ) (xs : List X) → All (λ x. IsBefore key (path x)) xs → find_at path key xs ≡ None
find_before path key xs after =
    find_none (λ x. bytes_eq (path x) key) xs (All-weaker (λ x. IsBefore key (path x)) (λ x. bytes_eq (path x) key ≡ false) (λ x. differs_after key (path x)) xs after)

-- what is found among what f gives
pub find_named : (path : List ℕ) (rows : List RowFacts) → name_at path (row_names rows) ≡ option_map (λ (row : RowFacts). row.name) (row_at path rows)
find_named path [] = refl
find_named path (row ∷ rows) =
    elim (bytes_eq row.name.path path) as (λ b. cond b (Some row.name) (name_at path (row_names rows)) ≡ option_map (λ (r : RowFacts). r.name) (cond b (Some row) (row_at path rows)))
    [ true ↦ refl | false ↦ find_named path rows ]

-- what stands in the index is what is to be kept of the path
pub row_kept : {true_row : RowFacts → Type 0} (keeps : Found → Bool) {K : Type 0} (index : StateFacts K) (path : List ℕ) → HasRows true_row index → IsKeptOf true_row keeps (name_at path (replay index.log)) (shown keeps (row_at path index.rows))
row_kept {true_row} keeps index path h =
    let name_is : name_at path (replay index.log) ≡ option_map (λ (r : RowFacts). r.name) (row_at path index.rows) = ap (name_at path) (sym h.replays) ∙ find_named path index.rows in
    subst (λ (n : Option NameFacts). IsKeptOf true_row keeps n (shown keeps (row_at path index.rows))) (sym name_is) (of (row_at path index.rows) refl)
  where
    of : (o : Option RowFacts) → row_at path index.rows ≡ o → IsKeptOf true_row keeps (option_map (λ (r : RowFacts). r.name) o) (shown keeps o)
    of None e = refl
    of (Some row) e =
        let found : IsFound (λ r. bytes_eq (row_path r) path) index.rows row = found_there (λ r. bytes_eq (row_path r) path) index.rows row e in
        (row, subst (IsTrueRow true_row) found.there (h.holds found.place row found.within), refl, refl)

-- the row that is found has the path
pub row_path_is : (path : List ℕ) (rows : List RowFacts) (row : RowFacts) → row_at path rows ≡ Some row → row.name.path ≡ path
row_path_is path rows row e =
    let found : IsFound (λ r. bytes_eq (row_path r) path) rows row = found_there (λ r. bytes_eq (row_path r) path) rows row e in
    (bytes_eq-Decides row.name.path path).0 found.passes

module _ (keeps : Found → Bool) (path : List ℕ) (kept : List Found) where
  -- what is found after a look
  pub find_look : (look : Look) → find_at found_path path (after_look keeps kept look) ≡ cond (bytes_eq (look_path look) path) (look_shows keeps look) (find_at found_path path kept)
  find_look (Gone gone) = find_without found_path path gone kept
  find_look (There found) =
      elim (keeps found) as (λ b. find_at found_path path (if b then put_at found_path found kept else without_at found_path found.path kept) ≡ cond (bytes_eq found.path path) (if b then Some found else None) (find_at found_path path kept))
      [ true ↦ find_put found_path path found kept | false ↦ find_without found_path path found.path kept ]

  -- what is found after a row
  pub find_row : (found : Found) → find_at found_path path (after_row keeps kept found) ≡ cond (bytes_eq found.path path) (cond (keeps found) (Some found) (find_at found_path path kept)) (find_at found_path path kept)
  find_row found =
      elim (keeps found) as (λ b. find_at found_path path (if b then put_at found_path found kept else kept) ≡ cond (bytes_eq found.path path) (cond b (Some found) (find_at found_path path kept)) (find_at found_path path kept))
      [ true ↦ find_put found_path path found kept | false ↦ same (bytes_eq found.path path) ]
    where
      same : (b : Bool) → find_at found_path path kept ≡ cond b (find_at found_path path kept) (find_at found_path path kept)
      same true = refl
      same false = refl

-- a look and a row keep the order
pub look_ascends : (keeps : Found → Bool) (kept : List Found) (look : Look) → AscendsBy found_path kept → AscendsBy found_path (after_look keeps kept look)
look_ascends keeps kept (Gone gone) h = without_ascends found_path gone kept h
look_ascends keeps kept (There found) h =
    elim (keeps found) as (λ b. AscendsBy found_path (if b then put_at found_path found kept else without_at found_path found.path kept))
    [ true ↦ put_ascends found_path found kept h | false ↦ without_ascends found_path found.path kept h ]

pub row_ascends : (keeps : Found → Bool) (kept : List Found) (found : Found) → AscendsBy found_path kept → AscendsBy found_path (after_row keeps kept found)
row_ascends keeps kept found h =
    elim (keeps found) as (λ b. AscendsBy found_path (if b then put_at found_path found kept else kept))
    [ true ↦ put_ascends found_path found kept h | false ↦ h ]

-- a walk of a log is one of each log that it grows to
pub walk_later : {true_row : RowFacts → Type 0} {keeps : Found → Bool} (before log : List Change) (walk : WalkFacts) → IsPrefix before log → IsWalk true_row keeps before walk → IsWalk true_row keeps log walk
walk_later {true_row} {keeps} before log walk more h =
    subst (λ (l : List Change). IsWalk true_row keeps l walk) more.1 (record {
      heard = omega (arith, h.heard, length-append before more.0);
      ascends = h.ascends;
      stands = λ path there unnamed.
          let apart : (is_named path (drop walk.heard before) || is_named path more.0) ≡ false =
          sym (list_any-append (λ (c : Change). bytes_eq c.name.path path) (drop walk.heard before) more.0) ∙ ap (is_named path) (sym (drop-append-le walk.heard before more.0 h.heard)) ∙ unnamed in
          let stays : name_at path (replay (before ++ more.0)) ≡ name_at path (replay before) = name_stays path before more.0 (or_second (is_named path (drop walk.heard before)) (is_named path more.0) apart) in
          subst (λ (n : Option NameFacts). IsKeptOf true_row keeps n (find_at found_path path walk.kept)) (sym stays)
          (h.stands path there (or_first (is_named path (drop walk.heard before)) (is_named path more.0) apart));
      behind = h.behind;
    })

-- the list behind one more
pub drop_next : {X : Type 0} (xs : List X) (n : ℕ) (x : X) (rest : List X) → drop n xs ≡ x ∷ rest → (n + 1 ≤ length xs) × (drop (n + 1) xs ≡ rest)
drop_next xs n x rest e =
    let long : n < length xs = omega (arith, length-drop n xs, ap length e) in
    let both : get_or xs n x ∷ drop (suc n) xs ≡ x ∷ rest = sym (drop-cons xs n x long) ∙ e in
    let tail : drop (suc n) xs ≡ rest = cc in
    (omega arith, ap (λ k. drop k xs) (add-one n) ∙ tail)

-- a path that is the other's isn't apart from it
apart_from : (path other : List ℕ) → (path ≡ other → ⊥) → bytes_eq path other ≡ false
apart_from path other differs =
    elim (bytes_eq path other) as (λ b. bytes_eq path other ≡ b → b ≡ false)
    [ true ↦ λ e. absurd (differs ((bytes_eq-Decides path other).0 e)) | false ↦ λ e. refl ] refl

-- a path that is behind the place isn't one that isn't
behind_apart : (place : Place) (path other : List ℕ) → is_behind place path ≡ true → is_behind place other ≡ false → bytes_eq path other ≡ false
behind_apart place path other behind there = apart_from path other (λ same. true≢false (sym behind ∙ ap (is_behind place) same ∙ there))

module _ {true_row : RowFacts → Type 0} (keeps : Found → Bool) {K : Type 0} (index : StateFacts K) (h : HasRows true_row index) where
  -- what was looked at shows what is to be kept
  look_kept : (path : List ℕ) → (look_path (look_at path index.rows) ≡ path) × (look_shows keeps (look_at path index.rows) ≡ shown keeps (row_at path index.rows))
  look_kept path = of (row_at path index.rows) refl
    where
      of : (o : Option RowFacts) → row_at path index.rows ≡ o → (look_path (look_from path o) ≡ path) × (look_shows keeps (look_from path o) ≡ shown keeps o)
      of None e = (refl, refl)
      of (Some row) e = (row_path_is path index.rows row e, refl)

  -- once it was looked at a path up to the place, that the first change that wasn't heard of names
  mend_there : (kept : List Found) (place : Place) (heard : ℕ) (change : Change) (rest : List Change) → drop heard index.log ≡ change ∷ rest → is_behind place change.name.path ≡ false → IsWalk true_row keeps index.log (walk_from kept place heard)
      → IsWalk true_row keeps index.log (walk_from (after_look keeps kept (look_at change.name.path index.rows)) place (heard + 1))
  mend_there kept place heard change rest next up w =
      let further = drop_next index.log heard change rest next in
      let looked = look_kept change.name.path in
      let finds : (path : List ℕ) → find_at found_path path (after_look keeps kept (look_at change.name.path index.rows)) ≡ cond (bytes_eq change.name.path path) (shown keeps (row_at change.name.path index.rows)) (find_at found_path path kept) =
      λ path. find_look keeps path kept (look_at change.name.path index.rows)
      ∙ ap (λ q. cond (bytes_eq q path) (look_shows keeps (look_at change.name.path index.rows)) (find_at found_path path kept)) looked.0
      ∙ ap (λ (o : Option Found). cond (bytes_eq change.name.path path) o (find_at found_path path kept)) looked.1 in
      record {
        heard = further.0;
        ascends = look_ascends keeps kept (look_at change.name.path index.rows) w.ascends;
        stands = λ path there unnamed.
            subst (IsKeptOf true_row keeps (name_at path (replay index.log))) (sym (finds path))
            ((elim (bytes_eq change.name.path path) as (λ b. bytes_eq change.name.path path ≡ b → IsKeptOf true_row keeps (name_at path (replay index.log)) (cond b (shown keeps (row_at change.name.path index.rows)) (find_at found_path path kept))) [
              | true ↦ λ e. subst (λ (q : List ℕ). IsKeptOf true_row keeps (name_at q (replay index.log)) (shown keeps (row_at change.name.path index.rows))) ((bytes_eq-Decides change.name.path path).0 e) (row_kept keeps index change.name.path h)
              | false ↦ λ e. w.stands path there (ap (is_named path) next ∙ ap (λ b. b || is_named path rest) e ∙ ap (is_named path) (sym further.1) ∙ unnamed)
            ]) refl);
        behind = λ path behind.
            finds path
            ∙ ap (λ b. cond b (shown keeps (row_at change.name.path index.rows)) (find_at found_path path kept)) (same_turned change.name.path path ∙ behind_apart place path change.name.path behind up)
            ∙ w.behind path behind;
      }

  -- once a change of a path behind the place was heard of
  mend_behind : (kept : List Found) (place : Place) (heard : ℕ) (change : Change) (rest : List Change) → drop heard index.log ≡ change ∷ rest → is_behind place change.name.path ≡ true → IsWalk true_row keeps index.log (walk_from kept place heard)
      → IsWalk true_row keeps index.log (walk_from kept place (heard + 1))
  mend_behind kept place heard change rest next back w =
      let further = drop_next index.log heard change rest next in
      record {
        heard = further.0;
        ascends = w.ascends;
        stands = λ path there unnamed.
            w.stands path there
            (ap (is_named path) next ∙ ap (λ b. b || is_named path rest) (behind_apart place change.name.path path back there) ∙ ap (is_named path) (sym further.1) ∙ unnamed);
        behind = w.behind;
      }

  -- once it was looked at the paths up to the place that the next changes name
  pub mends : (changes rest : List Change) (kept : List Found) (place : Place) (heard : ℕ) → drop heard index.log ≡ changes ++ rest → IsWalk true_row keeps index.log (walk_from kept place heard)
      → IsWalk true_row keeps index.log (walk_from (fold (after_look keeps) kept (looks_of place index.rows changes)) place (heard + length changes))
  mends [] rest kept place heard next w = subst (λ (n : ℕ). IsWalk true_row keeps index.log (walk_from kept place n)) (let e : heard ≡ heard + 0 = omega arith in e) w
  mends (change ∷ changes) rest kept place heard next w =
      (elim (is_behind place change.name.path) as (λ b. is_behind place change.name.path ≡ b → IsWalk true_row keeps index.log (walk_from (fold (after_look keeps) kept (map (λ (c : Change). look_at c.name.path index.rows) (cond (not b) (change ∷ changes_up_to place changes) (changes_up_to place changes)))) place (heard + suc (length changes)))) [
        | true ↦ λ e. longer kept (mends changes rest kept place (heard + 1) tail (mend_behind kept place heard change (changes ++ rest) next e w))
        | false ↦ λ e. longer (after_look keeps kept (look_at change.name.path index.rows))
            (mends changes rest (after_look keeps kept (look_at change.name.path index.rows)) place (heard + 1) tail (mend_there kept place heard change (changes ++ rest) next e w))
      ]) refl
    where
      tail : drop (heard + 1) index.log ≡ changes ++ rest
      tail = (drop_next index.log heard change (changes ++ rest) next).1

      longer : (now : List Found) → IsWalk true_row keeps index.log (walk_from (fold (after_look keeps) now (looks_of place index.rows changes)) place ((heard + 1) + length changes))
          → IsWalk true_row keeps index.log (walk_from (fold (after_look keeps) now (looks_of place index.rows changes)) place (heard + suc (length changes)))
      longer now v =
          let e : (heard + 1) + length changes ≡ heard + suc (length changes) = omega arith in
          subst (λ (n : ℕ). IsWalk true_row keeps index.log (walk_from (fold (after_look keeps) now (looks_of place index.rows changes)) place n)) e v

-- the rows behind the place, in order
pub record AreBehind (place : Place) (rows all : List RowFacts) : Type 0 where
  pub finds : (path : List ℕ) → is_behind place path ≡ true → row_at path rows ≡ row_at path all
  pub ascends : AscendsBy row_path all
  pub each : All (λ row. is_behind place row.name.path ≡ true) all

-- they are those that the test of the place keeps
pub are_behind : (place : Place) (rows : List RowFacts) → AscendsBy row_path rows → AreBehind place rows (rows_behind place rows)
are_behind place rows ascends = record {
  finds = λ path behind. sym (find_kept row_path path (is_behind place) rows ∙ ap (λ b. cond b (row_at path rows) None) behind);
  ascends = AllPairs-filter (λ x y. IsBefore (row_path x) (row_path y)) (λ row. is_behind place row.name.path) rows ascends;
  each = filter_passes (λ row. is_behind place row.name.path) rows;
}

-- what stands behind a path that is behind the place is behind it too
pub behind_further : (place : Place) (path other : List ℕ) → is_behind place path ≡ true → is_before path other ≡ true → is_behind place other ≡ true
behind_further Start path other first second = refl
behind_further (At reached) path other first second = tests_before reached other (nat_list_cmp_total.trans reached path other (before_from_test reached path first) (before_from_test path other second))
behind_further End path other first second = absurd (false≢true first)

-- a path is another's, or before it, where it isn't behind it
not_behind : (path other : List ℕ) → is_before path other ≡ false → bytes_eq path other ≡ false → IsBefore other path
not_behind path other fails apart = of (slice_cmp nat_cmp path other) refl
  where
    of : (o : Ordering) → slice_cmp nat_cmp path other ≡ o → IsBefore other path
    of Less e = absurd (true≢false (sym (tests_before path other e) ∙ fails))
    of Equal e = absurd (true≢false (sym ((bytes_eq-Decides path other).1 (exact_bytes path other e)) ∙ apart))
    of Greater e = before_after path other e

-- the place of the last row, or else the place
abbrev pub reached : Place → List RowFacts → Place
reached place [] = place
reached place (row ∷ rows) = reached (At row.name.path) rows

reached_last : (place : Place) (front : List RowFacts) (last : RowFacts) → reached place (front ++ last ∷ []) ≡ At last.name.path
reached_last place [] last = refl
reached_last place (row ∷ front) last = reached_last (At row.name.path) front last

module _ {true_row : RowFacts → Type 0} (keeps : Found → Bool) {K : Type 0} (index : StateFacts K) (h : HasRows true_row index) where
  -- once the next row was seen
  see_row : (kept : List Found) (place : Place) (heard : ℕ) (row : RowFacts) (rest : List RowFacts) → AreBehind place index.rows (row ∷ rest) → IsWalk true_row keeps index.log (walk_from kept place heard)
      → IsWalk true_row keeps index.log (walk_from (after_row keeps kept (found_of row)) (At row.name.path) heard)
  see_row kept place heard row rest b w = record {
    heard = w.heard;
    ascends = row_ascends keeps kept (found_of row) w.ascends;
    stands = λ path there unnamed.
        (elim (is_behind place path) as (λ t. is_behind place path ≡ t → IsKeptOf true_row keeps (name_at path (replay index.log)) (find_at found_path path (after_row keeps kept (found_of row)))) [
          | true ↦ λ e. subst (IsKeptOf true_row keeps (name_at path (replay index.log))) (sym (new path e there)) (row_kept keeps index path h)
          | false ↦ λ e. subst (IsKeptOf true_row keeps (name_at path (replay index.log)))
              (sym (find_row keeps path kept (found_of row) ∙ ap (λ t. cond t (cond (keeps (found_of row)) (Some (found_of row)) (find_at found_path path kept)) (find_at found_path path kept)) (behind_apart place row.name.path path first e)))
              (w.stands path e unnamed)
        ]) refl;
    behind = λ path after.
        find_row keeps path kept (found_of row)
        ∙ ap (λ t. cond t (cond (keeps (found_of row)) (Some (found_of row)) (find_at found_path path kept)) (find_at found_path path kept)) (before_differs row.name.path path (before_from_test row.name.path path after))
        ∙ w.behind path (behind_further place row.name.path path first after);
  }
    where
      first : is_behind place row.name.path ≡ true
      first = All-head (λ (r : RowFacts). is_behind place r.name.path ≡ true) row rest b.each

      later : (path : List ℕ) → IsBefore path row.name.path → All (λ r. IsBefore path (row_path r)) rest
      later path before =
          All-weaker (λ r. IsBefore row.name.path (row_path r)) (λ r. IsBefore path (row_path r))
          (λ r after. nat_list_cmp_total.trans path row.name.path (row_path r) before after) rest
          (first_related (λ x y. IsBefore (row_path x) (row_path y)) row rest b.ascends)

      new : (path : List ℕ) → is_behind place path ≡ true → is_before row.name.path path ≡ false → find_at found_path path (after_row keeps kept (found_of row)) ≡ shown keeps (row_at path index.rows)
      new path behind up =
          find_row keeps path kept (found_of row)
          ∙ ap (λ (o : Option Found). cond (bytes_eq row.name.path path) (cond (keeps (found_of row)) (Some (found_of row)) o) o) (w.behind path behind)
          ∙ ((elim (bytes_eq row.name.path path) as (λ t. bytes_eq row.name.path path ≡ t → cond t (cond (keeps (found_of row)) (Some (found_of row)) None) None ≡ shown keeps (cond t (Some row) (row_at path rest))) [
            | true ↦ λ e. refl
            | false ↦ λ e. ap (shown keeps) (sym (find_before row_path path rest (later path (not_behind row.name.path path up e))))
          ]) refl)
          ∙ ap (shown keeps) (sym (b.finds path behind))

  -- the rows behind the next row
  behind_row : (place : Place) (row : RowFacts) (rest : List RowFacts) → AreBehind place index.rows (row ∷ rest) → AreBehind (At row.name.path) index.rows rest
  behind_row place row rest b = record {
    finds = λ path after.
        b.finds path (behind_further place row.name.path path (All-head (λ (r : RowFacts). is_behind place r.name.path ≡ true) row rest b.each) after)
        ∙ ap (λ t. cond t (Some row) (row_at path rest)) (before_differs row.name.path path (before_from_test row.name.path path after));
    ascends = rest_related (λ x y. IsBefore (row_path x) (row_path y)) row rest b.ascends;
    each = All-weaker (λ r. IsBefore row.name.path (row_path r)) (λ r. is_before row.name.path r.name.path ≡ true)
        (λ r. tests_before row.name.path (row_path r)) rest
        (first_related (λ x y. IsBefore (row_path x) (row_path y)) row rest b.ascends);
  }

  -- once the next rows were seen
  sees : (fresh left : List RowFacts) (kept : List Found) (place : Place) (heard : ℕ) → AreBehind place index.rows (fresh ++ left) → IsWalk true_row keeps index.log (walk_from kept place heard)
      → IsWalk true_row keeps index.log (walk_from (fold (after_row keeps) kept (map found_of fresh)) (reached place fresh) heard) × AreBehind (reached place fresh) index.rows left
  sees [] left kept place heard b w = (w, b)
  sees (row ∷ fresh) left kept place heard b w =
      sees fresh left (after_row keeps kept (found_of row)) (At row.name.path) heard (behind_row place row (fresh ++ left) b) (see_row kept place heard row (fresh ++ left) b w)

  -- once all rows were seen
  see_end : (kept : List Found) (place : Place) (heard : ℕ) → AreBehind place index.rows [] → IsWalk true_row keeps index.log (walk_from kept place heard) → IsWalk true_row keeps index.log (walk_from kept End heard)
  see_end kept place heard b w = record {
    heard = w.heard;
    ascends = w.ascends;
    stands = λ path there unnamed.
        (elim (is_behind place path) as (λ t. is_behind place path ≡ t → IsKeptOf true_row keeps (name_at path (replay index.log)) (find_at found_path path kept)) [
          | true ↦ λ e. subst (IsKeptOf true_row keeps (name_at path (replay index.log))) (ap (shown keeps) (b.finds path e) ∙ sym (w.behind path e)) (row_kept keeps index path h)
          | false ↦ λ e. w.stands path e unnamed
        ]) refl;
    behind = λ path behind. absurd (false≢true behind);
  }

  -- once the next rows were seen, as far as they go
  pub copies : (walk : WalkFacts) (rows : List Found) (place : Place) → CopiesNext (rows_behind walk.place index.rows) rows place → IsWalk true_row keeps index.log walk
      → IsWalk true_row keeps index.log (walk_from (fold (after_row keeps) walk.kept rows) place walk.heard)
  copies walk rows place next w =
      subst (λ (fs : List Found). IsWalk true_row keeps index.log (walk_from (fold (after_row keeps) walk.kept fs) place walk.heard)) (sym next.next.are)
      (of place next.goes)
    where
      start : AreBehind walk.place index.rows (next.next.fresh ++ next.left)
      start = subst (AreBehind walk.place index.rows) (sym next.next.split) (are_behind walk.place index.rows h.ascends)

      seen : IsWalk true_row keeps index.log (walk_from (fold (after_row keeps) walk.kept (map found_of next.next.fresh)) (reached walk.place next.next.fresh) walk.heard) × AreBehind (reached walk.place next.next.fresh) index.rows next.left
      seen = sees next.next.fresh next.left walk.kept walk.place walk.heard start w

      of : (place : Place) → Reaches next.next.fresh next.left place → IsWalk true_row keeps index.log (walk_from (fold (after_row keeps) walk.kept (map found_of next.next.fresh)) place walk.heard)
      of Start goes = absurd goes
      of (At path) goes =
          subst (λ (p : Place). IsWalk true_row keeps index.log (walk_from (fold (after_row keeps) walk.kept (map found_of next.next.fresh)) p walk.heard))
          (ap (reached walk.place) goes.1.whole ∙ reached_last walk.place goes.1.front goes.1.last ∙ ap At goes.1.its) seen.0
      of End goes = see_end (fold (after_row keeps) walk.kept (map found_of next.next.fresh)) (reached walk.place next.next.fresh) walk.heard (subst (AreBehind (reached walk.place next.next.fresh) index.rows) goes seen.1) seen.0
