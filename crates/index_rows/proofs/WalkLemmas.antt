-- What is found at the paths that count under an id is the filter of all rows, in path order.
use Rattle.std.proofs.Common.{◌≡◌, ◌⊎◌, inl, inr, ℕ, ◌<◌, Bool, true, false, cond, List, [], ◌∷◌, ◌++◌, Option, None, Some, refl, sym, ◌∙◌, ap, subst, arith}
use Rattle.std.specs.Prelude.{◌&&◌, nat_lt, if◌then◌else◌}
use Rattle.std.specs.List.{All, AllPairs, filter}
use Rattle.std.specs.Option.{option_map_or, option_to_list}
use Rattle.std.specs.Str.{bytes_eq}
use Rattle.std.proofs.lemmas.Bool.{lt-ltb, ltb-true, true≢false}
use Rattle.std.proofs.lemmas.Cmp.{nat_list_cmp_total}
use Rattle.std.proofs.lemmas.List.Elements.{All-cons, All-head, All-tail, All-nil}
use Rattle.std.proofs.lemmas.List.Kept.{AllPairs-cons, AllPairs-filter}
use Rattle.std.proofs.lemmas.Slice.Eq.{bytes_eq-Decides}
use Rattle.row_types.specs.Ascends.{AscendsBy, IsBefore}
use Rattle.row_types.specs.Row.{RowFacts}
use Rattle.row_types.specs.declared.identity.Kind.{Kind}
use Rattle.row_types.specs.declared.reading.Reading.{Reading}
use Rattle.row_types.specs.declared.reading.Reading.TheVariants.{Plain, Elf}
use Rattle.row_types.proofs.AscendsLemmas.{before_differs}
use Rattle.index_rows.specs.ByPath.{find_at}
use Rattle.index_rows.specs.Classes.{has_class, has_id}
use Rattle.index_rows.specs.Left.{is_wanted}
use Rattle.index_rows.specs.Rows.{row_at, row_path}
use Rattle.index_rows.specs.Table.{id_counts, rows_at, walked}
use Rattle.index_rows.specs.Tally.{count_at, tallied_path}
use Rattle.index_rows.specs.declared.tally.Tallied.{Tallied}
use Rattle.index_rows.proofs.HasLemmas.{Has, all_from, all_has, filter_has, has_either, has_filter, has_left, has_right}
use Rattle.index_rows.proofs.Lists.{first_related, rest_related}
use Rattle.index_rows.proofs.TotalLemmas.{Has as HasRow, has_total, id_its, id_own, total_has}

module _ {X : Type 0} (path : X → List ℕ) where
  abbrev Before : X → X → Type 0
  Before x y = IsBefore (path x) (path y)

  itself : (a b : X) → Before a b → path a ≡ path b → ⊥
  itself a b before same = true≢false (sym ((bytes_eq-Decides (path a) (path b)).1 same) ∙ before_differs (path a) (path b) before)

  never_both : (a b : X) → Before a b → Before b a → ⊥
  never_both a b p q = itself a a (nat_list_cmp_total.trans (path a) (path b) (path a) p q) refl

  -- lists by path with the same members are the same
  same_by : (xs ys : List X) → AscendsBy path xs → AscendsBy path ys → ((x : X) → Has xs x → Has ys x) → ((x : X) → Has ys x → Has xs x) → xs ≡ ys
  same_by [] [] p q to from = refl
  same_by [] (y ∷ ys) p q to from = absurd (from y (inl refl))
  same_by (x ∷ xs) [] p q to from = absurd (to x (inl refl))
  same_by (x ∷ xs) (y ∷ ys) p q to from =
      let same : x ≡ y = heads (to x (inl refl)) (from y (inl refl)) in
      ap (λ k. k ∷ xs) same
      ∙ ap (λ l. y ∷ l) (same_by xs ys (rest_related Before x xs p) (rest_related Before y ys q)
      (λ k h. behind ys k y (subst (λ (z : X). Before z k) same (all_has (Before x) xs k (first_related Before x xs p) h)) (to k (inr h)))
      (λ k h. behind xs k x (subst (λ (z : X). Before z k) (sym same) (all_has (Before y) ys k (first_related Before y ys q) h)) (from k (inr h))))
    where
      heads : (x ≡ y) ⊎ Has ys x → (y ≡ x) ⊎ Has xs y → x ≡ y
      heads (inl e) other = e
      heads (inr h) (inl e) = sym e
      heads (inr h) (inr g) = absurd (never_both x y (all_has (Before x) xs y (first_related Before x xs p) g) (all_has (Before y) ys x (first_related Before y ys q) h))

      behind : (zs : List X) (k first : X) → Before first k → (k ≡ first) ⊎ Has zs k → Has zs k
      behind zs k first before (inl e) = absurd (itself first k before (sym (ap path e)))
      behind zs k first before (inr h) = h

  -- what is found is there, and has the path
  found : (key : List ℕ) (xs : List X) (x : X) → find_at path key xs ≡ Some x → Has xs x × (path x ≡ key)
  found key [] x e = absurd (let f = e in cc)
  found key (y ∷ ys) x e =
      elim (bytes_eq (path y) key) as (λ b. bytes_eq (path y) key ≡ b → cond b (Some y) (find_at path key ys) ≡ Some x → Has (y ∷ ys) x × (path x ≡ key)) [
        | true ↦ λ t f. let same : y ≡ x = cc in (inl (sym same), ap path (sym same) ∙ (bytes_eq-Decides (path y) key).0 t)
        | false ↦ λ t f. let r = found key ys x f in (inr r.0, r.1)
      ] refl e

  -- what is there is found by its path
  finds_own : (xs : List X) (x : X) → AscendsBy path xs → Has xs x → find_at path (path x) xs ≡ Some x
  finds_own [] x a h = absurd h
  finds_own (y ∷ ys) x a (inl e) =
      let same : bytes_eq (path y) (path x) ≡ true = (bytes_eq-Decides (path y) (path x)).1 (ap path (sym e)) in
      rw same (ap Some (sym e))
  finds_own (y ∷ ys) x a (inr h) =
      let other : bytes_eq (path y) (path x) ≡ false = before_differs (path y) (path x) (all_has (Before y) ys x (first_related Before y ys a) h) in
      rw other (finds_own ys x (rest_related Before y ys a) h)

pairs_joined : {X : Type 0} (R : X → X → Type 0) (xs ys : List X) → AllPairs R xs → AllPairs R ys → ((x y : X) → Has xs x → Has ys y → R x y) → AllPairs R (xs ++ ys)
pairs_joined R [] ys p q across = q
pairs_joined R (x ∷ xs) ys p q across =
    AllPairs-cons R x (xs ++ ys)
    (all_from (R x) (xs ++ ys) (λ y h. elim (has_either xs ys y h) [ inl a ↦ all_has (R x) xs y (first_related R x xs p) a | inr b ↦ across x y (inl refl) b ]))
    (pairs_joined R xs ys (rest_related R x xs p) q (λ z y h g. across z y (inr h) g))

at_most_one : {X : Type 0} (R : X → X → Type 0) (b : Bool) (o : Option X) → AllPairs R (if b then option_to_list o else [])
at_most_one R false o = λ i j d less within. absurd (omega arith)
at_most_one R true None = λ i j d less within. absurd (omega arith)
at_most_one R true (Some x) = AllPairs-cons R x [] (All-nil (R x)) (λ i j d less within. absurd (omega arith))

-- the row at a path that counts
abbrev shown : Tallied → List RowFacts → List RowFacts
shown entry rows = if nat_lt 0 entry.count then option_to_list (row_at entry.path rows) else []

one_shown : (entry : Tallied) (rows : List RowFacts) (row : RowFacts) → Has (shown entry rows) row → (nat_lt 0 entry.count ≡ true) × (row_at entry.path rows ≡ Some row)
one_shown entry rows row h =
    elim (nat_lt 0 entry.count) as (λ b. nat_lt 0 entry.count ≡ b → Has (if b then option_to_list (row_at entry.path rows) else []) row → (nat_lt 0 entry.count ≡ true) × (row_at entry.path rows ≡ Some row))
    [ true ↦ λ t g. (t, own (row_at entry.path rows) g) | false ↦ λ t g. absurd g ] refl h
  where
    own : (o : Option RowFacts) → Has (option_to_list o) row → o ≡ Some row
    own None g = absurd g
    own (Some y) (inl same) = ap Some (sym same)
    own (Some y) (inr none) = absurd none

walked_from : (entries : List Tallied) (rows : List RowFacts) (row : RowFacts) → Has (walked entries rows) row → (entry : Tallied) × Has entries entry × (nat_lt 0 entry.count ≡ true) × (row_at entry.path rows ≡ Some row)
walked_from [] rows row h = absurd h
walked_from (entry ∷ entries) rows row h =
    elim (has_either (shown entry rows) (walked entries rows) row h) [
      | inl a ↦ let r = one_shown entry rows row a in (entry, inl refl, r.0, r.1)
      | inr b ↦ let r = walked_from entries rows row b in (r.0, inr r.1, r.2, r.3)
    ]

walked_to : (entries : List Tallied) (rows : List RowFacts) (row : RowFacts) (entry : Tallied) → Has entries entry → nat_lt 0 entry.count ≡ true → row_at entry.path rows ≡ Some row → Has (walked entries rows) row
walked_to [] rows row entry h counts e = absurd h
walked_to (first ∷ entries) rows row entry (inl same) counts e =
    let it : nat_lt 0 first.count ≡ true = ap (λ (t : Tallied). nat_lt 0 t.count) (sym same) ∙ counts in
    let there : row_at first.path rows ≡ Some row = ap (λ (t : Tallied). row_at t.path rows) (sym same) ∙ e in
    has_left (shown first rows) (walked entries rows) row
    (subst (λ b. Has (if b then option_to_list (row_at first.path rows) else []) row) (sym it) (subst (λ (o : Option RowFacts). Has (option_to_list o) row) (sym there) (inl refl)))
walked_to (first ∷ entries) rows row entry (inr h) counts e = has_right (shown first rows) (walked entries rows) row (walked_to entries rows row entry h counts e)

abbrev RowBefore : RowFacts → RowFacts → Type 0
RowBefore x y = IsBefore (row_path x) (row_path y)

abbrev EntryBefore : Tallied → Tallied → Type 0
EntryBefore x y = IsBefore (tallied_path x) (tallied_path y)

walked_ascends : (entries : List Tallied) (rows : List RowFacts) → AscendsBy tallied_path entries → AscendsBy row_path (walked entries rows)
walked_ascends [] rows a = λ i j d less within. absurd (omega arith)
walked_ascends (entry ∷ entries) rows a =
    pairs_joined RowBefore (shown entry rows) (walked entries rows) (at_most_one RowBefore (nat_lt 0 entry.count) (row_at entry.path rows))
    (walked_ascends entries rows (rest_related EntryBefore entry entries a))
    (λ x y h g.
    let r = one_shown entry rows x h in
    let s = walked_from entries rows y g in
    let first : IsBefore entry.path s.0.path = all_has (EntryBefore entry) entries s.0 (first_related EntryBefore entry entries a) s.1 in
    subst (λ k. IsBefore k (row_path y)) (sym (found row_path entry.path rows x r.1).1) (subst (IsBefore entry.path) (sym (found row_path s.0.path rows y s.3).1) first))

-- a row that is among them by one word is so by the other
row_has : (rows : List RowFacts) (row : RowFacts) → HasRow rows row → Has rows row
row_has [] row h = absurd h
row_has (first ∷ rows) row (inl e) = inl e
row_has (first ∷ rows) row (inr h) = inr (row_has rows row h)

has_row : (rows : List RowFacts) (row : RowFacts) → Has rows row → HasRow rows row
has_row [] row h = absurd h
has_row (first ∷ rows) row (inl e) = inl e
has_row (first ∷ rows) row (inr h) = inr (has_row rows row h)

module _ (id : List ℕ) (entries : List Tallied) (rows : List RowFacts) (counted : (path : List ℕ) → count_at path entries ≡ rows_at id path rows) (ascends : AscendsBy row_path rows) (by_path : AscendsBy tallied_path entries) where
  -- at a path that counts stands a row with the id
  counts_own : (entry : Tallied) (row : RowFacts) → Has entries entry → nat_lt 0 entry.count ≡ true → row_at entry.path rows ≡ Some row → has_id id row.reading ≡ true
  counts_own entry row h counts e =
      let number : count_at entry.path entries ≡ entry.count = ap (λ (o : Option Tallied). option_map_or (λ (t : Tallied). t.count) o 0) (finds_own tallied_path entries entry by_path h) in
      let many : 0 < rows_at id entry.path rows = subst (λ (n : ℕ). 0 < n) (sym number ∙ counted entry.path) (ltb-true 0 entry.count counts) in
      let one = total_has (λ (r : RowFacts). id_counts r.reading r.name.path id entry.path) rows many in
      let its = id_its one.0.reading one.0.name.path id entry.path one.2 in
      let there : row_at entry.path rows ≡ Some one.0 = ap (λ (p : List ℕ). row_at p rows) (sym its.1) ∙ finds_own row_path rows one.0 ascends (row_has rows one.0 one.1) in
      let both : Some row ≡ Some one.0 = sym e ∙ there in
      let same : row ≡ one.0 = cc in
      ap (λ (r : RowFacts). has_id id r.reading) same ∙ its.0

  -- the path of a row with the id counts
  own_counts : (row : RowFacts) → Has rows row → has_id id row.reading ≡ true → (entry : Tallied) × Has entries entry × (nat_lt 0 entry.count ≡ true) × (entry.path ≡ row.name.path)
  own_counts row h passes =
      let own : id_counts row.reading row.name.path id row.name.path ≡ 1 = id_own row.reading row.name.path id passes in
      let few = has_total (λ (r : RowFacts). id_counts r.reading r.name.path id row.name.path) rows row (has_row rows row h) in
      let many : 0 < count_at row.name.path entries = omega (arith, own, few, counted row.name.path) in
      entry_of (find_at tallied_path row.name.path entries) refl many
    where
      entry_of : (o : Option Tallied) → find_at tallied_path row.name.path entries ≡ o → 0 < option_map_or (λ (t : Tallied). t.count) o 0 → (entry : Tallied) × Has entries entry × (nat_lt 0 entry.count ≡ true) × (entry.path ≡ row.name.path)
      entry_of None e many = absurd (omega (arith, many))
      entry_of (Some entry) e many =
          let r = found tallied_path row.name.path entries entry e in
          (entry, r.0, lt-ltb 0 entry.count many, r.1)

  -- what is found at the paths that count are the rows with the id
  pub walk_is : walked entries rows ≡ filter (λ row. has_id id row.reading) rows
  walk_is =
      same_by row_path (walked entries rows) (filter (λ row. has_id id row.reading) rows)
      (walked_ascends entries rows by_path) (AllPairs-filter RowBefore (λ row. has_id id row.reading) rows ascends)
      (λ row h.
      let r = walked_from entries rows row h in
      filter_has (λ x. has_id id x.reading) rows row (found row_path r.0.path rows row r.3).0 (counts_own r.0 row r.1 r.2 r.3))
      (λ row h.
      let r = has_filter (λ x. has_id id x.reading) rows row h in
      let entry = own_counts row r.0 r.1 in
      walked_to entries rows row entry.0 entry.1 entry.2 (ap (λ (p : List ℕ). row_at p rows) entry.3 ∙ finds_own row_path rows row ascends r.0))

-- what passes two tests
filter_both : {X : Type 0} (p q r : X → Bool) → ((x : X) → r x ≡ (p x && q x)) → (xs : List X) → filter q (filter p xs) ≡ filter r xs
filter_both p q r same [] = refl
filter_both p q r same (x ∷ xs) =
    (elim (p x) as (λ b. filter q (cond b (x ∷ filter p xs) (filter p xs)) ≡ cond (b && q x) (x ∷ filter r xs) (filter r xs)) [
      | true ↦ ap (λ l. cond (q x) (x ∷ l) l) (filter_both p q r same xs)
      | false ↦ filter_both p q r same xs
    ])
    ∙ ap (λ b. cond b (x ∷ filter r xs) (filter r xs)) (sym (same x))

class_both : (id : List ℕ) (kind : Kind) (reading : Reading) → has_class id kind reading ≡ (has_id id reading && is_wanted (Some kind) reading)
class_both id kind (Plain why) = refl
class_both id kind (Elf ident sources) = refl

-- the rows with the id that are of the kind
pub class_is : (id : List ℕ) (kind : Kind) (rows : List RowFacts) → filter (λ row. is_wanted (Some kind) row.reading) (filter (λ row. has_id id row.reading) rows) ≡ filter (λ row. has_class id kind row.reading) rows
class_is id kind rows =
    filter_both (λ (row : RowFacts). has_id id row.reading) (λ row. is_wanted (Some kind) row.reading) (λ row. has_class id kind row.reading) (λ row. class_both id kind row.reading) rows
