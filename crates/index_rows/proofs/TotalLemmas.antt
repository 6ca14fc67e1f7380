-- How often rows count together.
use Rattle.std.proofs.Common.{◌≡◌, ◌⊎◌, inl, inr, ℕ, zero, suc, ◌+◌, ◌≤◌, ◌<◌, Bool, true, false, cond, List, [], ◌∷◌, ◌++◌, length, refl, sym, ◌∙◌, ap, subst, arith}
use Rattle.std.specs.List.{All, list_any}
use Rattle.std.specs.Prelude.{◌&&◌, ◌||◌, nat_lt}
use Rattle.std.specs.Str.{bytes_eq}
use Rattle.std.proofs.lemmas.Bool.{lt-ltb, ltb-false, ltb-true}
use Rattle.std.proofs.lemmas.List.Elements.{All-head, All-tail}
use Rattle.std.proofs.lemmas.Slice.Eq.{bytes_eq-Decides}
use Rattle.row_types.specs.Ascends.{Ascends}
use Rattle.row_types.specs.Row.{RowFacts}
use Rattle.file_formats.specs.Identity.{Identity}
use Rattle.row_types.specs.declared.reading.Reading.{Reading}
use Rattle.row_types.specs.declared.reading.Reading.TheVariants.{Plain, Elf}
use Rattle.index_rows.specs.Classes.{has_id, lists_source}
use Rattle.index_rows.specs.Table.{id_counts, rows_listing, source_counts, total}
use Rattle.index_rows.specs.Tally.{one}
use Rattle.index_rows.specs.Tallies.{times}
use Rattle.index_rows.proofs.TalliesLemmas.{times_once}

-- a row is among the rows
abbrev pub Has : List RowFacts → RowFacts → Type 0
Has [] row = ⊥
Has (first ∷ rows) row = (row ≡ first) ⊎ Has rows row

module _ (f : RowFacts → ℕ) where
  -- of two lists
  pub total_append : (xs ys : List RowFacts) → total f (xs ++ ys) ≡ total f xs + total f ys
  total_append [] ys = omega arith
  total_append (x ∷ xs) ys = omega (arith, total_append xs ys)

  -- a row among them counts no more than all
  pub has_total : (rows : List RowFacts) (row : RowFacts) → Has rows row → f row ≤ total f rows
  has_total [] row h = absurd h
  has_total (first ∷ rows) row (inl e) = let same : f row ≡ f first = ap f e in omega (arith, same)
  has_total (first ∷ rows) row (inr h) = omega (arith, has_total rows row h)

  -- where they count, one of them does
  pub total_has : (rows : List RowFacts) → 0 < total f rows → (row : RowFacts) × Has rows row × (0 < f row)
  total_has [] more = absurd (omega (arith, more))
  total_has (first ∷ rows) more = either (f first) refl (λ h. total_has rows h)
    where
      either : (n : ℕ) → f first ≡ n → (0 < total f rows → (row : RowFacts) × Has rows row × (0 < f row)) → (row : RowFacts) × Has (first ∷ rows) row × (0 < f row)
      either zero e rests =
          let rest : 0 < total f rows = omega (arith, more, e) in
          let found = rests rest in
          (found.0, inr found.1, found.2)
      either (suc n) e rests = (first, inl refl, omega (arith, e))

  -- each counts once at most
  pub total_few : (rows : List RowFacts) → All (λ row. f row ≤ 1) rows → total f rows ≤ length rows
  total_few [] h = omega arith
  total_few (row ∷ rows) h = omega (arith, All-head (λ (r : RowFacts). f r ≤ 1) row rows h, total_few rows (All-tail (λ (r : RowFacts). f r ≤ 1) row rows h))

-- ---- what a row counts for

either_few : (b : Bool) (n : ℕ) → n ≤ 1 → cond b n 0 ≤ 1
either_few true n h = h
either_few false n h = omega arith

one_few : (path other : List ℕ) → one path other ≤ 1
one_few path other = either_few (bytes_eq path other) 1 (omega arith)

-- a row is one row of its id at its path
pub id_once : (reading : Reading) (own id path : List ℕ) → id_counts reading own id path ≤ 1
id_once (Plain why) own id path = omega arith
id_once (Elf ident sources) own id path = either_few (bytes_eq ident.id id) (one own path) (one_few own path)

-- it counts for its id and its path
pub id_own : (reading : Reading) (own id : List ℕ) → has_id id reading ≡ true → id_counts reading own id own ≡ 1
id_own (Plain why) own id e = absurd (let f : false ≡ true = e in cc)
id_own (Elf ident sources) own id e =
    ap (λ b. cond b (one own own) 0) e ∙ ap (λ b. cond b 1 0) ((bytes_eq-Decides own own).1 refl)

-- and for no other
pub id_its : (reading : Reading) (own id path : List ℕ) → 0 < id_counts reading own id path → (has_id id reading ≡ true) × (own ≡ path)
id_its (Plain why) own id path more = absurd (omega (arith, more))
id_its (Elf ident sources) own id path more =
    (elim (bytes_eq ident.id id) as (λ b. bytes_eq ident.id id ≡ b → 0 < cond b (one own path) 0 → (b ≡ true) × (own ≡ path)) [
      | true ↦ λ e h. (refl, same h)
      | false ↦ λ e h. absurd (omega (arith, h))
    ]) refl more
  where
    same : 0 < one own path → own ≡ path
    same h =
        (elim (bytes_eq own path) as (λ b. bytes_eq own path ≡ b → 0 < cond b 1 0 → own ≡ path) [
          | true ↦ λ e g. (bytes_eq-Decides own path).0 e
          | false ↦ λ e g. absurd (omega (arith, g))
        ]) refl h

-- ---- whether something counts

either_counts : (n m : ℕ) → nat_lt 0 (n + m) ≡ (nat_lt 0 n || nat_lt 0 m)
either_counts n m =
    (elim (nat_lt 0 n) as (λ b. nat_lt 0 n ≡ b → nat_lt 0 (n + m) ≡ (b || nat_lt 0 m)) [
      | true ↦ λ e. lt-ltb 0 (n + m) (omega (arith, ltb-true 0 n e))
      | false ↦ λ e. let same : n + m ≡ m = omega (arith, ltb-false 0 n e) in ap (nat_lt 0) same
    ]) refl

one_counts : (path other : List ℕ) → bytes_eq path other ≡ nat_lt 0 (one path other)
one_counts path other = elim (bytes_eq path other) as (λ b. b ≡ nat_lt 0 (cond b 1 0)) [ true ↦ refl | false ↦ refl ]

times_counts : (paths : List (List ℕ)) (path : List ℕ) → list_any (λ source. bytes_eq source path) paths ≡ nat_lt 0 (times paths path)
times_counts [] path = refl
times_counts (first ∷ paths) path =
    ap (λ b. b || list_any (λ (s : List ℕ). bytes_eq s path) paths) (one_counts first path)
    ∙ ap (λ b. nat_lt 0 (one first path) || b) (times_counts paths path)
    ∙ sym (either_counts (one first path) (times paths path))

listed_counts : (id path : List ℕ) (reading : Reading) → lists_source id path reading ≡ nat_lt 0 (source_counts reading id path)
listed_counts id path (Plain why) = refl
listed_counts id path (Elf ident sources) =
    ap (λ b. bytes_eq ident.id id && b) (times_counts sources path)
    ∙ (elim (bytes_eq ident.id id) as (λ b. (b && nat_lt 0 (times sources path)) ≡ nat_lt 0 (cond b (times sources path) 0)) [ true ↦ refl | false ↦ refl ])

-- some row lists the source exactly where the rows count for it
pub any_lists : (id path : List ℕ) (rows : List RowFacts) → list_any (λ row. lists_source id path row.reading) rows ≡ nat_lt 0 (rows_listing id path rows)
any_lists id path [] = refl
any_lists id path (row ∷ rows) =
    ap (λ b. b || list_any (λ (r : RowFacts). lists_source id path r.reading) rows) (listed_counts id path row.reading)
    ∙ ap (λ b. nat_lt 0 (source_counts row.reading id path) || b) (any_lists id path rows)
    ∙ sym (either_counts (source_counts row.reading id path) (rows_listing id path rows))

-- ---- sources that ascend

-- a row lists no source twice
pub listed_once : (reading : Reading) (ident : Identity) (sources : List (List ℕ)) → reading ≡ Elf ident sources → Ascends sources → (id path : List ℕ) → source_counts reading id path ≤ 1
listed_once reading ident sources is h id path =
    subst (λ (r : Reading). source_counts r id path ≤ 1) (sym is) (either_few (bytes_eq ident.id id) (times sources path) (times_once sources path h))
