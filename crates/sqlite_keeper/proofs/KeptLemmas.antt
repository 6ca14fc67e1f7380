-- Tables by path, from rows by number: what they have, and what a change of a row makes of them.
use Rattle.std.proofs.Common.{◌≡◌, ◌⊎◌, inl, inr, ℕ, true, false, List, [], ◌∷◌, ◌++◌, refl, sym, ◌∙◌, ap, subst, arith}
use Rattle.std.specs.Prelude.{filter, All}
use Rattle.std.specs.Ordering.{nat_cmp, is_lt}
use Rattle.std.specs.Cmp.Lexicographic.{slice_cmp}
use Rattle.std.specs.declared.cmp.Ordering.TheVariants.{Less, Equal, Greater}
use Rattle.std.proofs.lemmas.Bool.{false≢true}
use Rattle.std.proofs.lemmas.Cmp.{nat_list_cmp_total, tied_itself}
use Rattle.std.proofs.lemmas.Map.Lookups.{exact_bytes}
use Rattle.row_types.specs.Ascends.{IsBefore}
use Rattle.row_types.proofs.AscendsLemmas.{first_related, rest_related}
use Rattle.sqlite_value.specs.Order.{Row}
use Rattle.sqlite_rules.specs.Lists.{Has}
use Rattle.index_keeper.specs.Tables.{KeptFacts, EditFacts, AscendsByPath, stands_before, stands_after, row_after, edited, put_bytes, removal_of}
use Rattle.sqlite_keeper.specs.Stored.{stored_row, stored_tables}
use Rattle.index_keeper.proofs.CutLemmas.{edited_ascends, flipped_back}
use Rattle.sqlite_keeper.proofs.HasLemmas.{all_has, has_left, has_right, has_either, has_filter, filter_has}

abbrev Before : KeptFacts → KeptFacts → Type 0
Before x y = IsBefore x.path y.path

-- a path doesn't stand before itself
not_before_same : (a b : List ℕ) → a ≡ b → is_lt (slice_cmp nat_cmp a b) ≡ false
not_before_same a b e = subst (λ (c : List ℕ). is_lt (slice_cmp nat_cmp a c) ≡ false) e (ap is_lt (tied_itself nat_list_cmp_total a))

-- what stands before doesn't stand behind, and is another
never_both : (a b : List ℕ) → IsBefore a b → IsBefore b a → ⊥
never_both a b p q = false≢true (sym (not_before_same a a refl) ∙ ap is_lt (nat_list_cmp_total.trans a b a p q))

apart : (a b : List ℕ) → is_lt (slice_cmp nat_cmp a b) ≡ true → a ≡ b → ⊥
apart a b passes same = false≢true (sym (not_before_same a b same) ∙ passes)

-- lists by path with the same members are the same
pub same_kept : (xs ys : List KeptFacts) → AscendsByPath xs → AscendsByPath ys → ((k : KeptFacts) → Has xs k → Has ys k) → ((k : KeptFacts) → Has ys k → Has xs k) → xs ≡ ys
same_kept [] [] p q to from = refl
same_kept [] (y ∷ ys) p q to from = absurd (from y (inl refl))
same_kept (x ∷ xs) [] p q to from = absurd (to x (inl refl))
same_kept (x ∷ xs) (y ∷ ys) p q to from =
    let same : x ≡ y = heads (to x (inl refl)) (from y (inl refl)) in
    let behind_x : All (Before x) xs = first_related Before x xs p in
    let behind_y : All (Before y) ys = first_related Before y ys q in
    ap (λ k. k ∷ xs) same
    ∙ ap (λ l. y ∷ l) (same_kept xs ys (rest_related Before x xs p) (rest_related Before y ys q)
    (λ k h. behind ys k y (subst (λ (z : KeptFacts). Before z k) same (all_has (Before x) xs k behind_x h)) (to k (inr h)))
    (λ k h. behind xs k x (subst (λ (z : KeptFacts). Before z k) (sym same) (all_has (Before y) ys k behind_y h)) (from k (inr h))))
  where
    heads : (x ≡ y) ⊎ Has ys x → (y ≡ x) ⊎ Has xs y → x ≡ y
    heads (inl e) other = e
    heads (inr h) (inl e) = sym e
    heads (inr h) (inr g) = absurd (never_both x.path y.path (all_has (Before x) xs y (first_related Before x xs p) g) (all_has (Before y) ys x (first_related Before y ys q) h))

    behind : (zs : List KeptFacts) (k first : KeptFacts) → Before first k → (k ≡ first) ⊎ Has zs k → Has zs k
    behind zs k first before (inl e) = absurd (apart first.path k.path (ap is_lt before) (sym (ap (λ (z : KeptFacts). z.path) e)))
    behind zs k first before (inr h) = h

-- what the tables have after a change
pub edited_has : (rows : List KeptFacts) (edit : EditFacts) (k : KeptFacts) → Has (edited rows edit) k → (Has rows k × (k.path ≡ edit.path → ⊥)) ⊎ Has (row_after edit) k
edited_has rows edit k h = thirds (has_either (filter (stands_before edit.path) rows ++ row_after edit) (filter (stands_after edit.path) rows) k h)
  where
    firsts : Has (filter (stands_before edit.path) rows) k ⊎ Has (row_after edit) k → (Has rows k × (k.path ≡ edit.path → ⊥)) ⊎ Has (row_after edit) k
    firsts (inl a) = let r = has_filter (stands_before edit.path) rows k a in inl (r.0, apart k.path edit.path r.1)
    firsts (inr b) = inr b

    thirds : Has (filter (stands_before edit.path) rows ++ row_after edit) k ⊎ Has (filter (stands_after edit.path) rows) k → (Has rows k × (k.path ≡ edit.path → ⊥)) ⊎ Has (row_after edit) k
    thirds (inl a) = firsts (has_either (filter (stands_before edit.path) rows) (row_after edit) k a)
    thirds (inr c) = let r = has_filter (stands_after edit.path) rows k c in inl (r.0, λ e. apart edit.path k.path r.1 (sym e))

pub edited_own : (rows : List KeptFacts) (edit : EditFacts) (k : KeptFacts) → Has (row_after edit) k → Has (edited rows edit) k
edited_own rows edit k h =
    has_left (filter (stands_before edit.path) rows ++ row_after edit) (filter (stands_after edit.path) rows) k
    (has_right (filter (stands_before edit.path) rows) (row_after edit) k h)

pub edited_keeps : (rows : List KeptFacts) (edit : EditFacts) (k : KeptFacts) → Has rows k → (k.path ≡ edit.path → ⊥) → Has (edited rows edit) k
edited_keeps rows edit k h differs =
    (elim (slice_cmp nat_cmp k.path edit.path) as (λ o. slice_cmp nat_cmp k.path edit.path ≡ o → Has (edited rows edit) k) [
      | Less ↦ λ e.
          has_left (filter (stands_before edit.path) rows ++ row_after edit) (filter (stands_after edit.path) rows) k
          (has_left (filter (stands_before edit.path) rows) (row_after edit) k (filter_has (stands_before edit.path) rows k h (ap is_lt e)))
      | Equal ↦ λ e. absurd (differs (exact_bytes k.path edit.path e))
      | Greater ↦ λ e.
          has_right (filter (stands_before edit.path) rows ++ row_after edit) (filter (stands_after edit.path) rows) k
          (filter_has (stands_after edit.path) rows k h (ap is_lt (flipped_back k.path edit.path e)))
    ]) refl

-- a row's path
abbrev pub path_in : Row → List ℕ
path_in row = (stored_row row).path

-- rows of one path are one row
abbrev pub AreApart : List Row → Type 0
AreApart rows = (r s : Row) → Has rows r → Has rows s → path_in r ≡ path_in s → r ≡ s

-- the rows behind the first
rest_apart : (row : Row) (rows : List Row) → AreApart (row ∷ rows) → AreApart rows
rest_apart row rows h = λ r s p q. h r s (inr p) (inr q)

-- the tables stand by path
pub tables_ascend : (rows : List Row) → AscendsByPath (stored_tables rows)
tables_ascend [] = λ i j d less within. absurd (omega arith)
tables_ascend (row ∷ rows) = edited_ascends (stored_tables rows) (put_bytes (path_in row) (stored_row row).bytes) (tables_ascend rows)

-- each row of the tables is one of the tree
pub tables_have : (rows : List Row) (k : KeptFacts) → Has (stored_tables rows) k → (r : Row) × Has rows r × (k ≡ stored_row r)
tables_have [] k h = absurd h
tables_have (row ∷ rows) k h = from (λ old. tables_have rows k old) (edited_has (stored_tables rows) (put_bytes (path_in row) (stored_row row).bytes) k h)
  where
    own : Has (stored_row row ∷ []) k → (r : Row) × Has (row ∷ rows) r × (k ≡ stored_row r)
    own (inl e) = (row, inl refl, e)
    own (inr h) = absurd h

    from : (Has (stored_tables rows) k → (r : Row) × Has rows r × (k ≡ stored_row r)) → (Has (stored_tables rows) k × (k.path ≡ path_in row → ⊥)) ⊎ Has (stored_row row ∷ []) k → (r : Row) × Has (row ∷ rows) r × (k ≡ stored_row r)
    from earlier (inl old) = let r = earlier old.0 in (r.0, inr r.1, r.2)
    from earlier (inr new) = own new

-- each row of the tree is one of the tables, where no path comes twice
pub have_tables : (rows : List Row) → AreApart rows → (r : Row) → Has rows r → Has (stored_tables rows) (stored_row r)
have_tables [] one r h = absurd h
have_tables (row ∷ rows) one r (inl e) = edited_own (stored_tables rows) (put_bytes (path_in row) (stored_row row).bytes) (stored_row r) (inl (ap stored_row e))
have_tables (row ∷ rows) one r (inr h) =
    let later : Has (stored_tables rows) (stored_row r) = have_tables rows (rest_apart row rows one) r h in
    (elim (slice_cmp nat_cmp (path_in r) (path_in row)) as (λ o. slice_cmp nat_cmp (path_in r) (path_in row) ≡ o → Has (stored_tables (row ∷ rows)) (stored_row r)) [
      | Less ↦ λ e. other later (λ same. apart (path_in r) (path_in row) (ap is_lt e) same)
      | Equal ↦ λ e. edited_own (stored_tables rows) (put_bytes (path_in row) (stored_row row).bytes) (stored_row r) (inl (ap stored_row (one r row (inr h) (inl refl) (exact_bytes (path_in r) (path_in row) e))))
      | Greater ↦ λ e. other later (λ same. apart (path_in row) (path_in r) (ap is_lt (flipped_back (path_in r) (path_in row) e)) (sym same))
    ]) refl
  where
    other : Has (stored_tables rows) (stored_row r) → (path_in r ≡ path_in row → ⊥) → Has (stored_tables (row ∷ rows)) (stored_row r)
    other later differs = edited_keeps (stored_tables rows) (put_bytes (path_in row) (stored_row row).bytes) (stored_row r) later differs

-- a list by path of the rows is the tables
pub listed : (rows : List Row) (shown : List KeptFacts) → AreApart rows → AscendsByPath shown
    → ((k : KeptFacts) → Has shown k → (r : Row) × Has rows r × (k ≡ stored_row r)) → ((r : Row) → Has rows r → Has shown (stored_row r)) → shown ≡ stored_tables rows
listed rows shown one ascends from to =
    same_kept shown (stored_tables rows) ascends (tables_ascend rows)
    (λ k h. let r = from k h in subst (Has (stored_tables rows)) (sym r.2) (have_tables rows one r.0 r.1))
    (λ k h. let r = tables_have rows k h in subst (Has shown) (sym r.2) (to r.0 r.1))

-- what a tree has without the rows of a path
pub record IsWithout (path : List ℕ) (old new : List Row) : Type 0 where
  pub from : (r : Row) → Has new r → Has old r × (path_in r ≡ path → ⊥)
  pub to : (r : Row) → Has old r → (path_in r ≡ path → ⊥) → Has new r

pub removed : (path : List ℕ) (old new : List Row) → AreApart old → AreApart new → IsWithout path old new → stored_tables new ≡ edited (stored_tables old) (removal_of path)
removed path old new was is h =
    same_kept (stored_tables new) (edited (stored_tables old) (removal_of path)) (tables_ascend new) (edited_ascends (stored_tables old) (removal_of path) (tables_ascend old))
    (λ k g. let r = tables_have new k g in let o = h.from r.0 r.1 in
    subst (Has (edited (stored_tables old) (removal_of path))) (sym r.2) (edited_keeps (stored_tables old) (removal_of path) (stored_row r.0) (have_tables old was r.0 o.0) o.1))
    (λ k g. back k (edited_has (stored_tables old) (removal_of path) k g))
  where
    back : (k : KeptFacts) → (Has (stored_tables old) k × (k.path ≡ path → ⊥)) ⊎ Has (row_after (removal_of path)) k → Has (stored_tables new) k
    back k (inl kept) =
        let r = tables_have old k kept.0 in
        subst (Has (stored_tables new)) (sym r.2) (have_tables new is r.0 (h.to r.0 r.1 (λ same. kept.1 (ap (λ (z : KeptFacts). z.path) r.2 ∙ same))))
    back k (inr none) = absurd none

-- what a tree has with one row of a path
pub record IsWith (path kept : List ℕ) (old new : List Row) : Type 0 where
  pub from : (r : Row) → Has new r → (Has old r × (path_in r ≡ path → ⊥)) ⊎ (stored_row r ≡ record { path = path; bytes = kept })
  pub to : (r : Row) → Has old r → (path_in r ≡ path → ⊥) → Has new r
  pub its : Row
  pub there : Has new its
  pub is : stored_row its ≡ record { path = path; bytes = kept }

pub put_in : (path kept : List ℕ) (old new : List Row) → AreApart old → AreApart new → IsWith path kept old new → stored_tables new ≡ edited (stored_tables old) (put_bytes path kept)
put_in path kept old new was is h =
    same_kept (stored_tables new) (edited (stored_tables old) (put_bytes path kept)) (tables_ascend new) (edited_ascends (stored_tables old) (put_bytes path kept) (tables_ascend old))
    (λ k g. let r = tables_have new k g in subst (Has (edited (stored_tables old) (put_bytes path kept))) (sym r.2) (forth r.0 (h.from r.0 r.1)))
    (λ k g. back k (edited_has (stored_tables old) (put_bytes path kept) k g))
  where
    forth : (r : Row) → (Has old r × (path_in r ≡ path → ⊥)) ⊎ (stored_row r ≡ record { path = path; bytes = kept }) → Has (edited (stored_tables old) (put_bytes path kept)) (stored_row r)
    forth r (inl o) = edited_keeps (stored_tables old) (put_bytes path kept) (stored_row r) (have_tables old was r o.0) o.1
    forth r (inr e) = edited_own (stored_tables old) (put_bytes path kept) (stored_row r) (inl e)

    own : (k : KeptFacts) → Has (record { path = path; bytes = kept } ∷ []) k → Has (stored_tables new) k
    own k (inl e) = subst (Has (stored_tables new)) (h.is ∙ sym e) (have_tables new is h.its h.there)
    own k (inr none) = absurd none

    back : (k : KeptFacts) → (Has (stored_tables old) k × (k.path ≡ path → ⊥)) ⊎ Has (row_after (put_bytes path kept)) k → Has (stored_tables new) k
    back k (inl old_one) =
        let r = tables_have old k old_one.0 in
        subst (Has (stored_tables new)) (sym r.2) (have_tables new is r.0 (h.to r.0 r.1 (λ same. old_one.1 (ap (λ (z : KeptFacts). z.path) r.2 ∙ same))))
    back k (inr new_one) = own k new_one
