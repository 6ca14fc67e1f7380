-- What the rules of the database say of the rows of the store's table.
use Rattle.std.proofs.Common.{◌≡◌, inl, inr, ℕ, ℤ, Bool, true, false, not, ◌&&◌, List, [], ◌∷◌, refl, sym, ◌∙◌, ap, subst, subst₂}
use Rattle.std.specs.Prelude.{IsTrue, None, Some, drop}
use Rattle.std.specs.Cmp.{int_ranked}
use Rattle.std.proofs.lemmas.Map.Lookups.{exact_bytes}
use Rattle.std.proofs.lemmas.Bool.{and_parts}
use Rattle.std.specs.List.{AllByRecursion, list_any}
use Rattle.std.specs.Ordering.{is_eq, is_ne}
use Rattle.std.specs.declared.cmp.Ordering.{Ordering}
use Rattle.std.specs.declared.cmp.Ordering.TheVariants.{Less, Equal, Greater}
use Rattle.std.proofs.lemmas.Bool.{false≢true}
use Rattle.std.proofs.lemmas.Cmp.{tied_itself}
use Rattle.sqlite_value.specs.declared.value.Value.{Value}
use Rattle.sqlite_value.specs.declared.value.Value.TheVariants.{Null, Int, Real, Text, Blob}
use Rattle.sqlite_value.specs.Order.{Row, value_cmp}
use Rattle.sqlite_value.proofs.OrderLemmas.{value_cmp_total, value_cmp-Int, value_cmp-Text}
use Rattle.sqlite_trees.specs.Tree.{Trees, rowid, IsTable}
use Rattle.sqlite_trees.specs.View.{is_int}
use Rattle.sqlite_rules.specs.Lists.{Has}
use Rattle.sqlite_schema.specs.Rules.{are_typed, are_present, differ, clashes, agree, passes, Keeps}
use Rattle.sqlite_schema.specs.declared.schema.Constraint.{Constraint}
use Rattle.sqlite_schema.specs.declared.schema.Constraint.TheVariants.{Datatype, NotNull, Unique}
use Rattle.sqlite_sql.specs.Ops.{binary, is_true, from_truth}
use Rattle.sqlite_sql.specs.declared.ops.BinaryOp.TheVariants.{Compare}
use Rattle.sqlite_sql.specs.declared.ops.CompareOp.TheVariants.{Eq}
use Rattle.sqlite_value.specs.declared.keys.Collation.TheVariants.{Binary}
use Rattle.sqlite_value.specs.Keys.{first_key}
use Rattle.sqlite_trees.specs.declared.store.Shape.TheVariants.{Table}
use Rattle.sqlite_trees.specs.View.{IsShaped}
use Rattle.sqlite_rules.proofs.ListLemmas.{some_from}
use Rattle.sqlite_keeper.proofs.KeptLemmas.{AreApart, path_in}
use Rattle.sqlite_schema.specs.declared.schema.Table.{Table as TableFacts}
use Rattle.sqlite_keeper.specs.Schema.{rows_table, store_of}

-- a number, a path and bytes
pub record IsKeptRow (row : Row) : Type 0 where
  pub id : ℤ
  pub path : List ℕ
  pub body : List ℕ
  pub is : row ≡ Int id ∷ Text path ∷ Blob body ∷ []

-- what holds by recursion holds of each
pub recursion_has : {X : Type 0} (P : X → Type 0) (xs : List X) (x : X) → AllByRecursion P xs → Has xs x → P x
recursion_has P [] x all h = absurd h
recursion_has P (y ∷ ys) x all (inl e) = subst P (sym e) all.0
recursion_has P (y ∷ ys) x all (inr h) = recursion_has P ys x all.1 h

-- a row of these types is such a row
pub kept_row : (row : Row) → IsTrue (is_int (rowid row)) → are_typed None 0 rows_table.columns (drop 1 row) ≡ true → are_present None 0 rows_table.columns row ≡ true → IsKeptRow row
kept_row [] id typed present = absurd (false≢true id)
kept_row (v ∷ []) id typed present = absurd (false≢true present)
kept_row (v ∷ x ∷ []) id typed present = absurd (false≢true (sym (lacks x) ∙ present))
  where
    lacks : (w : Value) → are_present None 0 rows_table.columns (v ∷ w ∷ []) ≡ false
    lacks Null = refl
    lacks (Int n) = refl
    lacks (Real r) = refl
    lacks (Text t) = refl
    lacks (Blob b) = refl
kept_row (v ∷ x ∷ y ∷ []) id typed present = made v x y id typed present
  where
    made : (u w z : Value) → IsTrue (is_int u) → are_typed None 0 rows_table.columns (w ∷ z ∷ []) ≡ true → are_present None 0 rows_table.columns (u ∷ w ∷ z ∷ []) ≡ true → IsKeptRow (u ∷ w ∷ z ∷ [])
    made (Int n) (Text t) (Blob b) i ty pr = record { id = n; path = t; body = b; is = refl }
    made (Int n) (Text t) Null i ty pr = absurd (false≢true pr)
    made (Int n) (Text t) (Int m) i ty pr = absurd (false≢true ty)
    made (Int n) (Text t) (Real m) i ty pr = absurd (false≢true ty)
    made (Int n) (Text t) (Text m) i ty pr = absurd (false≢true ty)
    made (Int n) Null z i ty pr = absurd (false≢true pr)
    made (Int n) (Int m) z i ty pr = absurd (false≢true ty)
    made (Int n) (Real m) z i ty pr = absurd (false≢true ty)
    made (Int n) (Blob m) z i ty pr = absurd (false≢true ty)
    made Null w z i ty pr = absurd (false≢true i)
    made (Real m) w z i ty pr = absurd (false≢true i)
    made (Text m) w z i ty pr = absurd (false≢true i)
    made (Blob m) w z i ty pr = absurd (false≢true i)
kept_row (v ∷ x ∷ y ∷ z ∷ more) id typed present = absurd (false≢true (sym (wide x y) ∙ typed))
  where
    wide : (u w : Value) → are_typed None 0 rows_table.columns (u ∷ w ∷ z ∷ more) ≡ false
    wide Null Null = refl
    wide Null (Int n) = refl
    wide Null (Real r) = refl
    wide Null (Text t) = refl
    wide Null (Blob b) = refl
    wide (Int n) w = refl
    wide (Real r) w = refl
    wide (Text t) Null = refl
    wide (Text t) (Int n) = refl
    wide (Text t) (Real r) = refl
    wide (Text t) (Text s) = refl
    wide (Text t) (Blob b) = refl
    wide (Blob b) w = refl

not_less : (o : Ordering) → o ≡ Less → o ≡ Equal → ⊥
not_less Less p q = cc
not_less Equal p q = cc
not_less Greater p q = cc

-- rows of one number are one row
pub one_number : (rows : List Row) (r s : Row) → IsTable rows → Has rows r → Has rows s → rowid r ≡ rowid s → r ≡ s
one_number [] r s t p q e = absurd p
one_number (x ∷ xs) r s t (inl p) (inl q) e = p ∙ sym q
one_number (x ∷ xs) r s t (inl p) (inr q) e =
    absurd (not_less (value_cmp (rowid x) (rowid s)) (recursion_has (λ y. value_cmp (rowid x) (rowid y) ≡ Less) xs s t.0 q)
    (ap (λ v. value_cmp v (rowid s)) (ap rowid (sym p) ∙ e) ∙ tied_itself value_cmp_total (rowid s)))
one_number (x ∷ xs) r s t (inr p) (inl q) e =
    absurd (not_less (value_cmp (rowid x) (rowid r)) (recursion_has (λ y. value_cmp (rowid x) (rowid y) ≡ Less) xs r t.0 p)
    (ap (λ v. value_cmp v (rowid r)) (ap rowid (sym q) ∙ sym e) ∙ tied_itself value_cmp_total (rowid r)))
one_number (x ∷ xs) r s t (inr p) (inr q) e = one_number xs r s t.1 p q e

-- one whole number
pub one_int : (m n : ℤ) → value_cmp (Int m) (Int n) ≡ Equal → m ≡ n
one_int m n e = int_ranked m n Equal (sym e ∙ value_cmp-Int m n)

-- one text
pub one_text : (a b : List ℕ) → value_cmp (Text a) (Text b) ≡ Equal → a ≡ b
one_text a b e = exact_bytes a b (sym (value_cmp-Text a b) ∙ e)

-- the test of SQL's equality, of two texts and of two whole numbers
pub texts_equal : (a b : List ℕ) → is_true (binary (Compare Eq Binary) (Text a) (Text b)) ≡ true → a ≡ b
unfolding binary
texts_equal a b passes = of (value_cmp (Text a) (Text b)) refl passes
  where
    of : (o : Ordering) → value_cmp (Text a) (Text b) ≡ o → is_true (from_truth (Some (is_eq o))) ≡ true → a ≡ b
    of Less e p = absurd (false≢true p)
    of Equal e p = one_text a b e
    of Greater e p = absurd (false≢true p)

pub equal_texts : (a b : List ℕ) → a ≡ b → is_true (binary (Compare Eq Binary) (Text a) (Text b)) ≡ true
unfolding binary
equal_texts a b e =
    ap (λ o. is_true (from_truth (Some (is_eq o)))) (ap (λ t. value_cmp (Text a) (Text t)) (sym e) ∙ tied_itself value_cmp_total (Text a))

pub ints_equal : (m n : ℤ) → is_true (binary (Compare Eq Binary) (Int m) (Int n)) ≡ true → m ≡ n
unfolding binary
ints_equal m n passes = of (value_cmp (Int m) (Int n)) refl passes
  where
    of : (o : Ordering) → value_cmp (Int m) (Int n) ≡ o → is_true (from_truth (Some (is_eq o))) ≡ true → m ≡ n
    of Less e p = absurd (false≢true p)
    of Equal e p = one_int m n e
    of Greater e p = absurd (false≢true p)

pub equal_ints : (m n : ℤ) → m ≡ n → is_true (binary (Compare Eq Binary) (Int m) (Int n)) ≡ true
unfolding binary
equal_ints m n e =
    ap (λ o. is_true (from_truth (Some (is_eq o)))) (ap (λ t. value_cmp (Int m) (Int t)) (sym e) ∙ tied_itself value_cmp_total (Int m))

-- and of their difference
pub ints_same : (m n : ℤ) → differ (Int m) (Int n) ≡ false → m ≡ n
unfolding binary
ints_same m n fails = of (value_cmp (Int m) (Int n)) refl fails
  where
    of : (o : Ordering) → value_cmp (Int m) (Int n) ≡ o → is_true (from_truth (Some (is_ne o))) ≡ false → m ≡ n
    of Less e p = absurd (false≢true (sym p))
    of Equal e p = one_int m n e
    of Greater e p = absurd (false≢true (sym p))

-- rows of the table: each is a number, a path and bytes, and no number and no path comes twice
pub record AreKept (rows : List Row) : Type 0 where
  pub typed : (r : Row) → Has rows r → IsKeptRow r
  pub numbers : IsTable rows
  pub apart : AreApart rows

-- rows of one path agree on it, and rows that agree on it have one path
pub agreeing : (m n : ℤ) (a b u v : List ℕ) → a ≡ b → agree (record { digits = 0 }) (1 ∷ []) (Int m ∷ Text a ∷ Blob u ∷ []) (1 ∷ []) (Int n ∷ Text b ∷ Blob v ∷ []) ≡ true
unfolding binary first_key
agreeing m n a b u v same = rw (equal_texts a b same) refl

pub agreed : (m n : ℤ) (a b u v : List ℕ) → agree (record { digits = 0 }) (1 ∷ []) (Int m ∷ Text a ∷ Blob u ∷ []) (1 ∷ []) (Int n ∷ Text b ∷ Blob v ∷ []) ≡ true → a ≡ b
unfolding binary first_key
agreed m n a b u v agrees = texts_equal a b (and_parts _ _ agrees).0

-- a row with the path of another has its number
same_number : (rows : List Row) (r s : Row) → IsKeptRow r → IsKeptRow s → clashes (record { digits = 0 }) (1 ∷ []) rows s ≡ false → Has rows r → path_in r ≡ path_in s → rowid r ≡ rowid s
same_number rows r s x y free h e =
    let path : x.path ≡ y.path = ap path_in (sym x.is) ∙ e ∙ ap path_in y.is in
    let agrees : agree (record { digits = 0 }) (1 ∷ []) r (1 ∷ []) s ≡ true =
    subst₂ (λ (a b : Row). agree (record { digits = 0 }) (1 ∷ []) a (1 ∷ []) b ≡ true) (sym x.is) (sym y.is) (agreeing x.id y.id x.path y.path x.body y.body path) in
    let apart : differ (rowid r) (rowid s) ≡ false =
    ap (λ b. b && differ (rowid r) (rowid s)) (sym agrees) ∙ none_fails (λ other. agree (record { digits = 0 }) (1 ∷ []) other (1 ∷ []) s && differ (rowid other) (rowid s)) rows r free h in
    let ids : x.id ≡ y.id = ints_same x.id y.id (subst₂ (λ (a b : Row). differ (rowid a) (rowid b) ≡ false) x.is y.is apart) in
    ap rowid x.is ∙ ap Int ids ∙ ap rowid (sym y.is)
  where
    none_fails : (p : Row → Bool) (xs : List Row) (z : Row) → list_any p xs ≡ false → Has xs z → p z ≡ false
    none_fails p xs z none g = elim (p z) as (λ b. p z ≡ b → b ≡ false) [ true ↦ λ t. sym (some_from p xs z g t) ∙ none | false ↦ λ f. refl ] refl

-- the rows of a database that has these two tables and keeps their rules
pub kept_rows : (second : TableFacts) (db : Trees) → ((rule : Constraint) → Keeps rule (store_of second) db) → IsShaped Table (db 0) → AreKept (db 0)
kept_rows second db rules shaped =
    let typed : (r : Row) → Has (db 0) r → IsKeptRow r =
    λ r h. kept_row r (recursion_has (λ x. IsTrue (is_int (rowid x))) (db 0) r shaped.1 h)
    (and_parts _ _ (recursion_has (λ x. passes Datatype (store_of second) db rows_table x ≡ true) (db 0) r (rules Datatype).0 h)).0
    (recursion_has (λ x. passes NotNull (store_of second) db rows_table x ≡ true) (db 0) r (rules NotNull).0 h) in
    record {
      typed = typed;
      numbers = shaped.0;
      apart = λ r s p q e.
          one_number (db 0) r s shaped.0 p q
          (same_number (db 0) r s (typed r p) (typed s q) (free s (recursion_has (λ x. passes Unique (store_of second) db rows_table x ≡ true) (db 0) s (rules Unique).0 q)) p e);
    }
  where
    free : (s : Row) → passes Unique (store_of second) db rows_table s ≡ true → clashes (record { digits = 0 }) (1 ∷ []) (db 0) s ≡ false
    free s h = elim (clashes (record { digits = 0 }) (1 ∷ []) (db 0) s) as (λ b. (not b && true) ≡ true → b ≡ false) [ true ↦ λ e. absurd (false≢true e) | false ↦ λ e. refl ] h
