-- Rows by path, cut at a path: those before it, its own, those after it.
use Rattle.std.proofs.Common.{◌≡◌, ℕ, suc, Bool, true, false, List, [], ◌∷◌, ◌++◌, slice_index_or, Option, Some, None, refl, sym, ◌∙◌, ap, subst, arith}
use Rattle.std.specs.Prelude.{filter, All, AllPairs, IfSome, option_map}
use Rattle.std.specs.List.{AllByRecursion, find}
use Rattle.std.specs.Option.{option_or}
use Rattle.std.specs.Ordering.{nat_cmp, is_lt, is_eq, ordering_reverse}
use Rattle.std.specs.Cmp.Lexicographic.{slice_cmp}
use Rattle.std.specs.Str.{bytes_eq}
use Rattle.std.specs.declared.cmp.Ordering.{Ordering}
use Rattle.std.specs.declared.cmp.Ordering.TheVariants.{Less, Equal, Greater}
use Rattle.std.proofs.lemmas.Bool.{false_from_ne_true}
use Rattle.std.proofs.lemmas.Cmp.{nat_list_cmp_total}
use Rattle.std.proofs.lemmas.List.{append-nil}
use Rattle.std.proofs.lemmas.List.Elements.{All-append, All-cons, All-nil, All-filter, filter-append, filter_passes, recursion_from_All}
use Rattle.std.proofs.lemmas.List.Folds.{find-append}
use Rattle.std.proofs.lemmas.List.Kept.{AllPairs-filter, AllPairs-cons}
use Rattle.std.proofs.lemmas.Map.Lookups.{exact_bytes}
use Rattle.std.proofs.lemmas.Map.Text.{is_eq-slice_cmp}
use Rattle.std.proofs.lemmas.Slice.Eq.{bytes_eq-Decides}
use Rattle.row_types.specs.Ascends.{IsBefore}
use Rattle.index_keeper.specs.Places.{StandApart}
use Rattle.index_keeper.specs.Tables.{KeptFacts, EditFacts, AscendsByPath, stands_before, stands_after, row_after, edited, bytes_under, undo_of}

-- the rows are those before the path, those of the path, and those after it
pub record IsCut (path : List ℕ) (rows front own back : List KeptFacts) : Type 0 where
  pub whole : rows ≡ front ++ own ++ back
  pub apart : StandApart path front back
  pub here : All (λ row. row.path ≡ path) own

-- a filter keeps a list each of whose elements passes, and nothing of one of which none does
keeps : {X : Type 0} (p : X → Bool) (xs : List X) → AllByRecursion (λ x. p x ≡ true) xs → filter p xs ≡ xs
keeps p [] h = refl
keeps p (x ∷ xs) h = rw h.0 (ap (λ l. x ∷ l) (keeps p xs h.1))

drops : {X : Type 0} (p : X → Bool) (xs : List X) → AllByRecursion (λ x. p x ≡ false) xs → filter p xs ≡ []
drops p [] h = refl
drops p (x ∷ xs) h = rw h.0 (drops p xs h.1)

-- nothing is found where nothing passes
finds_none : {X : Type 0} (p : X → Bool) (xs : List X) → AllByRecursion (λ x. p x ≡ false) xs → find p xs ≡ None
finds_none p [] h = refl
finds_none p (x ∷ xs) h = rw h.0 (finds_none p xs h.1)

-- of three lists a filter keeps the first
keeps_first : {X : Type 0} (p : X → Bool) (a b c : List X) → All (λ x. p x ≡ true) a → All (λ x. p x ≡ false) b → All (λ x. p x ≡ false) c → filter p (a ++ b ++ c) ≡ a
keeps_first p a b c f g h =
    filter-append p (a ++ b) c
    ∙ ap (λ l. l ++ filter p c) (filter-append p a b)
    ∙ ap (λ l. (l ++ filter p b) ++ filter p c) (keeps p a (recursion_from_All (λ x. p x ≡ true) a f))
    ∙ ap (λ l. (a ++ l) ++ filter p c) (drops p b (recursion_from_All (λ x. p x ≡ false) b g))
    ∙ ap (λ l. (a ++ []) ++ l) (drops p c (recursion_from_All (λ x. p x ≡ false) c h))
    ∙ append-nil (a ++ [])
    ∙ append-nil a

-- of three lists a filter keeps the last
keeps_last : {X : Type 0} (p : X → Bool) (a b c : List X) → All (λ x. p x ≡ false) a → All (λ x. p x ≡ false) b → All (λ x. p x ≡ true) c → filter p (a ++ b ++ c) ≡ c
keeps_last p a b c f g h =
    filter-append p (a ++ b) c
    ∙ ap (λ l. l ++ filter p c) (filter-append p a b)
    ∙ ap (λ l. (l ++ filter p b) ++ filter p c) (drops p a (recursion_from_All (λ x. p x ≡ false) a f))
    ∙ ap (λ l. l ++ filter p c) (drops p b (recursion_from_All (λ x. p x ≡ false) b g))
    ∙ keeps p c (recursion_from_All (λ x. p x ≡ true) c h)

or_none : {X : Type 0} (o : Option X) → option_or o None ≡ o
or_none None = refl
or_none (Some x) = refl

-- what is found in three lists is found in the middle one, where nothing of the others passes
finds_middle : {X : Type 0} (p : X → Bool) (a b c : List X) → All (λ x. p x ≡ false) a → All (λ x. p x ≡ false) c → find p (a ++ b ++ c) ≡ find p b
finds_middle p a b c f h =
    find-append p (a ++ b) c
    ∙ ap (λ o. option_or o (find p c)) (find-append p a b)
    ∙ ap (λ o. option_or (option_or o (find p b)) (find p c)) (finds_none p a (recursion_from_All (λ x. p x ≡ false) a f))
    ∙ ap (λ o. option_or (find p b) o) (finds_none p c (recursion_from_All (λ x. p x ≡ false) c h))
    ∙ or_none (find p b)

-- what is said of one comparison, from the other way round
flipped : (a b : List ℕ) → IsBefore a b → slice_cmp nat_cmp b a ≡ Greater
flipped a b h = nat_list_cmp_total.antisymm b a ∙ ap ordering_reverse h

pub flipped_back : (a b : List ℕ) → slice_cmp nat_cmp a b ≡ Greater → IsBefore b a
flipped_back a b h = nat_list_cmp_total.antisymm b a ∙ ap ordering_reverse h

self_apart : (o : Ordering) → o ≡ ordering_reverse o → is_lt o ≡ false
self_apart Less e = cc
self_apart Equal e = refl
self_apart Greater e = refl

-- a path doesn't stand before an equal one
not_before_same : (a b : List ℕ) → a ≡ b → is_lt (slice_cmp nat_cmp a b) ≡ false
not_before_same a b e =
    subst (λ (c : List ℕ). is_lt (slice_cmp nat_cmp a c) ≡ false) e (self_apart (slice_cmp nat_cmp a a) (nat_list_cmp_total.antisymm a a))

is_less : (o : Ordering) → is_lt o ≡ true → o ≡ Less
is_less Less e = refl
is_less Equal e = cc
is_less Greater e = cc

-- the rows after a change of the path
pub edited_cut : {rows front own back : List KeptFacts} (edit : EditFacts) → IsCut edit.path rows front own back → edited rows edit ≡ front ++ row_after edit ++ back
edited_cut {rows} {front} {own} {back} edit cut =
    let kept_front : filter (stands_before edit.path) rows ≡ front =
    ap (filter (stands_before edit.path)) cut.whole
    ∙ keeps_first (stands_before edit.path) front own back
    (λ k d w. ap is_lt (cut.apart.before k d w))
    (λ k d w. not_before_same (slice_index_or own k d).path edit.path (cut.here k d w))
    (λ k d w. ap is_lt (flipped edit.path (slice_index_or back k d).path (cut.apart.after k d w))) in
    let kept_back : filter (stands_after edit.path) rows ≡ back =
    ap (filter (stands_after edit.path)) cut.whole
    ∙ keeps_last (stands_after edit.path) front own back
    (λ k d w. ap is_lt (flipped (slice_index_or front k d).path edit.path (cut.apart.before k d w)))
    (λ k d w. not_before_same edit.path (slice_index_or own k d).path (sym (cut.here k d w)))
    (λ k d w. ap is_lt (cut.apart.after k d w)) in
    ap (λ l. l ++ row_after edit ++ filter (stands_after edit.path) rows) kept_front
    ∙ ap (λ l. front ++ row_after edit ++ l) kept_back

-- the row that is found at a path is among its own
found_cut : {path : List ℕ} {rows front own back : List KeptFacts} → IsCut path rows front own back → find (λ row. bytes_eq row.path path) rows ≡ find (λ row. bytes_eq row.path path) own
found_cut {path} {rows} {front} {own} {back} cut =
    ap (find (λ row. bytes_eq row.path path)) cut.whole
    ∙ finds_middle (λ row. bytes_eq row.path path) front own back
    (λ k d w. sym (is_eq-slice_cmp (slice_index_or front k d).path path) ∙ ap is_eq (cut.apart.before k d w))
    (λ k d w. sym (is_eq-slice_cmp (slice_index_or back k d).path path) ∙ ap is_eq (flipped path (slice_index_or back k d).path (cut.apart.after k d w)))

-- nothing is kept under a path without a row
pub no_bytes : {path : List ℕ} {rows front back : List KeptFacts} → IsCut path rows front [] back → bytes_under path rows ≡ None
no_bytes cut = ap (option_map (λ row. row.bytes)) (found_cut cut)

-- the bytes of a path's row are kept under it
pub row_bytes_at : {path : List ℕ} {rows front back : List KeptFacts} {row : KeptFacts} → IsCut path rows front (row ∷ []) back → bytes_under path rows ≡ Some row.bytes
row_bytes_at {path} {rows} {front} {back} {row} cut =
    let same : bytes_eq row.path path ≡ true = (bytes_eq-Decides row.path path).1 (cut.here 0 row (omega arith)) in
    let found : find (λ row. bytes_eq row.path path) (row ∷ []) ≡ Some row = rw same refl in
    ap (option_map (λ row. row.bytes)) (found_cut cut ∙ found)

-- a row of a path is that path's row after the change that keeps its bytes
own_row : (path : List ℕ) (row : KeptFacts) → row.path ≡ path → row_after (record { path = path; bytes = Some row.bytes }) ≡ row ∷ []
own_row path row e = ap (λ p. row_of p row.bytes ∷ []) (sym e)
  where
    row_of : List ℕ → List ℕ → KeptFacts
    row_of p b = record { path = p; bytes = b }

-- a fact of one element holds of each of a list of it
of_single : {X : Type 0} (P : X → Type 0) (x : X) → P x → All P (x ∷ [])
of_single P x h = All-cons P x [] h (All-nil P)

-- the rows of a change's path have that path
pub after_here : (path : List ℕ) (bytes : Option (List ℕ)) → All (λ row. row.path ≡ path) (row_after (record { path = path; bytes = bytes }))
after_here path None = All-nil (λ row. row.path ≡ path)
after_here path (Some b) = of_single (λ row. row.path ≡ path) (record { path = path; bytes = b }) refl

-- the row of a path's bytes, if they are there
own_after : (path : List ℕ) (bytes : Option (List ℕ)) → option_map (λ row. row.bytes) (find (λ row. bytes_eq row.path path) (row_after (record { path = path; bytes = bytes }))) ≡ bytes
own_after path None = refl
own_after path (Some b) =
    let same : bytes_eq path path ≡ true = (bytes_eq-Decides path path).1 refl in
    rw same refl

-- a list whose rows can be cut at a path, with no more than one row of it
pub record HasCut (path : List ℕ) (rows : List KeptFacts) : Type 0 where
  pub front : List KeptFacts
  pub own : Option (List ℕ)
  pub back : List KeptFacts
  pub cut : IsCut path rows front (row_after (record { path = path; bytes = own })) back

-- rows by path can be cut
tail_ascends : (x : KeptFacts) (xs : List KeptFacts) → AscendsByPath (x ∷ xs) → AscendsByPath xs
tail_ascends x xs h = λ i j d less within. h (suc i) (suc j) d (omega arith) (omega arith)

head_first : (x : KeptFacts) (xs : List KeptFacts) → AscendsByPath (x ∷ xs) → All (λ row. IsBefore x.path row.path) xs
head_first x xs h = λ k d within. h 0 (suc k) d (omega arith) (omega arith)

cut_less : {path : List ℕ} {x : KeptFacts} {xs : List KeptFacts} → IsBefore x.path path → HasCut path xs → HasCut path (x ∷ xs)
cut_less {path} {x} before rest = record {
  front = x ∷ rest.front;
  own = rest.own;
  back = rest.back;
  cut = record {
    whole = ap (λ l. x ∷ l) rest.cut.whole;
    apart = record { before = All-cons (λ row. IsBefore row.path path) x rest.front before rest.cut.apart.before; after = rest.cut.apart.after };
    here = rest.cut.here;
  };
}

cut_here : {path : List ℕ} {x : KeptFacts} {xs : List KeptFacts} → x.path ≡ path → All (λ row. IsBefore x.path row.path) xs → HasCut path (x ∷ xs)
cut_here {path} {x} {xs} same after = record {
  front = [];
  own = Some x.bytes;
  back = xs;
  cut = record {
    whole = ap (λ l. l ++ xs) (sym (own_row path x same));
    apart = record { before = All-nil (λ row. IsBefore row.path path); after = λ k d w. subst (λ (p : List ℕ). IsBefore p (slice_index_or xs k d).path) same (after k d w) };
    here = after_here path (Some x.bytes);
  };
}

cut_before : {path : List ℕ} {x : KeptFacts} {xs : List KeptFacts} → IsBefore path x.path → All (λ row. IsBefore x.path row.path) xs → HasCut path (x ∷ xs)
cut_before {path} {x} {xs} before after = record {
  front = [];
  own = None;
  back = x ∷ xs;
  cut = record {
    whole = refl;
    apart = record {
      before = All-nil (λ row. IsBefore row.path path);
      after = All-cons (λ row. IsBefore path row.path) x xs before (λ k d w. nat_list_cmp_total.trans path x.path (slice_index_or xs k d).path before (after k d w));
    };
    here = after_here path None;
  };
}

pub cut_of : (path : List ℕ) (rows : List KeptFacts) → AscendsByPath rows → HasCut path rows
cut_of path [] h = record {
  front = [];
  own = None;
  back = [];
  cut = record {
    whole = refl;
    apart = record { before = All-nil (λ row. IsBefore row.path path); after = All-nil (λ row. IsBefore path row.path) };
    here = after_here path None;
  };
}
cut_of path (x ∷ xs) h =
    (elim (slice_cmp nat_cmp x.path path) as (λ o. slice_cmp nat_cmp x.path path ≡ o → HasCut path (x ∷ xs)) [
      | Less ↦ λ e. cut_less e (cut_of path xs (tail_ascends x xs h))
      | Equal ↦ λ e. cut_here (exact_bytes x.path path e) (head_first x xs h)
      | Greater ↦ λ e. cut_before (flipped_back x.path path e) (head_first x xs h)
    ]) refl

-- the undoing of a change leads back to the rows before it
pub undone : (rows : List KeptFacts) (edit : EditFacts) → AscendsByPath rows → edited (edited rows edit) (undo_of edit.path rows) ≡ rows
undone rows edit h =
    let found : HasCut edit.path rows = cut_of edit.path rows h in
    let own : EditFacts = record { path = edit.path; bytes = found.own } in
    let taken : bytes_under edit.path rows ≡ found.own =
    ap (option_map (λ row. row.bytes)) (found_cut found.cut) ∙ own_after edit.path found.own in
    let changed : IsCut edit.path (edited rows edit) found.front (row_after edit) found.back = record {
      whole = edited_cut edit found.cut;
      apart = found.cut.apart;
      here = after_here edit.path edit.bytes;
    } in
    edited_cut (undo_of edit.path rows) changed
    ∙ ap (λ b. found.front ++ row_after (record { path = edit.path; bytes = b }) ++ found.back) taken
    ∙ sym found.cut.whole

-- the same, where the rows and the path are known by equations
pub undone_after : {rows value new : List KeptFacts} {path : List ℕ} (edit : EditFacts) → AscendsByPath rows → rows ≡ value → new ≡ edited rows edit → edit.path ≡ path → edited new (undo_of path value) ≡ value
undone_after {rows} {value} {new} {path} edit h same made at =
    ap (λ n. edited n (undo_of path value)) made
    ∙ subst (λ (v : List KeptFacts). edited (edited rows edit) (undo_of path v) ≡ v) same
    (subst (λ (p : List ℕ). edited (edited rows edit) (undo_of p rows) ≡ rows) at (undone rows edit h))

-- what passes in none of the middle list is found in the others
finds_around : {X : Type 0} (p : X → Bool) (a b c : List X) → All (λ x. p x ≡ false) b → find p (a ++ b ++ c) ≡ option_or (find p a) (find p c)
finds_around p a b c h =
    find-append p (a ++ b) c
    ∙ ap (λ o. option_or o (find p c)) (find-append p a b)
    ∙ ap (λ o. option_or (option_or (find p a) o) (find p c)) (finds_none p b (recursion_from_All (λ x. p x ≡ false) b h))
    ∙ ap (λ o. option_or o (find p c)) (or_none (find p a))

-- the bytes under a path stay where another path changes
pub other_bytes : (path : List ℕ) (rows : List KeptFacts) (edit : EditFacts) → AscendsByPath rows → (edit.path ≡ path → ⊥) → bytes_under path (edited rows edit) ≡ bytes_under path rows
other_bytes path rows edit ascends apart =
    let found : HasCut edit.path rows = cut_of edit.path rows ascends in
    let p : KeptFacts → Bool = λ row. bytes_eq row.path path in
    let own : (bytes : Option (List ℕ)) → All (λ row. p row ≡ false) (row_after (record { path = edit.path; bytes = bytes })) =
    λ bytes k d within.
    let here = after_here edit.path bytes k d within in
    false_from_ne_true (p (slice_index_or (row_after (record { path = edit.path; bytes = bytes })) k d))
    (λ same. apart (sym here ∙ (bytes_eq-Decides (slice_index_or (row_after (record { path = edit.path; bytes = bytes })) k d).path path).0 same)) in
    ap (option_map (λ row. row.bytes))
    (ap (find p) (edited_cut edit found.cut)
    ∙ finds_around p found.front (row_after edit) found.back (own edit.bytes)
    ∙ sym (finds_around p found.front (row_after (record { path = edit.path; bytes = found.own })) found.back (own found.own))
    ∙ ap (find p) (sym found.cut.whole))

-- two lists in order, of which each element of the first stands before each of the second, are one list in order
joined : {X : Type 0} (R : X → X → Type 0) (xs ys : List X) → AllPairs R xs → AllPairs R ys → All (λ x. All (R x) ys) xs → AllPairs R (xs ++ ys)
joined R [] ys p q h = q
joined R (x ∷ xs) ys p q h =
    AllPairs-cons R x (xs ++ ys)
    (All-append (R x) xs ys (λ k d w. p 0 (suc k) d (omega arith) (omega arith)) (h 0 x (omega arith)))
    (joined R xs ys (λ i j d less within. p (suc i) (suc j) d (omega arith) (omega arith)) q (λ k d w. h (suc k) d (omega arith)))

-- one element is in order
single : {X : Type 0} (R : X → X → Type 0) (x : X) → AllPairs R (x ∷ [])
single R x = AllPairs-cons R x [] (All-nil (R x)) (λ i j d less within. absurd (omega arith))

own_ascends : (path : List ℕ) (bytes : Option (List ℕ)) → AscendsByPath (row_after (record { path = path; bytes = bytes }))
own_ascends path None = λ i j d less within. absurd (omega arith)
own_ascends path (Some b) = single (λ x y. IsBefore x.path y.path) (record { path = path; bytes = b })

-- rows by path stay so after a change
pub edited_ascends : (rows : List KeptFacts) (edit : EditFacts) → AscendsByPath rows → AscendsByPath (edited rows edit)
edited_ascends rows edit h =
    let R : KeptFacts → KeptFacts → Type 0 = λ x y. IsBefore x.path y.path in
    let first : List KeptFacts = filter (stands_before edit.path) rows in
    let own : List KeptFacts = row_after edit in
    let last : List KeptFacts = filter (stands_after edit.path) rows in
    let below : All (λ x. IsBefore x.path edit.path) first =
    λ k d w. is_less (slice_cmp nat_cmp (slice_index_or first k d).path edit.path) (filter_passes (stands_before edit.path) rows k d w) in
    let above : All (λ x. IsBefore edit.path x.path) last =
    λ k d w. is_less (slice_cmp nat_cmp edit.path (slice_index_or last k d).path) (filter_passes (stands_after edit.path) rows k d w) in
    let here : All (λ row. row.path ≡ edit.path) own = after_here edit.path edit.bytes in
    joined R (first ++ own) last
    (joined R first own (AllPairs-filter R (stands_before edit.path) rows h) (own_ascends edit.path edit.bytes)
    (λ k d w. λ j e v. subst (IsBefore (slice_index_or first k d).path) (sym (here j e v)) (below k d w)))
    (AllPairs-filter R (stands_after edit.path) rows h)
    (All-append (λ x. All (R x) last) first own
    (λ k d w. λ j e v. nat_list_cmp_total.trans (slice_index_or first k d).path edit.path (slice_index_or last j e).path (below k d w) (above j e v))
    (λ k d w. λ j e v. subst (λ (p : List ℕ). IsBefore p (slice_index_or last j e).path) (sym (here k d w)) (above j e v)))

-- what holds of each row, and of the row of a change, holds of each row after it
pub edited_all : (P : List ℕ → Type 0) (rows : List KeptFacts) (edit : EditFacts) → All (λ row. P row.bytes) rows → IfSome edit.bytes P → All (λ row. P row.bytes) (edited rows edit)
edited_all P rows edit h own =
    All-append (λ row. P row.bytes) (filter (stands_before edit.path) rows ++ row_after edit) (filter (stands_after edit.path) rows)
    (All-append (λ row. P row.bytes) (filter (stands_before edit.path) rows) (row_after edit)
    (All-filter (stands_before edit.path) (λ row. P row.bytes) rows h) (own_all edit.path edit.bytes own))
    (All-filter (stands_after edit.path) (λ row. P row.bytes) rows h)
  where
    own_all : (path : List ℕ) (bytes : Option (List ℕ)) → IfSome bytes P → All (λ row. P row.bytes) (row_after (record { path = path; bytes = bytes }))
    own_all path None g = All-nil (λ row. P row.bytes)
    own_all path (Some b) g = of_single (λ row. P row.bytes) (record { path = path; bytes = b }) g
