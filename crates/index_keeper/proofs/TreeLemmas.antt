-- The tree of a store in memory: what is found in it, and what a change of it does to its rows.
use Rattle.std.proofs.Common.{◌≡◌, ℕ, ◌-◌, ◌<◌, true, false, List, [], ◌∷◌, ◌++◌, length, get_or, Some, None, refl, sym, ◌∙◌, ap, subst, arith}
use Rattle.std.specs.Prelude.{All, AllPairs, Bool, cond, Option, String, Vec, option_map, string_bytes}
use Rattle.std.specs.BTreeMap.{is_at, insert_entry}
use Rattle.std.specs.Cmp.Lexicographic.{slice_cmp}
use Rattle.std.specs.List.{find, slice_get}
use Rattle.std.specs.Option.{option_to_list}
use Rattle.std.specs.Map.{lookup, remove_entry}
use Rattle.std.specs.Ordering.{nat_cmp, is_eq, match_ordering}
use Rattle.std.specs.Str.{bytes_eq}
use Rattle.std.specs.String.{string_cmp}
use Rattle.std.specs.declared.alloc.Global.{Global}
use Rattle.std.specs.declared.cmp.Ordering.TheVariants.{Less, Equal, Greater}
use Rattle.std.proofs.lemmas.Cmp.{nat_list_cmp_total, nat_list_eq_equiv}
use Rattle.std.proofs.lemmas.List.Elements.{All-cons, All-head, All-nil, All-tail, All-weaker}
use Rattle.std.proofs.lemmas.Map.Lookups.{exact_bytes}
use Rattle.std.proofs.lemmas.Option.{get_or_from_slice_get, slice_get_within}
use Rattle.std.proofs.lemmas.Map.Text.{is_eq-slice_cmp}
use Rattle.row_types.specs.Ascends.{IsBefore}
use Rattle.row_types.proofs.AscendsLemmas.{first_related, rest_related}
use Rattle.index_keeper.specs.Tables.{KeptFacts, EditFacts, AscendsByPath, bytes_under, edited, put_bytes, removal_of}
use Rattle.index_keeper.specs.Tree.{kept_in, kept_entry}
use Rattle.index_keeper.proofs.CutLemmas.{IsCut, edited_ascends, edited_cut, flipped_back}

-- what a tree has under a path
abbrev pub Entry : Type 0
Entry = String Global × Vec ℕ Global

-- the test of a path's entry
abbrev pub is_its : List ℕ → String Global → Bool
is_its path = is_at (λ key. slice_cmp nat_cmp path (string_bytes key))

-- one row stands before another
abbrev Before : KeptFacts → KeptFacts → Type 0
Before x y = IsBefore x.path y.path

-- the bytes under a path are those of its entry
pub bytes_found : (path : List ℕ) (entries : List Entry) → option_map (λ bytes. bytes.items) (lookup (is_its path) entries) ≡ bytes_under path (kept_in entries)
bytes_found path [] = refl
bytes_found path (e ∷ entries) =
    let same : is_its path e.0 ≡ bytes_eq (string_bytes e.0) path = is_eq-slice_cmp path (string_bytes e.0) ∙ nat_list_eq_equiv.symm path (string_bytes e.0) in
    ap (λ (b : Bool). option_map (λ bytes. bytes.items) (cond b (Some e.1) (lookup (is_its path) entries))) same
    ∙ (elim (bytes_eq (string_bytes e.0) path) as (λ b. option_map (λ bytes. bytes.items) (cond b (Some e.1) (lookup (is_its path) entries)) ≡ option_map (λ row. row.bytes) (cond b (Some (kept_entry e)) (find (λ row. bytes_eq row.path path) (kept_in entries))))
    [ true ↦ refl | false ↦ bytes_found path entries ])

-- rows cut at a path, and the rows once these are its own
record IsEdit (path : List ℕ) (rows its new : List KeptFacts) : Type 0 where
  front : List KeptFacts
  own : List KeptFacts
  back : List KeptFacts
  cut : IsCut path rows front own back
  after : new ≡ front ++ its ++ back

-- the path stands before the first row, and so before all
edit_before : {path : List ℕ} {row : KeptFacts} {rows its new : List KeptFacts} → IsBefore path row.path → All (Before row) rows → new ≡ its ++ row ∷ rows → IsEdit path (row ∷ rows) its new
edit_before {path} {row} {rows} {its} {new} before all is = record {
  front = [];
  own = [];
  back = row ∷ rows;
  cut = record {
    whole = refl;
    apart = record {
      before = All-nil (λ r. IsBefore r.path path);
      after = All-cons (λ r. IsBefore path r.path) row rows before (All-weaker (Before row) (λ r. IsBefore path r.path) (λ r. nat_list_cmp_total.trans path row.path r.path before) rows all);
    };
    here = All-nil (λ r. r.path ≡ path);
  };
  after = is;
}

-- the first row has the path
edit_here : {path : List ℕ} {row : KeptFacts} {rows its new : List KeptFacts} → row.path ≡ path → All (Before row) rows → new ≡ its ++ rows → IsEdit path (row ∷ rows) its new
edit_here {path} {row} {rows} {its} {new} same all is = record {
  front = [];
  own = row ∷ [];
  back = rows;
  cut = record {
    whole = refl;
    apart = record {
      before = All-nil (λ r. IsBefore r.path path);
      after = subst (λ (p : List ℕ). All (λ r. IsBefore p r.path) rows) same all;
    };
    here = All-cons (λ r. r.path ≡ path) row [] same (All-nil (λ r. r.path ≡ path));
  };
  after = is;
}

-- the first row stands before the path
edit_behind : {path : List ℕ} {row : KeptFacts} {rows its new : List KeptFacts} → IsBefore row.path path → IsEdit path rows its new → IsEdit path (row ∷ rows) its (row ∷ new)
edit_behind {path} {row} {rows} {its} {new} before rest = record {
  front = row ∷ rest.front;
  own = rest.own;
  back = rest.back;
  cut = record {
    whole = ap (λ l. row ∷ l) rest.cut.whole;
    apart = record { before = All-cons (λ r. IsBefore r.path path) row rest.front before rest.cut.apart.before; after = rest.cut.apart.after };
    here = rest.cut.here;
  };
  after = ap (λ l. row ∷ l) rest.after;
}

-- an entry is put
inserts : (key : String Global) (value : Vec ℕ Global) (entries : List Entry) → AscendsByPath (kept_in entries) → IsEdit (string_bytes key) (kept_in entries) (kept_entry (key, value) ∷ []) (kept_in (insert_entry string_cmp entries key value))
inserts key value [] h = record {
  front = [];
  own = [];
  back = [];
  cut = record {
    whole = refl;
    apart = record { before = All-nil (λ r. IsBefore r.path (string_bytes key)); after = All-nil (λ r. IsBefore (string_bytes key) r.path) };
    here = All-nil (λ r. r.path ≡ string_bytes key);
  };
  after = refl;
}
inserts key value (e ∷ entries) h =
    let all : All (Before (kept_entry e)) (kept_in entries) = first_related Before (kept_entry e) (kept_in entries) h in
    (elim (string_cmp key e.0) as (λ o. string_cmp key e.0 ≡ o → IsEdit (string_bytes key) (kept_entry e ∷ kept_in entries) (kept_entry (key, value) ∷ []) (kept_in (match_ordering o ((key, value) ∷ e ∷ entries) ((e.0, value) ∷ entries) (e ∷ insert_entry string_cmp entries key value)))) [
      | Less ↦ λ less. edit_before less all refl
      | Equal ↦ λ equal. edit_here (sym (exact_bytes (string_bytes key) (string_bytes e.0) equal)) all (ap with_path (sym (exact_bytes (string_bytes key) (string_bytes e.0) equal)))
      | Greater ↦ λ greater. edit_behind (flipped_back (string_bytes key) (string_bytes e.0) greater) (inserts key value entries (rest_related Before (kept_entry e) (kept_in entries) h))
    ]) refl
  where
    with_path : List ℕ → List KeptFacts
    with_path p = record { path = p; bytes = value.items } ∷ kept_in entries

-- nothing is removed where each row stands behind the path
removes_none : (path : List ℕ) (entries : List Entry) → All (λ row. IsBefore path row.path) (kept_in entries) → remove_entry (is_its path) entries ≡ entries
removes_none path [] h = refl
removes_none path (e ∷ entries) h =
    let less : slice_cmp nat_cmp path (string_bytes e.0) ≡ Less = All-head (λ (r : KeptFacts). IsBefore path r.path) (kept_entry e) (kept_in entries) h in
    rw less (ap (λ l. e ∷ l) (removes_none path entries (All-tail (λ (r : KeptFacts). IsBefore path r.path) (kept_entry e) (kept_in entries) h)))

-- an entry is removed
removes : (path : List ℕ) (entries : List Entry) → AscendsByPath (kept_in entries) → IsEdit path (kept_in entries) [] (kept_in (remove_entry (is_its path) entries))
removes path [] h = record {
  front = [];
  own = [];
  back = [];
  cut = record {
    whole = refl;
    apart = record { before = All-nil (λ r. IsBefore r.path path); after = All-nil (λ r. IsBefore path r.path) };
    here = All-nil (λ r. r.path ≡ path);
  };
  after = refl;
}
removes path (e ∷ entries) h =
    let all : All (Before (kept_entry e)) (kept_in entries) = first_related Before (kept_entry e) (kept_in entries) h in
    (elim (slice_cmp nat_cmp path (string_bytes e.0)) as (λ o. slice_cmp nat_cmp path (string_bytes e.0) ≡ o → IsEdit path (kept_entry e ∷ kept_in entries) [] (kept_in (cond (is_eq o) entries (e ∷ remove_entry (is_its path) entries)))) [
      | Less ↦ λ less. edit_before less all
          (ap (λ (l : List Entry). kept_entry e ∷ kept_in l) (removes_none path entries (All-weaker (Before (kept_entry e)) (λ r. IsBefore path r.path) (λ r. nat_list_cmp_total.trans path (string_bytes e.0) r.path less) (kept_in entries) all)))
      | Equal ↦ λ equal. edit_here (sym (exact_bytes path (string_bytes e.0) equal)) all refl
      | Greater ↦ λ greater. edit_behind (flipped_back path (string_bytes e.0) greater) (removes path entries (rest_related Before (kept_entry e) (kept_in entries) h))
    ]) refl

-- the rows after a put
pub put_edits : {path bytes : List ℕ} (key : String Global) (value : Vec ℕ Global) (entries new : List Entry) → AscendsByPath (kept_in entries) → string_bytes key ≡ path → value.items ≡ bytes → new ≡ insert_entry string_cmp entries key value → kept_in new ≡ edited (kept_in entries) (put_bytes path bytes)
put_edits {path} {bytes} key value entries new h at of is =
    let edit : IsEdit (string_bytes key) (kept_in entries) (kept_entry (key, value) ∷ []) (kept_in (insert_entry string_cmp entries key value)) = inserts key value entries h in
    ap kept_in is
    ∙ edit.after
    ∙ sym (edited_cut (put_bytes (string_bytes key) value.items) edit.cut)
    ∙ ap (λ (p : List ℕ). edited (kept_in entries) (put_bytes p value.items)) at
    ∙ ap (λ (b : List ℕ). edited (kept_in entries) (put_bytes path b)) of

-- the rows after a removal
pub removal_edits : (path : List ℕ) (entries new : List Entry) → AscendsByPath (kept_in entries) → new ≡ remove_entry (is_its path) entries → kept_in new ≡ edited (kept_in entries) (removal_of path)
removal_edits path entries new h is =
    let edit : IsEdit path (kept_in entries) [] (kept_in (remove_entry (is_its path) entries)) = removes path entries h in
    ap kept_in is ∙ edit.after ∙ sym (edited_cut (removal_of path) edit.cut)

-- the last of two lists is in order
pub back_ascends : (front back : List KeptFacts) → AscendsByPath (front ++ back) → AscendsByPath back
back_ascends [] back h = h
back_ascends (row ∷ front) back h = back_ascends front back (rest_related Before row (front ++ back) h)

-- the rows cut where a row is to stand before all of them
cut_first : {path : List ℕ} {rows : List KeptFacts} → All (λ row. IsBefore path row.path) rows → IsCut path rows [] [] rows
cut_first {path} {rows} after = record {
  whole = refl;
  apart = record { before = All-nil (λ r. IsBefore r.path path); after = after };
  here = All-nil (λ r. r.path ≡ path);
}

-- a row before the others is put before them
put_first : (front : List KeptFacts) (row : KeptFacts) (back : List KeptFacts) → AscendsByPath ((front ++ row ∷ []) ++ back) → edited back (put_bytes row.path row.bytes) ≡ row ∷ back
put_first [] row back h = edited_cut (put_bytes row.path row.bytes) (cut_first (first_related Before row back h))
put_first (other ∷ front) row back h = put_first front row back (rest_related Before other ((front ++ row ∷ []) ++ back) h)

-- the last of a list, found and taken
last_taken : (rest : List KeptFacts) {rows : List KeptFacts} {popped : Option KeptFacts} {row : KeptFacts} {n : ℕ} → n ≡ length rows → rows ≡ rest ++ option_to_list popped → ((d : KeptFacts) → 0 < n → popped ≡ Some (get_or rows (n - 1) d)) → Some row ≡ slice_get rows (length rows - 1) → rows ≡ rest ++ row ∷ []
last_taken rest {rows} {popped} {row} {n} same whole value found =
    let within : length rows - 1 < length rows = slice_get_within rows (length rows - 1) row (sym found) in
    let row_is : get_or rows (length rows - 1) row ≡ row = get_or_from_slice_get rows (length rows - 1) row row (sym found) in
    let popped_is : popped ≡ Some (get_or rows (n - 1) row) = value row (omega (arith, within, same)) in
    whole
    ∙ ap (λ (o : Option KeptFacts). rest ++ option_to_list o) (popped_is ∙ ap (λ (m : ℕ). Some (get_or rows (m - 1) row)) same ∙ ap Some row_is)

-- the last of the list goes before all of the tree
pub moved : (rest kept : List KeptFacts) {rows new slice : List KeptFacts} {popped : Option KeptFacts} {n : ℕ} {path bytes : List ℕ} (row : KeptFacts) → AscendsByPath (rows ++ kept) → n ≡ length rows → rows ≡ rest ++ option_to_list popped → ((d : KeptFacts) → 0 < n → popped ≡ Some (get_or rows (n - 1) d)) → slice ≡ rows → Some row ≡ slice_get slice (length slice - 1) → new ≡ edited kept (put_bytes path bytes) → path ≡ row.path → bytes ≡ row.bytes → rest ++ new ≡ rows ++ kept
moved rest kept {rows} {new} {slice} {popped} {n} {path} {bytes} row h same whole value slice_is found new_is path_is bytes_is =
    let last : rows ≡ rest ++ row ∷ [] = last_taken rest same whole value (subst (λ (s : List KeptFacts). Some row ≡ slice_get s (length s - 1)) slice_is found) in
    let at : AscendsByPath ((rest ++ row ∷ []) ++ kept) = subst (λ (g : List KeptFacts). AscendsByPath (g ++ kept)) last h in
    ap (λ (l : List KeptFacts). rest ++ l)
    (new_is ∙ ap (λ (p : List ℕ). edited kept (put_bytes p bytes)) path_is ∙ ap (λ (b : List ℕ). edited kept (put_bytes row.path b)) bytes_is ∙ put_first rest row kept at)
    ∙ around rest
    ∙ ap (λ (g : List KeptFacts). g ++ kept) (sym last)
  where
    around : (front : List KeptFacts) → front ++ row ∷ kept ≡ (front ++ row ∷ []) ++ kept
    around [] = refl
    around (x ∷ front) = ap (λ (l : List KeptFacts). x ∷ l) (around front)

-- all rows are in the tree
settled : {given kept all : List KeptFacts} → given ++ kept ≡ all → given ≡ [] → kept ≡ all
settled {given} {kept} {all} same none = ap (λ (g : List KeptFacts). g ++ kept) (sym none) ∙ same

-- a change of the tree is one of all rows
pub edit_done : (kept : List KeptFacts) {given new all : List KeptFacts} (edit : EditFacts) → given ++ kept ≡ all → given ≡ [] → new ≡ edited kept edit → given ++ new ≡ edited all edit
edit_done kept {given} {new} {all} edit same none new_is =
    ap (λ (g : List KeptFacts). g ++ new) none ∙ new_is ∙ ap (λ (k : List KeptFacts). edited k edit) (settled same none)

-- and all rows stay in order
pub edit_keeps : (kept : List KeptFacts) {given new all : List KeptFacts} (edit : EditFacts) → AscendsByPath all → given ++ kept ≡ all → given ≡ [] → new ≡ edited kept edit → AscendsByPath (given ++ new)
edit_keeps kept {given} {new} {all} edit h same none new_is = subst AscendsByPath (sym (edit_done kept edit same none new_is)) (edited_ascends all edit h)
