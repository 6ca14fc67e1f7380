-- Slots by path, cut at a path: how its slot is found, filled, made and taken.
use Rattle.std.proofs.Common.{◌≡◌, ℕ, true, false, List, [], ◌∷◌, ◌++◌, Option, Some, None, cond, refl, sym, ◌∙◌, ap, subst}
use Rattle.std.specs.BTreeMap.{is_at, insert_entry}
use Rattle.std.specs.Cmp.Lexicographic.{slice_cmp}
use Rattle.std.specs.List.{All, AllByRecursion}
use Rattle.std.specs.List.Sorted.{IsStrictlySortedBy}
use Rattle.std.specs.Map.{keys_of, lookup, remove_entry, set_value}
use Rattle.std.specs.Ordering.{nat_cmp, is_eq}
use Rattle.std.specs.Prelude.{Bool}
use Rattle.std.specs.declared.cmp.Ordering.TheVariants.{Less, Equal, Greater}
use Rattle.std.proofs.lemmas.Cmp.{nat_list_cmp_total, tied_itself}
use Rattle.std.proofs.lemmas.List.Elements.{All-cons, All-head, All-nil, All-tail, All-weaker}
use Rattle.std.proofs.lemmas.Map.Keys.{sorted_head, sorted_tail}
use Rattle.std.proofs.lemmas.Map.Lookups.{exact_bytes}
use Rattle.std.proofs.lemmas.Map.Text.{is_eq-slice_cmp}
use Rattle.std.proofs.lemmas.Slice.Eq.{bytes_eq-Decides}
use Rattle.row_types.specs.Ascends.{IsBefore}
use Rattle.row_types.specs.Row.{RowFacts}
use Rattle.index_rows.specs.Slots.{Slot, path_slot}
use Rattle.index_rows.proofs.PathLemmas.{after_before, before_after}

-- the path's slot with this in it, if it has one
abbrev pub own_slot : List ℕ → Option (Option RowFacts) → List Slot
own_slot path None = []
own_slot path (Some x) = (path, x) ∷ []

-- the slots before the path, its own, if it has one, and those behind it
pub record IsCut (path : List ℕ) (slots front : List Slot) (own : Option (Option RowFacts)) (back : List Slot) : Type 0 where
  pub whole : slots ≡ front ++ (own_slot path own ++ back)
  pub below : All (λ slot. IsBefore slot.0 path) front
  pub above : All (λ slot. IsBefore path slot.0) back

-- slots that can be cut at the path
pub record HasCut (path : List ℕ) (slots : List Slot) : Type 0 where
  pub front : List Slot
  pub own : Option (Option RowFacts)
  pub back : List Slot
  pub cut : IsCut path slots front own back

-- each key stands behind the path
behind : (path : List ℕ) (slots : List Slot) → AllByRecursion (λ key. slice_cmp nat_cmp path key ≡ Less) (keys_of slots) → All (λ slot. IsBefore path slot.0) slots
behind path [] h = All-nil (λ slot. IsBefore path slot.0)
behind path (slot ∷ slots) h = All-cons (λ s. IsBefore path s.0) slot slots h.0 (behind path slots h.1)

cut_less : {path : List ℕ} {slot : Slot} {slots : List Slot} → IsBefore slot.0 path → HasCut path slots → HasCut path (slot ∷ slots)
cut_less {path} {slot} {slots} before rest = record {
  front = slot ∷ rest.front;
  own = rest.own;
  back = rest.back;
  cut = record {
    whole = ap (λ l. slot ∷ l) rest.cut.whole;
    below = All-cons (λ s. IsBefore s.0 path) slot rest.front before rest.cut.below;
    above = rest.cut.above;
  };
}

cut_here : {path : List ℕ} {slot : Slot} {slots : List Slot} → slot.0 ≡ path → All (λ s. IsBefore slot.0 s.0) slots → HasCut path (slot ∷ slots)
cut_here {path} {slot} {slots} same after = record {
  front = [];
  own = Some slot.1;
  back = slots;
  cut = record {
    whole = ap (λ (p : List ℕ). with_path p ∷ slots) same;
    below = All-nil (λ s. IsBefore s.0 path);
    above = subst (λ (p : List ℕ). All (λ s. IsBefore p s.0) slots) same after;
  };
}
  where
    with_path : List ℕ → Slot
    with_path p = (p, slot.1)

cut_before : {path : List ℕ} {slot : Slot} {slots : List Slot} → IsBefore path slot.0 → All (λ s. IsBefore slot.0 s.0) slots → HasCut path (slot ∷ slots)
cut_before {path} {slot} {slots} before after = record {
  front = [];
  own = None;
  back = slot ∷ slots;
  cut = record {
    whole = refl;
    below = All-nil (λ s. IsBefore s.0 path);
    above = All-cons (λ s. IsBefore path s.0) slot slots before
        (All-weaker (λ (s : Slot). IsBefore slot.0 s.0) (λ s. IsBefore path s.0) (λ s. nat_list_cmp_total.trans path slot.0 s.0 before) slots after);
  };
}

-- slots in path order can be cut
pub cut_of : (path : List ℕ) (slots : List Slot) → IsStrictlySortedBy (slice_cmp nat_cmp) (keys_of slots) → HasCut path slots
cut_of path [] h = record {
  front = [];
  own = None;
  back = [];
  cut = record { whole = refl; below = All-nil (λ s. IsBefore s.0 path); above = All-nil (λ s. IsBefore path s.0) };
}
cut_of path (slot ∷ slots) h =
    let after : All (λ s. IsBefore slot.0 s.0) slots = behind slot.0 slots (sorted_head (slice_cmp nat_cmp) slot.0 (keys_of slots) h) in
    (elim (slice_cmp nat_cmp slot.0 path) as (λ o. slice_cmp nat_cmp slot.0 path ≡ o → HasCut path (slot ∷ slots)) [
      | Less ↦ λ e. cut_less e (cut_of path slots (sorted_tail (slice_cmp nat_cmp) slot.0 (keys_of slots) h))
      | Equal ↦ λ e. cut_here (exact_bytes slot.0 path e) after
      | Greater ↦ λ e. cut_before (before_after slot.0 path e) after
    ]) refl

-- the path's slot isn't one before it, nor one behind it
not_below : (path : List ℕ) (slots : List Slot) → All (λ slot. IsBefore slot.0 path) slots → All (λ slot. is_at (slice_cmp nat_cmp path) slot.0 ≡ false) slots
not_below path slots = All-weaker (λ (s : Slot). IsBefore s.0 path) (λ s. is_at (slice_cmp nat_cmp path) s.0 ≡ false) (λ s before. ap is_eq (after_before s.0 path before)) slots

not_above : (path : List ℕ) (slots : List Slot) → All (λ slot. IsBefore path slot.0) slots → All (λ slot. is_at (slice_cmp nat_cmp path) slot.0 ≡ false) slots
not_above path slots = All-weaker (λ (s : Slot). IsBefore path s.0) (λ s. is_at (slice_cmp nat_cmp path) s.0 ≡ false) (λ s before. ap is_eq before) slots

is_own : (path : List ℕ) → is_at (slice_cmp nat_cmp path) path ≡ true
is_own path = ap is_eq (tied_itself nat_list_cmp_total path)

-- a path at which another is found is that one
its_path : (path other : List ℕ) → is_at (slice_cmp nat_cmp path) other ≡ true → path ≡ other
its_path path other e = (bytes_eq-Decides path other).0 (sym (is_eq-slice_cmp path other) ∙ e)

-- a search passes over what doesn't pass
lookup_skips : (test : List ℕ → Bool) (front back : List Slot) → All (λ slot. test slot.0 ≡ false) front → lookup test (front ++ back) ≡ lookup test back
lookup_skips test [] back h = refl
lookup_skips test (s ∷ front) back h =
    let fails : test s.0 ≡ false = All-head (λ (x : Slot). test x.0 ≡ false) s front h in
    rw fails (lookup_skips test front back (All-tail (λ (x : Slot). test x.0 ≡ false) s front h))

lookup_none : (test : List ℕ → Bool) (slots : List Slot) → All (λ slot. test slot.0 ≡ false) slots → lookup test slots ≡ None
lookup_none test [] h = refl
lookup_none test (s ∷ slots) h =
    let fails : test s.0 ≡ false = All-head (λ (x : Slot). test x.0 ≡ false) s slots h in
    rw fails (lookup_none test slots (All-tail (λ (x : Slot). test x.0 ≡ false) s slots h))

remove_skips : (test : List ℕ → Bool) (front back : List Slot) → All (λ slot. test slot.0 ≡ false) front → remove_entry test (front ++ back) ≡ front ++ remove_entry test back
remove_skips test [] back h = refl
remove_skips test (s ∷ front) back h =
    let fails : test s.0 ≡ false = All-head (λ (x : Slot). test x.0 ≡ false) s front h in
    rw fails (ap (λ l. s ∷ l) (remove_skips test front back (All-tail (λ (x : Slot). test x.0 ≡ false) s front h)))

set_skips : (test : List ℕ → Bool) (front back : List Slot) (w : Option RowFacts) → All (λ slot. test slot.0 ≡ false) front → set_value test (front ++ back) w ≡ front ++ set_value test back w
set_skips test [] back w h = refl
set_skips test (s ∷ front) back w h =
    let fails : test s.0 ≡ false = All-head (λ (x : Slot). test x.0 ≡ false) s front h in
    rw fails (ap (λ l. s ∷ l) (set_skips test front back w (All-tail (λ (x : Slot). test x.0 ≡ false) s front h)))

insert_skips : (path : List ℕ) (front back : List Slot) (w : Option RowFacts) → All (λ slot. IsBefore slot.0 path) front → insert_entry (slice_cmp nat_cmp) (front ++ back) path w ≡ front ++ insert_entry (slice_cmp nat_cmp) back path w
insert_skips path [] back w h = refl
insert_skips path (s ∷ front) back w h =
    let greater : slice_cmp nat_cmp path s.0 ≡ Greater = after_before s.0 path (All-head (λ (x : Slot). IsBefore x.0 path) s front h) in
    rw greater (ap (λ l. s ∷ l) (insert_skips path front back w (All-tail (λ (x : Slot). IsBefore x.0 path) s front h)))

insert_first : (path : List ℕ) (back : List Slot) (w : Option RowFacts) → All (λ slot. IsBefore path slot.0) back → insert_entry (slice_cmp nat_cmp) back path w ≡ (path, w) ∷ back
insert_first path [] w h = refl
insert_first path (s ∷ back) w h =
    let less : slice_cmp nat_cmp path s.0 ≡ Less = All-head (λ (x : Slot). IsBefore path x.0) s back h in
    rw less refl

-- what is in the path's slot
pub slot_cut : {path : List ℕ} {slots front back : List Slot} {own : Option (Option RowFacts)} → IsCut path slots front own back → path_slot path slots ≡ own
slot_cut {path} {slots} {front} {back} {own} cut =
    ap (lookup (is_at (slice_cmp nat_cmp path))) cut.whole
    ∙ lookup_skips (is_at (slice_cmp nat_cmp path)) front (own_slot path own ++ back) (not_below path front cut.below)
    ∙ here own
  where
    here : (x : Option (Option RowFacts)) → lookup (is_at (slice_cmp nat_cmp path)) (own_slot path x ++ back) ≡ x
    here None = lookup_none (is_at (slice_cmp nat_cmp path)) back (not_above path back cut.above)
    here (Some x) = rw (is_own path) refl

-- the slots once something is put into the path's
pub set_cut : {path : List ℕ} {slots front back : List Slot} {x : Option RowFacts} (w : Option RowFacts) → IsCut path slots front (Some x) back → set_value (is_at (slice_cmp nat_cmp path)) slots w ≡ front ++ (path, w) ∷ back
set_cut {path} {slots} {front} {back} {x} w cut =
    let here : set_value (is_at (slice_cmp nat_cmp path)) ((path, x) ∷ back) w ≡ (path, w) ∷ back = rw (is_own path) refl in
    ap (λ (l : List Slot). set_value (is_at (slice_cmp nat_cmp path)) l w) cut.whole
    ∙ set_skips (is_at (slice_cmp nat_cmp path)) front ((path, x) ∷ back) w (not_below path front cut.below)
    ∙ ap (λ (l : List Slot). front ++ l) here

-- the slots once the path's is taken
pub remove_cut : {path : List ℕ} {slots front back : List Slot} {x : Option RowFacts} → IsCut path slots front (Some x) back → remove_entry (is_at (slice_cmp nat_cmp path)) slots ≡ front ++ back
remove_cut {path} {slots} {front} {back} {x} cut =
    let here : remove_entry (is_at (slice_cmp nat_cmp path)) ((path, x) ∷ back) ≡ back = rw (is_own path) refl in
    ap (remove_entry (is_at (slice_cmp nat_cmp path))) cut.whole
    ∙ remove_skips (is_at (slice_cmp nat_cmp path)) front ((path, x) ∷ back) (not_below path front cut.below)
    ∙ ap (λ (l : List Slot). front ++ l) here

-- the slots once one is made for the path
pub insert_cut : {path : List ℕ} {slots front back : List Slot} (w : Option RowFacts) → IsCut path slots front None back → insert_entry (slice_cmp nat_cmp) slots path w ≡ front ++ (path, w) ∷ back
insert_cut {path} {slots} {front} {back} w cut =
    ap (λ (l : List Slot). insert_entry (slice_cmp nat_cmp) l path w) cut.whole
    ∙ insert_skips path front back w cut.below
    ∙ ap (λ (l : List Slot). front ++ l) (insert_first path back w cut.above)

-- ---- slots in which the same is found

none_at : (path : List ℕ) (slots : List Slot) → All (λ slot. IsBefore path slot.0) slots → path_slot path slots ≡ None
none_at path slots h = lookup_none (is_at (slice_cmp nat_cmp path)) slots (not_above path slots h)

own_at : (slot : Slot) (slots : List Slot) → path_slot slot.0 (slot ∷ slots) ≡ Some slot.1
own_at slot slots = ap (λ b. cond b (Some slot.1) (path_slot slot.0 slots)) (is_own slot.0)

-- what stands behind another path stands behind one before it
further : (path other : List ℕ) (slots : List Slot) → IsBefore path other → All (λ slot. IsBefore other slot.0) slots → All (λ slot. IsBefore path slot.0) slots
further path other slots before h = All-weaker (λ (s : Slot). IsBefore other s.0) (λ s. IsBefore path s.0) (λ s. nat_list_cmp_total.trans path other s.0 before) slots h

-- slots in path order in which the same is found are the same
pub same_slots : (xs ys : List Slot) → IsStrictlySortedBy (slice_cmp nat_cmp) (keys_of xs) → IsStrictlySortedBy (slice_cmp nat_cmp) (keys_of ys) → ((path : List ℕ) → path_slot path xs ≡ path_slot path ys) → xs ≡ ys
same_slots [] [] s t h = refl
same_slots [] (y ∷ ys) s t h = absurd (let k = h y.0 ∙ own_at y ys in cc)
same_slots (x ∷ xs) [] s t h = absurd (let k = sym (h x.0) ∙ own_at x xs in cc)
same_slots (x ∷ xs) (y ∷ ys) s t h =
    (elim (slice_cmp nat_cmp x.0 y.0) as (λ o. slice_cmp nat_cmp x.0 y.0 ≡ o → x ∷ xs ≡ y ∷ ys) [
      | Less ↦ λ e. absurd (let k = sym (own_at x xs) ∙ h x.0 ∙ none_at x.0 (y ∷ ys) (All-cons (λ (z : Slot). IsBefore x.0 z.0) y ys e (further x.0 y.0 ys e past_y)) in cc)
      | Equal ↦ λ e.
          let same : x.0 ≡ y.0 = exact_bytes x.0 y.0 e in
          let found : Some x.1 ≡ Some y.1 = sym (own_at x xs) ∙ h x.0 ∙ ap (λ (p : List ℕ). path_slot p (y ∷ ys)) same ∙ own_at y ys in
          let value : x.1 ≡ y.1 = cc in
          let rest : xs ≡ ys =
          same_slots xs ys (sorted_tail (slice_cmp nat_cmp) x.0 (keys_of xs) s) (sorted_tail (slice_cmp nat_cmp) y.0 (keys_of ys) t) (λ path. later same path) in
          ap (λ (p : List ℕ). with_both p x.1 ∷ xs) same ∙ ap (λ (v : Option RowFacts). with_both y.0 v ∷ xs) value ∙ ap (λ (l : List Slot). y ∷ l) rest
      | Greater ↦ λ e.
          let before : IsBefore y.0 x.0 = before_after x.0 y.0 e in
          absurd (let k = sym (own_at y ys) ∙ sym (h y.0) ∙ none_at y.0 (x ∷ xs) (All-cons (λ (z : Slot). IsBefore y.0 z.0) x xs before (further y.0 x.0 xs before past_x)) in cc)
    ]) refl
  where
    with_both : List ℕ → Option RowFacts → Slot
    with_both p v = (p, v)

    past_x : All (λ slot. IsBefore x.0 slot.0) xs
    past_x = behind x.0 xs (sorted_head (slice_cmp nat_cmp) x.0 (keys_of xs) s)

    past_y : All (λ slot. IsBefore y.0 slot.0) ys
    past_y = behind y.0 ys (sorted_head (slice_cmp nat_cmp) y.0 (keys_of ys) t)

    later : x.0 ≡ y.0 → (path : List ℕ) → path_slot path xs ≡ path_slot path ys
    later same path =
        (elim (is_at (slice_cmp nat_cmp path) x.0) as (λ b. is_at (slice_cmp nat_cmp path) x.0 ≡ b → path_slot path xs ≡ path_slot path ys) [
          | true ↦ λ e.
              let its : path ≡ x.0 = its_path path x.0 e in
              none_at path xs (subst (λ (p : List ℕ). All (λ slot. IsBefore p slot.0) xs) (sym its) past_x)
              ∙ sym (none_at path ys (subst (λ (p : List ℕ). All (λ slot. IsBefore p slot.0) ys) (sym (its ∙ same)) past_y))
          | false ↦ λ e.
              sym (ap (λ b. cond b (Some x.1) (path_slot path xs)) e)
              ∙ h path
              ∙ ap (λ b. cond b (Some y.1) (path_slot path ys)) (ap (is_at (slice_cmp nat_cmp path)) (sym same) ∙ e)
        ]) refl
