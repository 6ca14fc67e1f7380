-- The rows in slots: what is found, put and left, and how many there are.
use Rattle.std.proofs.Common.{◌≡◌, ℕ, ◌+◌, cond, List, [], ◌∷◌, ◌++◌, length, Option, Some, None, refl, sym, ◌∙◌, ap, subst, arith, length-append}
use Rattle.std.specs.BTreeMap.{is_at, insert_entry}
use Rattle.std.specs.Cmp.Lexicographic.{slice_cmp}
use Rattle.std.specs.List.{All, flat_map}
use Rattle.std.specs.Map.{remove_entry, set_value, values_of}
use Rattle.std.specs.Option.{option_copied, option_flatten, option_to_list}
use Rattle.std.specs.Ordering.{nat_cmp}
use Rattle.std.specs.Prelude.{IfSome, IsSome, false, is_some, true}
use denote.Ref.{Bor}
use Rattle.std.specs.Str.{bytes_eq}
use Rattle.std.proofs.lemmas.Bool.{false_from_ne_true, false≢true}
use Rattle.std.proofs.lemmas.List.{map-append}
use Rattle.std.proofs.lemmas.List.Concat.{flat_map-append}
use Rattle.std.proofs.lemmas.List.Elements.{All-append, All-cons, All-head, All-nil, All-same, All-tail}
use Rattle.std.proofs.lemmas.Map.Text.{is_eq-slice_cmp}
use Rattle.std.proofs.lemmas.Slice.Eq.{bytes_eq-Decides}
use Rattle.row_types.specs.Ascends.{IsBefore}
use Rattle.row_types.specs.Row.{RowFacts}
use Rattle.index_rows.specs.Rows.{row_at, row_path, with_row, without_row}
use Rattle.index_rows.specs.Table.{total}
use Rattle.index_rows.proofs.TotalLemmas.{total_append}
use Rattle.index_rows.specs.Shelf.{IsInSlot}
use Rattle.index_rows.specs.Slots.{AreRowSlots, IsOwn, Slot, rows_in_slots, path_slot}
use Rattle.index_rows.proofs.ApartLemmas.{IsApart, found_apart, put_apart, without_apart}
use Rattle.index_rows.proofs.SlotLemmas.{HasCut, IsCut, cut_of, insert_cut, own_slot, remove_cut, set_cut, slot_cut}

-- the rows in two lists of slots
rows_append : (xs ys : List Slot) → rows_in_slots (xs ++ ys) ≡ rows_in_slots xs ++ rows_in_slots ys
rows_append xs ys = ap (flat_map option_to_list) (map-append (λ (s : Slot). s.1) xs ys) ∙ flat_map-append option_to_list (values_of xs) (values_of ys)

-- what holds of each of two lists
first_all : {X : Type 0} (P : X → Type 0) (xs ys : List X) → All P (xs ++ ys) → All P xs
first_all P [] ys h = All-nil P
first_all P (x ∷ xs) ys h = All-cons P x xs (All-head P x (xs ++ ys) h) (first_all P xs ys (All-tail P x (xs ++ ys) h))

last_all : {X : Type 0} (P : X → Type 0) (xs ys : List X) → All P (xs ++ ys) → All P ys
last_all P [] ys h = h
last_all P (x ∷ xs) ys h = last_all P xs ys (All-tail P x (xs ++ ys) h)

-- what holds of a slot's path holds of the path of the row in it
rows_hold : (P : List ℕ → Type 0) (slots : List Slot) → All IsOwn slots → All (λ slot. P slot.0) slots → All (λ row. P (row_path row)) (rows_in_slots slots)
rows_hold P [] own h = All-nil (λ row. P (row_path row))
rows_hold P (slot ∷ slots) own h =
    one slot.0 slot.1 (All-head IsOwn slot slots own) (All-head (λ (s : Slot). P s.0) slot slots h)
    (rows_in_slots slots) (rows_hold P slots (All-tail IsOwn slot slots own) (All-tail (λ (s : Slot). P s.0) slot slots h))
  where
    one : (path : List ℕ) (o : Option RowFacts) → IsOwn (path, o) → P path → (rows : List RowFacts) → All (λ row. P (row_path row)) rows → All (λ row. P (row_path row)) (option_to_list o ++ rows)
    one path None mine holds rows rest = rest
    one path (Some row) mine holds rows rest = All-cons (λ r. P (row_path r)) row rows (subst P (sym mine) holds) rest

-- the rows about a path
rows_apart : {path : List ℕ} {slots front back : List Slot} {own : Option (Option RowFacts)} → All IsOwn slots → IsCut path slots front own back → IsApart row_path path (rows_in_slots slots) (rows_in_slots front) (option_to_list (option_flatten own)) (rows_in_slots back)
rows_apart {path} {slots} {front} {back} {own} mine cut =
    let all : All IsOwn (front ++ (own_slot path own ++ back)) = All-same IsOwn (front ++ (own_slot path own ++ back)) slots (sym cut.whole) mine in
    let rest : All IsOwn (own_slot path own ++ back) = last_all IsOwn front (own_slot path own ++ back) all in
    record {
      whole = ap rows_in_slots cut.whole ∙ rows_append front (own_slot path own ++ back) ∙ ap (λ l. rows_in_slots front ++ l) (rows_append (own_slot path own) back ∙ ap (λ l. l ++ rows_in_slots back) (own_rows own));
      below = rows_hold (λ p. IsBefore p path) front (first_all IsOwn front (own_slot path own ++ back) all) cut.below;
      here = own_path own (first_all IsOwn (own_slot path own) back rest);
      above = rows_hold (λ p. IsBefore path p) back (last_all IsOwn (own_slot path own) back rest) cut.above;
    }
  where
    own_rows : (o : Option (Option RowFacts)) → rows_in_slots (own_slot path o) ≡ option_to_list (option_flatten o)
    own_rows None = refl
    own_rows (Some None) = refl
    own_rows (Some (Some row)) = refl

    own_path : (o : Option (Option RowFacts)) → All IsOwn (own_slot path o) → All (λ row. row_path row ≡ path) (option_to_list (option_flatten o))
    own_path None h = All-nil (λ row. row_path row ≡ path)
    own_path (Some None) h = All-nil (λ row. row_path row ≡ path)
    own_path (Some (Some row)) h = All-cons (λ r. row_path r ≡ path) row [] (All-head IsOwn (path, Some row) [] h) (All-nil (λ r. row_path r ≡ path))

-- the path's row is what is in its slot
pub row_found : (path : List ℕ) (slots : List Slot) → AreRowSlots slots → row_at path (rows_in_slots slots) ≡ option_flatten (path_slot path slots)
row_found path slots h =
    let c : HasCut path slots = cut_of path slots h.ascend in
    found_apart (rows_apart h.own c.cut) ∙ ap option_flatten (sym (slot_cut c.cut))

-- what a row has once it is found has its path
pub found_own : {path : List ℕ} {slots : List Slot} {row : RowFacts} → AreRowSlots slots → path_slot path slots ≡ Some (Some row) → row_path row ≡ path
found_own {path} {slots} {row} h e =
    let c : HasCut path slots = cut_of path slots h.ascend in
    let own : c.own ≡ Some (Some row) = sym (slot_cut c.cut) ∙ e in
    let cut : IsCut path slots c.front (Some (Some row)) c.back = subst (λ o. IsCut path slots c.front o c.back) own c.cut in
    All-head (λ r. row_path r ≡ path) row [] (rows_apart h.own cut).here

-- slots after a change of the path's: the rows before it, what it has then, and the rows behind it
record IsChanged (path : List ℕ) (slots new : List Slot) (x y : Option RowFacts) : Type 0 where
  front : List RowFacts
  back : List RowFacts
  before : IsApart row_path path (rows_in_slots slots) front (option_to_list x) back
  after : rows_in_slots new ≡ front ++ (option_to_list y ++ back)
  own : All IsOwn new

-- the rows about one slot
rows_about : (path : List ℕ) (w : Option RowFacts) (front back : List Slot) → rows_in_slots (front ++ (path, w) ∷ back) ≡ rows_in_slots front ++ (option_to_list w ++ rows_in_slots back)
rows_about path w front back = rows_append front ((path, w) ∷ back)

-- what holds of the slots holds of those about one
own_about : {path : List ℕ} {slots front back : List Slot} {own : Option (Option RowFacts)} → All IsOwn slots → IsCut path slots front own back → All IsOwn front × All IsOwn back
own_about {path} {slots} {front} {back} {own} mine cut =
    let all : All IsOwn (front ++ (own_slot path own ++ back)) = All-same IsOwn (front ++ (own_slot path own ++ back)) slots (sym cut.whole) mine in
    (first_all IsOwn front (own_slot path own ++ back) all, last_all IsOwn (own_slot path own) back (last_all IsOwn front (own_slot path own ++ back) all))

-- something else is put into a slot
put_changes : {path : List ℕ} {slots new front back : List Slot} {x : Option RowFacts} (y : Option RowFacts) → All IsOwn slots → IsOwn (path, y) → IsCut path slots front (Some x) back → new ≡ set_value (is_at (slice_cmp nat_cmp path)) slots y → IsChanged path slots new x y
put_changes {path} {slots} {new} {front} {back} {x} y mine one cut e =
    let both = own_about mine cut in
    let new_is : new ≡ front ++ (path, y) ∷ back = e ∙ set_cut y cut in
    record {
      front = rows_in_slots front;
      back = rows_in_slots back;
      before = rows_apart mine cut;
      after = ap rows_in_slots new_is ∙ rows_about path y front back;
      own = All-same IsOwn new (front ++ (path, y) ∷ back) new_is (All-append IsOwn front ((path, y) ∷ back) both.0 (All-cons IsOwn (path, y) back one both.1));
    }

-- a slot is taken
removal_changes : {path : List ℕ} {slots new front back : List Slot} {x : Option RowFacts} → All IsOwn slots → IsCut path slots front (Some x) back → new ≡ remove_entry (is_at (slice_cmp nat_cmp path)) slots → IsChanged path slots new x None
removal_changes {path} {slots} {new} {front} {back} {x} mine cut e =
    let both = own_about mine cut in
    let new_is : new ≡ front ++ back = e ∙ remove_cut cut in
    record {
      front = rows_in_slots front;
      back = rows_in_slots back;
      before = rows_apart mine cut;
      after = ap rows_in_slots new_is ∙ rows_append front back;
      own = All-same IsOwn new (front ++ back) new_is (All-append IsOwn front back both.0 both.1);
    }

-- a slot is made
making_changes : {path : List ℕ} {slots new front back : List Slot} → All IsOwn slots → IsCut path slots front None back → new ≡ insert_entry (slice_cmp nat_cmp) slots path None → IsChanged path slots new None None
making_changes {path} {slots} {new} {front} {back} mine cut e =
    let both = own_about mine cut in
    let new_is : new ≡ front ++ (path, None) ∷ back = e ∙ insert_cut None cut in
    record {
      front = rows_in_slots front;
      back = rows_in_slots back;
      before = rows_apart mine cut;
      after = ap rows_in_slots new_is ∙ rows_about path None front back;
      own = All-same IsOwn new (front ++ (path, None) ∷ back) new_is (All-append IsOwn front ((path, None) ∷ back) both.0 (All-cons IsOwn (path, None) back tt both.1));
    }

-- what stays is as it was
same_rows : {path : List ℕ} {slots new : List Slot} → IsChanged path slots new None None → rows_in_slots new ≡ rows_in_slots slots
same_rows h = h.after ∙ sym h.before.whole

-- the slots' cut, where what the path's has is known
cut_with : {path : List ℕ} {slots : List Slot} {own : Option (Option RowFacts)} → AreRowSlots slots → path_slot path slots ≡ own → (front : List Slot) × (back : List Slot) × IsCut path slots front own back
cut_with {path} {slots} {own} h e =
    let c : HasCut path slots = cut_of path slots h.ascend in
    (c.front, c.back, subst (λ o. IsCut path slots c.front o c.back) (sym (slot_cut c.cut) ∙ e) c.cut)

-- once a row is put into its path's slot
pub put_done : (path : List ℕ) {slots new : List Slot} {x w : Option RowFacts} (row : RowFacts) → AreRowSlots slots → row_path row ≡ path → path_slot path slots ≡ Some x → new ≡ set_value (is_at (slice_cmp nat_cmp path)) slots w → w ≡ Some row
    → (rows_in_slots new ≡ with_row row (rows_in_slots slots)) × All IsOwn new × (length (rows_in_slots new) + length (option_to_list x) ≡ length (rows_in_slots slots) + 1)
    × ((f : RowFacts → ℕ) → total f (rows_in_slots new) + total f (option_to_list x) ≡ total f (rows_in_slots slots) + f row)
put_done path {slots} {new} {x} {w} row h same e is holds =
    let c = cut_with h (subst (λ (p : List ℕ). path_slot p slots ≡ Some x) (sym same) e) in
    let new_is : new ≡ set_value (is_at (slice_cmp nat_cmp (row_path row))) slots (Some row) =
    is ∙ ap (λ (p : List ℕ). set_value (is_at (slice_cmp nat_cmp p)) slots w) (sym same) ∙ ap (set_value (is_at (slice_cmp nat_cmp (row_path row))) slots) holds in
    let change : IsChanged (row_path row) slots new x (Some row) = put_changes (Some row) h.own refl c.2 new_is in
    (change.after ∙ sym (put_apart row change.before), change.own, counted change, totals change)
  where
    totals : (change : IsChanged (row_path row) slots new x (Some row)) (f : RowFacts → ℕ) → total f (rows_in_slots new) + total f (option_to_list x) ≡ total f (rows_in_slots slots) + f row
    totals change f = omega (
      arith,
      ap (total f) change.after,
      ap (total f) change.before.whole,
      total_append f change.front (row ∷ change.back),
      total_append f change.front (option_to_list x ++ change.back),
      total_append f (option_to_list x) change.back,
    )

    counted : (change : IsChanged (row_path row) slots new x (Some row)) → length (rows_in_slots new) + length (option_to_list x) ≡ length (rows_in_slots slots) + 1
    counted change = omega (arith, ap length change.after, ap length change.before.whole, length-append change.front (row ∷ change.back), length-append change.front (option_to_list x ++ change.back), length-append (option_to_list x) change.back)

-- a path that has a row has a slot with it
pub row_slot : (path : List ℕ) (slots : List Slot) → AreRowSlots slots → IsSome (row_at path (rows_in_slots slots)) → (row : RowFacts) × (path_slot path slots ≡ Some (Some row))
row_slot path slots h some =
    let P : Option RowFacts → Type 0 = IsSome in
    opened (path_slot path slots) (subst P (row_found path slots h) some)
  where
    opened : (o : Option (Option RowFacts)) → IsSome (option_flatten o) → (row : RowFacts) × (o ≡ Some (Some row))
    opened None some = absurd (false≢true some)
    opened (Some None) some = absurd (false≢true some)
    opened (Some (Some row)) some = (row, refl)

-- once a path's row is taken with its slot
pub removal_done : (path : List ℕ) {slots new : List Slot} {row : RowFacts} → AreRowSlots slots → path_slot path slots ≡ Some (Some row) → new ≡ remove_entry (is_at (slice_cmp nat_cmp path)) slots
    → (rows_in_slots new ≡ without_row path (rows_in_slots slots)) × All IsOwn new × (length (rows_in_slots new) + 1 ≡ length (rows_in_slots slots)) × ((f : RowFacts → ℕ) → total f (rows_in_slots new) + f row ≡ total f (rows_in_slots slots))
removal_done path {slots} {new} {row} h e is =
    let c = cut_with h e in
    let change : IsChanged path slots new (Some row) None = removal_changes h.own c.2 is in
    (change.after ∙ sym (without_apart change.before), change.own, counted change, totals change)
  where
    totals : (change : IsChanged path slots new (Some row) None) (f : RowFacts → ℕ) → total f (rows_in_slots new) + f row ≡ total f (rows_in_slots slots)
    totals change f = omega (
      arith,
      ap (total f) change.after,
      ap (total f) change.before.whole,
      total_append f change.front change.back,
      total_append f change.front (row ∷ change.back),
    )

    counted : (change : IsChanged path slots new (Some row) None) → length (rows_in_slots new) + 1 ≡ length (rows_in_slots slots)
    counted change = omega (arith, ap length change.after, ap length change.before.whole, length-append change.front change.back, length-append change.front (row ∷ change.back))

-- once a slot in which nothing is is taken
pub given_up : (path : List ℕ) {slots new : List Slot} → AreRowSlots slots → path_slot path slots ≡ Some None → new ≡ remove_entry (is_at (slice_cmp nat_cmp path)) slots → (rows_in_slots new ≡ rows_in_slots slots) × All IsOwn new × (path_slot path new ≡ None)
given_up path {slots} {new} h e is =
    let c = cut_with h e in
    let change : IsChanged path slots new None None = removal_changes h.own c.2 is in
    let rest : IsCut path (c.0 ++ c.1) c.0 None c.1 = record { whole = refl; below = c.2.below; above = c.2.above } in
    (same_rows change, change.own, ap (path_slot path) (is ∙ remove_cut c.2) ∙ slot_cut rest)

-- once a slot is made
pub slot_made : (path : List ℕ) {slots new : List Slot} {key : List ℕ} → AreRowSlots slots → path_slot path slots ≡ None → key ≡ path → new ≡ insert_entry (slice_cmp nat_cmp) slots key None → (rows_in_slots new ≡ rows_in_slots slots) × All IsOwn new
slot_made path {slots} {new} {key} h e same is =
    let c = cut_with h e in
    let change : IsChanged path slots new None None = making_changes h.own c.2 (is ∙ ap (λ (p : List ℕ). insert_entry (slice_cmp nat_cmp) slots p None) same) in
    (same_rows change, change.own)

-- what was found has the path
pub found_path : (path : List ℕ) {slots : List Slot} (slot : Option RowFacts) (found : Option (Bor RowFacts)) → AreRowSlots slots → Some slot ≡ path_slot path slots → option_copied found ≡ slot → IfSome found (λ row. row.now.name.path ≡ path)
found_path path {slots} slot None h e is = tt
found_path path {slots} slot (Some row) h e is = found_own h (sym e ∙ ap Some (sym is))

-- another path's slot isn't meant
not_its : (path other : List ℕ) → (other ≡ path → ⊥) → is_at (slice_cmp nat_cmp path) other ≡ false
not_its path other differs =
    is_eq-slice_cmp path other ∙ false_from_ne_true (bytes_eq path other) (λ same. differs (sym ((bytes_eq-Decides path other).0 same)))

-- another path's slot stays where a path's is taken
pub not_taken : (path other : List ℕ) → (other ≡ path → ⊥) → (slots : List Slot) → path_slot other (remove_entry (is_at (slice_cmp nat_cmp path)) slots) ≡ path_slot other slots
not_taken path other differs [] = refl
not_taken path other differs (s ∷ slots) =
    (elim (is_at (slice_cmp nat_cmp path) s.0) as (λ b. is_at (slice_cmp nat_cmp path) s.0 ≡ b → path_slot other (cond b slots (s ∷ remove_entry (is_at (slice_cmp nat_cmp path)) slots)) ≡ path_slot other (s ∷ slots)) [
      | true ↦ λ t. sym (ap (λ b. cond b (Some s.1) (path_slot other slots)) (not_its other s.0 (λ same. differs (sym ((bytes_eq-Decides path s.0).0 (sym (is_eq-slice_cmp path s.0) ∙ t) ∙ same)))))
      | false ↦ λ t. ap (cond (is_at (slice_cmp nat_cmp other) s.0) (Some s.1)) (not_taken path other differs slots)
    ]) refl

-- a row in the slot of a path is the row of its own path, by which it was asked for
pub near_row : (path : List ℕ) (row : RowFacts) (slots : List Slot) → AreRowSlots slots → IsInSlot (Some row) slots → bytes_eq row.name.path path ≡ true → Some row ≡ row_at path (rows_in_slots slots)
near_row path row slots h there same =
    let own : row_path row ≡ there.0 = found_own h there.1 in
    let its : there.0 ≡ path = sym own ∙ (bytes_eq-Decides row.name.path path).0 same in
    sym (ap (λ (p : List ℕ). row_at p (rows_in_slots slots)) (sym its) ∙ row_found there.0 slots h ∙ ap option_flatten there.1)

pub counts_none : (o : Option RowFacts) → is_some o ≡ false → length (option_to_list o) ≡ 0
counts_none None e = refl
counts_none (Some x) e = absurd (false≢true (sym e))

pub counts_one : (o : Option RowFacts) → is_some o ≡ true → length (option_to_list o) ≡ 1
counts_one None e = absurd (false≢true e)
counts_one (Some x) e = refl
