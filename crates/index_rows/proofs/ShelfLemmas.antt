-- Slots under numbers: what is found, made, put and taken.
use Rattle.std.proofs.Common.{◌≡◌, inl, inr, ℕ, true, false, cond, List, [], ◌∷◌, map, Option, Some, None, refl, sym, ◌∙◌, ap, subst}
use denote.Ref.{Bor}
use Rattle.std.specs.BTreeMap.{is_at, insert_entry}
use Rattle.std.specs.Cmp.Lexicographic.{slice_cmp}
use Rattle.std.specs.List.{flat_map}
use Rattle.std.specs.List.Sorted.{IsStrictlySortedBy}
use Rattle.std.specs.Map.{keys_of, remove_entry, set_value, values_of}
use Rattle.std.specs.Option.{option_copied, option_flatten, option_map, option_to_list}
use Rattle.std.specs.Ordering.{is_eq, match_ordering, nat_cmp}
use Rattle.std.specs.Prelude.{Bool, IfSome, IsSome, is_some}
use Rattle.std.specs.declared.cmp.Ordering.{Ordering}
use Rattle.std.specs.declared.cmp.Ordering.TheVariants.{Less, Equal, Greater}
use Rattle.std.proofs.lemmas.Bool.{cases_eq, false≢true, true≢false}
use Rattle.std.proofs.lemmas.Cmp.{eq_by_cmp_equiv, nat_list_cmp_total, tied_itself}
use Rattle.std.proofs.lemmas.Map.{keys-set_value, lookup-set_value}
use Rattle.std.proofs.lemmas.Map.Lookups.{exact_bytes}
use Rattle.std.proofs.lemmas.Map.Made.{keys_of-map_values, lookup-map_values}
use Rattle.slab.specs.Slab.{Updates, get}
use Rattle.row_types.specs.Row.{RowFacts}
use Rattle.index_rows.specs.Shelf.{Held, IsInSlot, ArePathsNumbered, Numbers, held_in, path_number, rows_under, shelved}
use Rattle.index_rows.specs.Slots.{Slot, rows_in_slots, path_slot}
use Rattle.index_rows.proofs.SlotLemmas.{same_slots}

abbrev Ordered : {X : Type 0} → List (List ℕ × X) → Type 0
Ordered xs = IsStrictlySortedBy (slice_cmp nat_cmp) (keys_of xs)

-- whether a path is the path
abbrev is_path : List ℕ → List ℕ → Bool
is_path path other = is_at (slice_cmp nat_cmp path) other

path_is : (path other : List ℕ) → is_path path other ≡ true → path ≡ other
path_is path other e = of (slice_cmp nat_cmp path other) refl e
  where
    of : (o : Ordering) → slice_cmp nat_cmp path other ≡ o → is_eq o ≡ true → path ≡ other
    of Less p t = absurd (false≢true t)
    of Equal p t = exact_bytes path other p
    of Greater p t = absurd (false≢true t)

is_itself : (path other : List ℕ) → path ≡ other → is_path path other ≡ true
is_itself path other same = ap (is_path path) (sym same) ∙ ap is_eq (tied_itself nat_list_cmp_total path)

-- ---- what stands in the slots

module _ (held : Held) (numbers : Numbers) where
  slot_is : (path : List ℕ) → path_slot path (shelved held numbers) ≡ option_map (held_in held) (path_number path numbers)
  slot_is path = lookup-map_values (held_in held) (is_at (slice_cmp nat_cmp path)) numbers

  keys_are : keys_of (shelved held numbers) ≡ keys_of numbers
  keys_are = keys_of-map_values (held_in held) numbers

  -- the slots are in path order
  pub shelved_ascend : Ordered numbers → Ordered (shelved held numbers)
  shelved_ascend h = subst (IsStrictlySortedBy (slice_cmp nat_cmp)) (sym keys_are) h

  -- a path without a number has no slot
  pub slot_none : (path : List ℕ) → None ≡ path_number path numbers → path_slot path (shelved held numbers) ≡ None
  slot_none path e = slot_is path ∙ ap (option_map (held_in held)) (sym e)

  -- a path with a number has a slot
  pub slot_some : (path : List ℕ) (number : ℕ) → Some number ≡ path_number path numbers → IsSome (path_slot path (shelved held numbers))
  slot_some path number e =
      let P : Option (Option RowFacts) → Type 0 = IsSome in
      subst P (sym (slot_is path ∙ ap (option_map (held_in held)) (sym e))) refl

  -- a path with a slot has a number
  pub has_number : (path : List ℕ) → IsSome (path_slot path (shelved held numbers)) → None ≡ path_number path numbers → ⊥
  has_number path some e =
      let P : Option (Option RowFacts) → Type 0 = IsSome in
      absurd (false≢true (subst P (slot_none path e) some))

  -- a path without a slot has no number
  pub no_number : (path : List ℕ) → path_slot path (shelved held numbers) ≡ None → path_number path numbers ≡ None
  no_number path e = of (path_number path numbers) (sym (slot_is path) ∙ e)
    where
      of : (o : Option ℕ) → option_map (held_in held) o ≡ None → o ≡ None
      of None p = refl
      of (Some number) p = absurd (true≢false (ap is_some p))

  -- what is kept under a path's number is in its slot
  pub slot_there : (path : List ℕ) (number : ℕ) → ArePathsNumbered held numbers → Some number ≡ path_number path numbers → get held number ≡ path_slot path (shelved held numbers)
  slot_there path number h e =
      sym (slot_is path ∙ ap (option_map (held_in held)) (sym e) ∙ whole (get held number) (h.there path number (sym e)))
    where
      whole : (o : Option (Option RowFacts)) → IsSome o → Some (option_flatten o) ≡ o
      whole None some = absurd (false≢true some)
      whole (Some x) some = refl

  -- what is kept under a number is in some path's slot
  pub under_is : (number : ℕ) (found : Option (Bor (Option RowFacts))) → ArePathsNumbered held numbers → option_copied found ≡ get held number → IfSome found (λ x. IsInSlot x.now (shelved held numbers))
  under_is number None h e = tt
  under_is number (Some x) h e =
      let P : Option (Option RowFacts) → Type 0 = IsSome in
      let listed = h.listed number (subst P e refl) in
      (listed.0, sym (slot_there listed.0 number h (sym listed.1)) ∙ sym e)

  -- the rows under the paths' numbers are those in the slots
  pub rows_are : rows_under held (values_of numbers) ≡ rows_in_slots (shelved held numbers)
  rows_are = ap (flat_map option_to_list) (values numbers)
    where
      values : (es : Numbers) → map (held_in held) (values_of es) ≡ values_of (shelved held es)
      values [] = refl
      values (e ∷ es) = ap (λ l. held_in held e.1 ∷ l) (values es)

  -- a slot is made or taken where a number is
  made_there : (path : List ℕ) (number : ℕ) → insert_entry (slice_cmp nat_cmp) (shelved held numbers) path (held_in held number) ≡ shelved held (insert_entry (slice_cmp nat_cmp) numbers path number)
  made_there path number = of numbers
    where
      of : (es : Numbers) → insert_entry (slice_cmp nat_cmp) (shelved held es) path (held_in held number) ≡ shelved held (insert_entry (slice_cmp nat_cmp) es path number)
      of [] = refl
      of (e ∷ es) =
          elim (slice_cmp nat_cmp path e.0) as (λ o. match_ordering o ((path, held_in held number) ∷ shelved held (e ∷ es)) ((e.0, held_in held number) ∷ shelved held es) ((e.0, held_in held e.1) ∷ insert_entry (slice_cmp nat_cmp) (shelved held es) path (held_in held number))
          ≡ shelved held (match_ordering o ((path, number) ∷ e ∷ es) ((e.0, number) ∷ es) (e ∷ insert_entry (slice_cmp nat_cmp) es path number)))
          [ Less ↦ refl | Equal ↦ refl | Greater ↦ ap (λ (l : List Slot). (e.0, held_in held e.1) ∷ l) (of es) ]

  taken_there : (path : List ℕ) → remove_entry (is_path path) (shelved held numbers) ≡ shelved held (remove_entry (is_path path) numbers)
  taken_there path = of numbers
    where
      of : (es : Numbers) → remove_entry (is_path path) (shelved held es) ≡ shelved held (remove_entry (is_path path) es)
      of [] = refl
      of (e ∷ es) =
          elim (is_path path e.0) as (λ b. cond b (shelved held es) ((e.0, held_in held e.1) ∷ remove_entry (is_path path) (shelved held es)) ≡ shelved held (cond b es (e ∷ remove_entry (is_path path) es)))
          [ true ↦ refl | false ↦ ap (λ (l : List Slot). (e.0, held_in held e.1) ∷ l) (of es) ]

-- where each path's number keeps what it had, the slots do
same_shelved : (old new : Held) (numbers : Numbers) → Ordered numbers → ((path : List ℕ) (number : ℕ) → path_number path numbers ≡ Some number → get new number ≡ get old number) → shelved new numbers ≡ shelved old numbers
same_shelved old new numbers s h =
    same_slots (shelved new numbers) (shelved old numbers) (shelved_ascend new numbers s) (shelved_ascend old numbers s)
    (λ path. slot_is new numbers path ∙ of path (path_number path numbers) refl ∙ sym (slot_is old numbers path))
  where
    of : (path : List ℕ) (o : Option ℕ) → path_number path numbers ≡ o → option_map (held_in new) o ≡ option_map (held_in old) o
    of path None e = refl
    of path (Some number) e = ap (λ o. Some (option_flatten o)) (h path number e)

-- ---- what a change leaves

-- something else is put under a path's number
module _ (held new : Held) (numbers : Numbers) (path : List ℕ) (number : ℕ) (w : Option RowFacts) (h : ArePathsNumbered held numbers) (e : Some number ≡ path_number path numbers) (updates : Updates held new number (Some w)) where
  its : path_number path numbers ≡ Some number
  its = sym e

  others_keep : (other : List ℕ) (m : ℕ) → is_path path other ≡ false → path_number other numbers ≡ Some m → get new m ≡ get held m
  others_keep other m differs f =
      updates.others m (λ same. true≢false (sym (is_itself path other (h.apart path other number its (f ∙ ap Some same))) ∙ differs))

  pub put_slots : shelved new numbers ≡ set_value (is_path path) (shelved held numbers) w
  put_slots =
      let laws = eq_by_cmp_equiv nat_list_cmp_total in
      same_slots (shelved new numbers) (set_value (is_path path) (shelved held numbers) w) (shelved_ascend new numbers h.ascend)
      (subst (IsStrictlySortedBy (slice_cmp nat_cmp)) (sym (keys-set_value (is_path path) (shelved held numbers) w)) (shelved_ascend held numbers h.ascend))
      (λ other. slot_is new numbers other ∙ of other ∙ sym (lookup-set_value laws (is_path path) (laws.congr path) other w (shelved held numbers) (slot_some held numbers path number e)))
    where
      kept : (other : List ℕ) (o : Option ℕ) → is_path path other ≡ false → path_number other numbers ≡ o → option_map (held_in new) o ≡ option_map (held_in held) o
      kept other None differs f = refl
      kept other (Some m) differs f = ap (λ o. Some (option_flatten o)) (others_keep other m differs f)

      of : (other : List ℕ) → option_map (held_in new) (path_number other numbers) ≡ cond (is_path path other) (Some w) (path_slot other (shelved held numbers))
      of other =
          (elim (is_path path other) as (λ b. is_path path other ≡ b → option_map (held_in new) (path_number other numbers) ≡ cond b (Some w) (path_slot other (shelved held numbers))) [
            | true ↦ λ t. ap (λ p. option_map (held_in new) (path_number p numbers)) (sym (path_is path other t)) ∙ ap (option_map (held_in new)) its ∙ ap (λ o. Some (option_flatten o)) updates.changed
            | false ↦ λ t. kept other (path_number other numbers) t refl ∙ sym (slot_is held numbers other)
          ]) refl

  pub put_numbered : ArePathsNumbered new numbers
  put_numbered =
      let P : Option (Option RowFacts) → Type 0 = IsSome in
      record {
        ascend = h.ascend;
        there = λ other m f. elim (cases_eq m number) [ inl same ↦ subst P (sym (ap (get new) same ∙ updates.changed)) refl | inr differs ↦ subst P (sym (updates.others m differs)) (h.there other m f) ];
        apart = h.apart;
        listed = λ m some. elim (cases_eq m number) [ inl same ↦ (path, its ∙ ap Some (sym same)) | inr differs ↦ h.listed m (subst P (updates.others m differs) some) ];
      }

-- a path's number is taken
module _ (held new : Held) (numbers fewer : Numbers) (path : List ℕ) (number : ℕ) (h : ArePathsNumbered held numbers) (e : Some number ≡ path_number path numbers) (updates : Updates held new number None) (is : fewer ≡ remove_entry (is_path path) numbers) (changes : (other : List ℕ) → path_number other fewer ≡ cond (is_path path other) None (path_number other numbers)) (ordered : Ordered fewer) where
  -- a number that is left was there, and is another's
  left : (other : List ℕ) (m : ℕ) → path_number other fewer ≡ Some m → (path_number other numbers ≡ Some m) × (m ≡ number → ⊥)
  left other m f =
      (elim (is_path path other) as (λ b. is_path path other ≡ b → cond b None (path_number other numbers) ≡ Some m → (path_number other numbers ≡ Some m) × (m ≡ number → ⊥)) [
        | true ↦ λ t g. absurd (let k = g in cc)
        | false ↦ λ t g. (g, λ same. true≢false (sym (is_itself path other (h.apart path other number (sym e) (g ∙ ap Some same))) ∙ t))
      ]) refl (sym (changes other) ∙ f)

  pub taken_slots : shelved new fewer ≡ remove_entry (is_path path) (shelved held numbers)
  taken_slots =
      same_shelved held new fewer ordered (λ other m f. updates.others m (left other m f).1)
      ∙ ap (shelved held) is
      ∙ sym (taken_there held numbers path)

  pub taken_numbered : ArePathsNumbered new fewer
  taken_numbered =
      let P : Option (Option RowFacts) → Type 0 = IsSome in
      record {
        ascend = ordered;
        there = λ other m f. let l = left other m f in subst P (sym (updates.others m l.1)) (h.there other m l.0);
        apart = λ one other m f g. h.apart one other m (left one m f).0 (left other m g).0;
        listed = λ m some. elim (cases_eq m number) [
          | inl same ↦ absurd (false≢true (subst P (ap (get new) same ∙ updates.changed) some))
          | inr differs ↦
              let l = h.listed m (subst P (updates.others m differs) some) in
              (l.0, stays l.0 m l.1 differs)
        ];
      }
    where
      stays : (other : List ℕ) (m : ℕ) → path_number other numbers ≡ Some m → (m ≡ number → ⊥) → path_number other fewer ≡ Some m
      stays other m f differs =
          changes other
          ∙ (elim (is_path path other) as (λ b. is_path path other ≡ b → cond b None (path_number other numbers) ≡ Some m) [
            | true ↦ λ t. let both : Some m ≡ Some number = sym f ∙ ap (λ p. path_number p numbers) (sym (path_is path other t)) ∙ sym e in absurd (differs cc)
            | false ↦ λ t. f
          ]) refl

-- a path gets a number
module _ (held new : Held) (numbers more : Numbers) (path key : List ℕ) (number : ℕ) (h : ArePathsNumbered held numbers) (same : key ≡ path) (absent : path_number path numbers ≡ None) (vacant : get held number ≡ None) (updates : Updates held new number (Some None)) (is : more ≡ insert_entry (slice_cmp nat_cmp) numbers key number) (changes : (other : List ℕ) → path_number other more ≡ cond (is_path key other) (Some number) (path_number other numbers)) (ordered : Ordered more) where
  -- a number that was there is another's
  was : (other : List ℕ) (m : ℕ) → path_number other numbers ≡ Some m → m ≡ number → ⊥
  was other m f its =
      let P : Option (Option RowFacts) → Type 0 = IsSome in
      false≢true (subst P (ap (get held) its ∙ vacant) (h.there other m f))

  -- a number that is there is the new one, or was there
  either : {Y : Type 0} (other : List ℕ) (m : ℕ) → path_number other more ≡ Some m → (key ≡ other → m ≡ number → Y) → (path_number other numbers ≡ Some m → Y) → Y
  either {Y} other m f made kept =
      (elim (is_path key other) as (λ b. is_path key other ≡ b → cond b (Some number) (path_number other numbers) ≡ Some m → Y) [
        | true ↦ λ t g. let its : number ≡ m = cc in made (path_is key other t) (sym its)
        | false ↦ λ t g. kept g
      ]) refl (sym (changes other) ∙ f)

  pub made_slots : shelved new more ≡ insert_entry (slice_cmp nat_cmp) (shelved held numbers) path None
  made_slots =
      ap (shelved new) is
      ∙ sym (made_there new numbers key number)
      ∙ ap (λ o. insert_entry (slice_cmp nat_cmp) (shelved new numbers) key (option_flatten o)) updates.changed
      ∙ ap (λ (l : List Slot). insert_entry (slice_cmp nat_cmp) l key None) (same_shelved held new numbers h.ascend (λ other m f. updates.others m (was other m f)))
      ∙ ap (λ (p : List ℕ). insert_entry (slice_cmp nat_cmp) (shelved held numbers) p None) same

  here : {m : ℕ} → m ≡ number → path_number key more ≡ Some m
  here its = changes key ∙ ap (λ b. cond b (Some number) (path_number key numbers)) (is_itself key key refl) ∙ ap Some (sym its)

  stays : (other : List ℕ) (m : ℕ) → path_number other numbers ≡ Some m → path_number other more ≡ Some m
  stays other m f =
      changes other
      ∙ (elim (is_path key other) as (λ b. is_path key other ≡ b → cond b (Some number) (path_number other numbers) ≡ Some m) [
        | true ↦ λ t.
            let both : Some m ≡ None = sym f ∙ ap (λ p. path_number p numbers) (sym (path_is key other t) ∙ same) ∙ absent in
            absurd (let k = both in cc)
        | false ↦ λ t. f
      ]) refl

  pub made_numbered : ArePathsNumbered new more
  made_numbered =
      let P : Option (Option RowFacts) → Type 0 = IsSome in
      record {
        ascend = ordered;
        there = λ other m f. either other m f (λ _ its. subst P (sym (ap (get new) its ∙ updates.changed)) refl) (λ g. subst P (sym (updates.others m (was other m g))) (h.there other m g));
        apart = λ one other m f g.
            either one m f
            (λ mine its. either other m g (λ also _. sym mine ∙ also) (λ k. absurd (was other m k its)))
            (λ k. either other m g (λ _ its. absurd (was one m k its)) (λ l. h.apart one other m k l));
        listed = λ m some. elim (cases_eq m number) [
          | inl its ↦ (key, here its)
          | inr differs ↦
              let l = h.listed m (subst P (updates.others m differs) some) in
              (l.0, stays l.0 m l.1)
        ];
      }

  pub made_has : IsSome (path_slot path (shelved new more))
  made_has = slot_some new more path number (sym (ap (λ p. path_number p more) (sym same) ∙ here refl))

  pub made_keeps : (other : List ℕ) → IsSome (path_slot other (shelved held numbers)) → IsSome (path_slot other (shelved new more))
  made_keeps other some = of (path_number other numbers) refl
    where
      of : (o : Option ℕ) → path_number other numbers ≡ o → IsSome (path_slot other (shelved new more))
      of None f = absurd (has_number held numbers other some (sym f))
      of (Some m) f = slot_some new more other m (sym (stays other m f))

-- room for more changes nothing
reserved : (held : Held) (room : ℕ) (numbers : Numbers) → ArePathsNumbered held numbers → ArePathsNumbered (record held { capacity = room }) numbers
reserved held room numbers h = record { ascend = h.ascend; there = h.there; apart = h.apart; listed = h.listed }

-- a path that has no number has no slot to be taken
pub none_taken : (held : Held) (numbers fewer : Numbers) (path : List ℕ) → fewer ≡ remove_entry (is_path path) numbers → shelved held fewer ≡ remove_entry (is_path path) (shelved held numbers)
none_taken held numbers fewer path is = ap (shelved held) is ∙ sym (taken_there held numbers path)

-- once a path has the number that a slab with room gave
pub make_done : (held roomy new : Held) (numbers more : Numbers) (path key : List ℕ) (number given : ℕ) → ArePathsNumbered held numbers → roomy ≡ record held { capacity = roomy.capacity } → path_slot path (shelved held numbers) ≡ None → key ≡ path
    → get roomy number ≡ None → given ≡ number → Updates roomy new given (Some None) → more ≡ insert_entry (slice_cmp nat_cmp) numbers key number → ((other : List ℕ) → path_number other more ≡ cond (is_path key other) (Some number) (path_number other numbers)) → Ordered more
    → ArePathsNumbered new more × (shelved new more ≡ insert_entry (slice_cmp nat_cmp) (shelved held numbers) path None) × IsSome (path_slot path (shelved new more)) × ((other : List ℕ) → IsSome (path_slot other (shelved held numbers)) → IsSome (path_slot other (shelved new more)))
make_done held roomy new numbers more path key number given h room none same vacant its updates is changes ordered =
    let now : ArePathsNumbered roomy numbers = subst (λ (s : Held). ArePathsNumbered s numbers) (sym room) (reserved held roomy.capacity numbers h) in
    let absent : path_number path numbers ≡ None = no_number held numbers path none in
    let there : Updates roomy new number (Some None) = subst (λ (n : ℕ). Updates roomy new n (Some None)) its updates in
    let view : shelved roomy numbers ≡ shelved held numbers = ap (λ (s : Held). shelved s numbers) room in (
      made_numbered roomy new numbers more path key number now same absent vacant there is changes ordered,
      made_slots roomy new numbers more path key number now same absent vacant there is changes ordered ∙ ap (λ (l : List Slot). insert_entry (slice_cmp nat_cmp) l path None) view,
      made_has roomy new numbers more path key number now same absent vacant there is changes ordered,
      λ other some. made_keeps roomy new numbers more path key number now same absent vacant there is changes ordered other
          (let P : List Slot → Type 0 = λ l. IsSome (path_slot other l) in subst P (sym view) some),
    )
