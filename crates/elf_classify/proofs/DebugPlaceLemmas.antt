-- The places of the debug sections: where they stand, and that it is so of each file that agrees with a picture.
use Rattle.std.proofs.Common.{◌≡◌, sym, ◌∙◌, ap, subst, refl, inl, inr, ◌⊎◌, ℕ, ◌+◌, ◌≤◌, List, [], ◌∷◌, length, get_or, ◌<◌, All, arith, true, false, Ok}
use Rattle.std.specs.Prelude.{◌==◌, codes}
use Rattle.std.proofs.lemmas.Bool.{both_ways}
use Rattle.std.proofs.lemmas.List.Elements.{All-from_recursion, All-head, All-tail}
use Rattle.std.proofs.lemmas.List.Folds.{list_any_at}
use Rattle.file_formats.specs.Cover.{IsIn, IsPlaceOf}
use Rattle.file_formats.specs.declared.codes.TheConstants.{ET_REL}
use Rattle.file_formats.specs.declared.header.SectionTable.{SectionTable}
use Rattle.file_formats.specs.Numbers.{bytes_at}
use Rattle.file_formats.specs.Parts.{IsDebugRange, IsSectionRange, is_debug_name}
use Rattle.file_formats.specs.Table.{HasSection}
use Rattle.file_formats.specs.Windows.{range}
use Rattle.file_formats.proofs.PartLaws.{debug_range_moves, section-inside}
use Rattle.file_formats.proofs.WindowLemmas.{agree-symmetric}
use Rattle.file_picture.specs.Agrees.{AgreesWithPicture, filled_with_zeros}
use Rattle.file_picture.specs.Counts.{is_among, is_inside}
use Rattle.file_picture.specs.Picture.{PictureFacts, IsPicture}
use Rattle.file_picture.specs.declared.view.Need.{Need}
use Rattle.file_picture.proofs.AgreeLaws.{filled-agrees}
use Rattle.file_picture.proofs.CountLemmas.{is_in}
use Rattle.file_picture.proofs.ReadSoFarLaws.{either-of, inside_in}
use Rattle.elf_file.specs.Opened.{Opened, OpensAs, Knows}
use Rattle.elf_file.specs.Steps.{StopsBefore}
use Rattle.elf_file.specs.declared.stop.Stop.{Stop}
use Rattle.elf_file.specs.declared.stop.Stop.TheVariants as stop
use Rattle.elf_file.proofs.StartLemmas.{same_ok}
use Rattle.elf_file.proofs.ViewLaws.{agree_there}
use Rattle.row_types.proofs.TrueRowLemmas.{refused_is_one}
use Rattle.elf_classify.specs.DebugViews.{AreDebugPlaces, AreNamePlaces, IsNamePlace, IsNamedRange, KnowsIdentity}
use Rattle.elf_classify.specs.Placed.{IsSectionPlaced}
use Rattle.elf_classify.proofs.DebugLemmas.{all_known, each_name}
use Rattle.elf_classify.proofs.PlacedLemmas.{one_range}

-- no place lies in a range of no bytes
pub nowhere_in : (at : Need) (q : ℕ) → at.len ≡ 0 → is_inside at.at at.len q ≡ true → ⊥
nowhere_in at q none e =
    let within = inside_in at.at at.len q e in
    let above = within.above in
    let below = within.below in
    omega (arith, above, below, none)

-- a section of the name is handed out
pub name_there : (f : Opened) (name : List ℕ) (at : Need) → Knows f → IsSectionPlaced (filled_with_zeros f.file) f.table name at
    → IsNamePlace f name at
name_there f name at knows p = record {
  inside = section-inside (filled_with_zeros f.file) name (range at.at at.len) here;
  each = λ q. (
    λ e. record { range = range at.at at.len; of = here; inside = inside_in at.at at.len q e },
    λ h.
        let within : IsIn q (range at.at at.len) = subst (IsIn q) (sym (one_range at knows.is_table p h.of)) h.inside in
        is_in at.at at.len q within.above within.below,
  );
}
  where
    here : IsSectionRange (filled_with_zeros f.file) name (range at.at at.len)
    here = record {
      of = f.table;
      is_table = knows.is_table;
      bytes = bytes_at (filled_with_zeros f.file) at.at at.len;
      found = p.found;
      is = p.is;
    }

-- none is
pub name_gone : (f : Opened) (name : List ℕ) (at : Need) → at ≡ record { at = 0; len = 0 } → Knows f
    → ((i : ℕ) (bytes : List ℕ) → HasSection (filled_with_zeros f.file) f.table name i bytes → ⊥) → IsNamePlace f name at
name_gone f name at none knows gone = record {
  inside = let start = ap (λ (n : Need). n.at) none in let empty = ap (λ (n : Need). n.len) none in omega (arith, start, empty);
  each = λ q. (
    λ e. absurd (nowhere_in at q (ap (λ (n : Need). n.len) none) e),
    λ h.
        let w = h.of in
        let same : w.of ≡ f.table = same_ok (sym w.is_table ∙ knows.is_table) in
        absurd
        (gone w.found.index w.bytes
        (subst (λ u. HasSection (filled_with_zeros f.file) u name w.found.index w.bytes) same w.found.here)),
  );
}

-- a place of a section of the name is one of a section of one of the names
named_place : (b : List ℕ) (name : List ℕ) (q : ℕ) → is_debug_name name ≡ true → IsPlaceOf (IsSectionRange b name) q → IsPlaceOf (IsNamedRange b) q
named_place b name q among h = record { range = h.range; of = record { name = name; among = among; is = h.of }; inside = h.inside }

module _ (f : Opened) (i a l s t o : Need) (q : ℕ) (info : IsNamePlace f (codes ".debug_info") i) (abbrevs : IsNamePlace f (codes ".debug_abbrev") a)
    (line : IsNamePlace f (codes ".debug_line") l) (str : IsNamePlace f (codes ".debug_str") s)
    (line_str : IsNamePlace f (codes ".debug_line_str") t) (offsets : IsNamePlace f (codes ".debug_str_offsets") o) where
  -- a place of one of the six
  six_has : is_among (i ∷ a ∷ l ∷ s ∷ t ∷ o ∷ []) q ≡ true → IsPlaceOf (IsNamedRange (filled_with_zeros f.file)) q
  six_has e = one (either-of (is_inside i.at i.len q) (is_among (a ∷ l ∷ s ∷ t ∷ o ∷ []) q) e)
    where
      six : (is_inside o.at o.len q ≡ true) ⊎ (is_among [] q ≡ true) → IsPlaceOf (IsNamedRange (filled_with_zeros f.file)) q
      six (inl h) = named_place _ (codes ".debug_str_offsets") q refl ((offsets.each q).0 h)
      six (inr h) = absurd (cc)

      five : (is_inside t.at t.len q ≡ true) ⊎ (is_among (o ∷ []) q ≡ true) → IsPlaceOf (IsNamedRange (filled_with_zeros f.file)) q
      five (inl h) = named_place _ (codes ".debug_line_str") q refl ((line_str.each q).0 h)
      five (inr h) = six (either-of (is_inside o.at o.len q) (is_among [] q) h)

      four : (is_inside s.at s.len q ≡ true) ⊎ (is_among (t ∷ o ∷ []) q ≡ true) → IsPlaceOf (IsNamedRange (filled_with_zeros f.file)) q
      four (inl h) = named_place _ (codes ".debug_str") q refl ((str.each q).0 h)
      four (inr h) = five (either-of (is_inside t.at t.len q) (is_among (o ∷ []) q) h)

      three : (is_inside l.at l.len q ≡ true) ⊎ (is_among (s ∷ t ∷ o ∷ []) q ≡ true) → IsPlaceOf (IsNamedRange (filled_with_zeros f.file)) q
      three (inl h) = named_place _ (codes ".debug_line") q refl ((line.each q).0 h)
      three (inr h) = four (either-of (is_inside s.at s.len q) (is_among (t ∷ o ∷ []) q) h)

      two : (is_inside a.at a.len q ≡ true) ⊎ (is_among (l ∷ s ∷ t ∷ o ∷ []) q ≡ true) → IsPlaceOf (IsNamedRange (filled_with_zeros f.file)) q
      two (inl h) = named_place _ (codes ".debug_abbrev") q refl ((abbrevs.each q).0 h)
      two (inr h) = three (either-of (is_inside l.at l.len q) (is_among (s ∷ t ∷ o ∷ []) q) h)

      one : (is_inside i.at i.len q ≡ true) ⊎ (is_among (a ∷ l ∷ s ∷ t ∷ o ∷ []) q ≡ true) → IsPlaceOf (IsNamedRange (filled_with_zeros f.file)) q
      one (inl h) = named_place _ (codes ".debug_info") q refl ((info.each q).0 h)
      one (inr h) = two (either-of (is_inside a.at a.len q) (is_among (l ∷ s ∷ t ∷ o ∷ []) q) h)

  -- each place of a section of one of the names
  six_all : (name : List ℕ) → is_debug_name name ≡ true → IsPlaceOf (IsSectionRange (filled_with_zeros f.file) name) q
      → is_among (i ∷ a ∷ l ∷ s ∷ t ∷ o ∷ []) q ≡ true
  six_all =
      each_name (λ name. IsPlaceOf (IsSectionRange (filled_with_zeros f.file) name) q → is_among (i ∷ a ∷ l ∷ s ∷ t ∷ o ∷ []) q ≡ true)
      (λ h. there 0 (omega arith) ((info.each q).1 h))
      (λ h. there 1 (omega arith) ((abbrevs.each q).1 h))
      (λ h. there 2 (omega arith) ((line.each q).1 h))
      (λ h. there 3 (omega arith) ((str.each q).1 h))
      (λ h. there 4 (omega arith) ((line_str.each q).1 h))
      (λ h. there 5 (omega arith) ((offsets.each q).1 h))
    where
      there : (k : ℕ) → k < 6 → is_inside (get_or (i ∷ a ∷ l ∷ s ∷ t ∷ o ∷ []) k i).at (get_or (i ∷ a ∷ l ∷ s ∷ t ∷ o ∷ []) k i).len q ≡ true
          → is_among (i ∷ a ∷ l ∷ s ∷ t ∷ o ∷ []) q ≡ true
      there k within h = list_any_at (λ (n : Need). is_inside n.at n.len q) (i ∷ a ∷ l ∷ s ∷ t ∷ o ∷ []) k i within h

-- all six
pub six_places : (f : Opened) (i a l s t o : Need) → IsNamePlace f (codes ".debug_info") i → IsNamePlace f (codes ".debug_abbrev") a
    → IsNamePlace f (codes ".debug_line") l → IsNamePlace f (codes ".debug_str") s → IsNamePlace f (codes ".debug_line_str") t
    → IsNamePlace f (codes ".debug_str_offsets") o → AreNamePlaces f (i ∷ a ∷ l ∷ s ∷ t ∷ o ∷ [])
six_places f i a l s t o info abbrevs line str line_str offsets = record {
  inside =
      All-from_recursion P (i ∷ a ∷ l ∷ s ∷ t ∷ o ∷ [])
      (info.inside, (abbrevs.inside, (line.inside, (str.inside, (line_str.inside, (offsets.inside, tt))))));
  each = λ q. (
    six_has f i a l s t o q info abbrevs line str line_str offsets,
    λ h. six_all f i a l s t o q info abbrevs line str line_str offsets h.of.name h.of.among
        (record { range = h.range; of = h.of.is; inside = h.inside }),
  );
}
  where
    P : Need → Type 0
    P at = at.at + at.len ≤ length (filled_with_zeros f.file)

module _ (p : PictureFacts) (is : IsPicture p) (k : KnowsIdentity p) where
  -- a place of a debug section of the filled picture is one of each file that agrees, and the other way
  moved : (b : List ℕ) → AgreesWithPicture b p → (q : ℕ) → IsPlaceOf (IsDebugRange (filled_with_zeros p)) q → IsPlaceOf (IsDebugRange b) q
  moved b f q h = record { range = h.range; of = debug_range_moves (agree_there is f (all_known p is k)) h.of; inside = h.inside }

  back : (b : List ℕ) → AgreesWithPicture b p → (q : ℕ) → IsPlaceOf (IsDebugRange b) q → IsPlaceOf (IsDebugRange (filled_with_zeros p)) q
  back b f q h = record {
    range = h.range;
    of = debug_range_moves (agree-symmetric (agree_there is f (all_known p is k))) h.of;
    inside = h.inside;
  }

  -- a file with an identity has a table, whose windows are there
  pub opens : (stop : Stop) → StopsBefore p stop → ⊥
  opens (stop.Need need) n =
      n.gone (k.known.there (filled_with_zeros p) (filled-agrees p is) (range need.at need.len) (record { window = n.window; is = n.is }))
  opens (stop.Fault fault) f =
      let why = refused_is_one (filled_with_zeros p) fault f.is (Ok k.identity) (k.known.is (filled_with_zeros p) (filled-agrees p is)) in absurd (cc)

  -- those of a file that isn't relocatable
  pub places_linked : (file : Opened) (places : List Need) → OpensAs p file → (file.table.e_type == ET_REL) ≡ false → AreNamePlaces file places
      → AreDebugPlaces p places
  places_linked file places o linked n = record {
    inside = λ i d within.
        let sized = (filled-agrees p is).sized in
        let long = ap (λ v. length (filled_with_zeros v)) o.same in
        let here = n.inside i d within in
        omega (arith, sized, long, here);
    each = λ b f q. (
      λ e. moved b f q (there ((n.each q).0 e)),
      λ h. let d = back b f q h in (n.each q).1 (here d),
    );
  }
    where
      there : {q : ℕ} → IsPlaceOf (IsNamedRange (filled_with_zeros file.file)) q → IsPlaceOf (IsDebugRange (filled_with_zeros p)) q
      there {q} named =
          let h : IsPlaceOf (IsNamedRange (filled_with_zeros p)) q = subst (λ v. IsPlaceOf (IsNamedRange (filled_with_zeros v)) q) o.same named in
          record {
            range = h.range;
            of = record {
              has = record {
                identity = k.identity;
                is_identity = k.known.is (filled_with_zeros p) (filled-agrees p is);
                of = file.table;
                is_table = o.is_table;
                linked = linked;
              };
              name = h.of.name;
              among = h.of.among;
              is = h.of.is;
            };
            inside = h.inside;
          }

      here : {q : ℕ} → IsPlaceOf (IsDebugRange (filled_with_zeros p)) q → IsPlaceOf (IsNamedRange (filled_with_zeros file.file)) q
      here {q} h = subst (λ v. IsPlaceOf (IsNamedRange (filled_with_zeros v)) q) (sym o.same)
          (record { range = h.range; of = record { name = h.of.name; among = h.of.among; is = h.of.is }; inside = h.inside })

  -- one that is has none
  pub places_none : (file : Opened) (places : List Need) → OpensAs p file → (file.table.e_type == ET_REL) ≡ true
      → All (λ at. at ≡ record { at = 0; len = 0 }) places → AreDebugPlaces p places
  places_none file places o linking none = record {
    inside = λ i d within.
        let here = none i d within in
        let start = ap (λ (n : Need). n.at) here in
        let empty = ap (λ (n : Need). n.len) here in
        omega (arith, start, empty);
    each = λ b f q. (
      λ e. absurd (nothing places q none e),
      λ h.
          let d = back b f q h in
          let one : d.of.has.of ≡ file.table = same_ok (sym d.of.has.is_table ∙ o.is_table) in
          absurd (both_ways (file.table.e_type == ET_REL) (subst (λ (t : SectionTable). (t.e_type == ET_REL) ≡ false) one d.of.has.linked) linking),
    );
  }
    where
      nothing : (places : List Need) (q : ℕ) → All (λ at. at ≡ record { at = 0; len = 0 }) places → is_among places q ≡ true → ⊥
      nothing [] q none e = absurd (cc)
      nothing (n ∷ ns) q none e = by (either-of (is_inside n.at n.len q) (is_among ns q) e) (nothing ns q (All-tail (λ at. at ≡ record { at = 0; len = 0 }) n ns none))
        where
          by : (is_inside n.at n.len q ≡ true) ⊎ (is_among ns q ≡ true) → (is_among ns q ≡ true → ⊥) → ⊥
          by (inl h) rest = nowhere_in n q (ap (λ (m : Need). m.len) (All-head (λ at. at ≡ record { at = 0; len = 0 }) n ns none)) h
          by (inr h) rest = rest h
