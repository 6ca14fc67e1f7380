-- What a reading of the notes knows, section by section.
use Rattle.file_picture.specs.Agrees.{filled_with_zeros}
use Rattle.std.proofs.Common.{◌≡◌, ◌≢◌, sym, ◌∙◌, ap, subst, ℕ, ◌+◌, ◌<◌, ◌≤◌, ◌⊎◌, inl, inr, List, arith, true, false, Option, Some, None}
use Rattle.std.specs.Prelude.{MatchOption}
use Rattle.file_formats.specs.declared.encoding.Order.{Order}
use Rattle.std.proofs.lemmas.Bool.{cases_lt}
use Rattle.file_formats.specs.Numbers.{bytes_at}
use Rattle.file_formats.specs.Notes.{notes_in, IsFirstBuildId, HasBuildId}
use Rattle.file_formats.specs.Sections.{has_flag}
use Rattle.file_formats.specs.Table.{section_at, contents_at, IsSectionIndex}
use Rattle.file_formats.specs.Identity.{HoldsNotes, HasIdAt}
use Rattle.file_formats.specs.declared.codes.TheConstants.{SHT_NOTE, SHF_COMPRESSED}
use Rattle.file_formats.specs.Windows.{Range, range, extent, Window, beginning, zero_header, table, names, notes, IsWindow, IsNotes, rank}
use Rattle.file_picture.specs.Picture.{IsCovered}
use Rattle.file_picture.specs.declared.view.Need.{Need}
use Rattle.elf_file.specs.Steps.{AllHere, Needs}
use Rattle.elf_file.specs.Opened.{Opened}
use Rattle.elf_classify.specs.Ids.{LooksAt, FindsAt, Finds}
use Rattle.elf_file.proofs.StartLemmas.{all_more, same_ok}

-- the window of a section's notes is there too
notes_more : (f : Opened) (i : ℕ) → AllHere f.file (4 + i)
    → ((r : Range) → IsNotes (filled_with_zeros f.file) i r → IsCovered f.file r.at r.len) → AllHere f.file (5 + i)
notes_more f i all one = subst (AllHere f.file) (omega arith) (all_more f.file (4 + i) all of)
  where
    of : (w : Window) (r : Range) → rank w ≡ 4 + i → IsWindow (filled_with_zeros f.file) w r → IsCovered f.file r.at r.len
    of beginning r e is = absurd (omega (arith, e))
    of zero_header r e is = absurd (omega (arith, e))
    of table r e is = absurd (omega (arith, e))
    of names r e is = absurd (omega (arith, e))
    of (notes j) r e is =
        let same : j ≡ i = omega (arith, e) in one r (subst (λ k. IsNotes (filled_with_zeros f.file) k r) same is)

-- a section of notes is one of the table that was read
held : {f : Opened} {i : ℕ} {r : Range} → LooksAt f i → (w : IsNotes (filled_with_zeros f.file) i r)
    → HoldsNotes (filled_with_zeros f.file) f.table i w.bytes × (r ≡ extent (section_at (filled_with_zeros f.file) f.table i))
held {f} {i} looks w =
    let same : w.of ≡ f.table = same_ok (sym w.is_table ∙ looks.is_table) in (
      subst (λ t. HoldsNotes (filled_with_zeros f.file) t i w.bytes) same w.here,
      w.is ∙ ap (λ t. extent (section_at (filled_with_zeros f.file) t i)) same,
    )

-- the section holds no notes
pub finds_none : (f : Opened) (i : ℕ) → LooksAt f i → ((bytes : List ℕ) → HoldsNotes (filled_with_zeros f.file) f.table i bytes → ⊥)
    → FindsAt f i None
finds_none f i looks none = record {
  id = λ other h. none h.bytes h.section;
  all = notes_more f i looks.all (λ r w. absurd (none w.bytes (held looks w).0));
}

-- it isn't of notes
pub finds_other : (f : Opened) (i : ℕ) → LooksAt f i
    → ((section_at (filled_with_zeros f.file) f.table i).sh_type ≢ SHT_NOTE) ⊎ (has_flag (section_at (filled_with_zeros f.file) f.table i) SHF_COMPRESSED ≡ true)
    → FindsAt f i None
finds_other f i looks (inl kind) = finds_none f i looks (λ bytes h. kind h.kind)
finds_other f i looks (inr packed) =
    finds_none f i looks (λ bytes h. let both : true ≡ false = sym packed ∙ h.plain in cc)

-- it has no contents
pub finds_empty : (f : Opened) (i : ℕ) → LooksAt f i → contents_at (filled_with_zeros f.file) f.table i ≡ None → FindsAt f i None
finds_empty f i looks none = finds_none f i looks (λ bytes h. let both = sym none ∙ h.holds in cc)

-- its contents aren't there
pub needs_notes : (f : Opened) (i : ℕ) (need : Need) → LooksAt f i → IsSectionIndex f.table i
    → (section_at (filled_with_zeros f.file) f.table i).sh_type ≡ SHT_NOTE → has_flag (section_at (filled_with_zeros f.file) f.table i) SHF_COMPRESSED ≡ false
    → contents_at (filled_with_zeros f.file) f.table i ≡ Some (bytes_at (filled_with_zeros f.file) need.at need.len)
    → range need.at need.len ≡ extent (section_at (filled_with_zeros f.file) f.table i)
    → (IsCovered f.file need.at need.len → ⊥) → Needs f.file need
needs_notes f i need looks index kind plain holds placed gone = record {
  window = notes i;
  is = record {
    of = f.table;
    is_table = looks.is_table;
    other = looks.other;
    bytes = bytes_at (filled_with_zeros f.file) need.at need.len;
    here = record { index = index; kind = kind; plain = plain; holds = holds };
    none_before = looks.none;
    is = placed;
  };
  before = looks.all;
  gone = gone;
}

-- they are, and are looked through
pub finds_in : (f : Opened) (i at len : ℕ) (contents : List ℕ) (found : Option (List ℕ)) → LooksAt f i → IsSectionIndex f.table i
    → (section_at (filled_with_zeros f.file) f.table i).sh_type ≡ SHT_NOTE → has_flag (section_at (filled_with_zeros f.file) f.table i) SHF_COMPRESSED ≡ false
    → contents_at (filled_with_zeros f.file) f.table i ≡ Some (bytes_at (filled_with_zeros f.file) at len)
    → range at len ≡ extent (section_at (filled_with_zeros f.file) f.table i)
    → IsCovered f.file at len → contents ≡ bytes_at (filled_with_zeros f.file) at len
    → MatchOption found
    ((p : ℕ) → HasBuildId (notes_in contents f.table.encoding.order (section_at (filled_with_zeros f.file) f.table i).sh_addralign) p → ⊥)
    (IsFirstBuildId (notes_in contents f.table.encoding.order (section_at (filled_with_zeros f.file) f.table i).sh_addralign))
    → FindsAt f i found
finds_in f i at len contents found looks index kind plain holds placed there are seen = record {
  id = of found seen;
  all =
      notes_more f i looks.all
      (λ r w. subst (λ (s : Range). IsCovered f.file s.at s.len) (placed ∙ sym (held looks w).1) there);
}
  where
    same : (bytes : List ℕ) → contents_at (filled_with_zeros f.file) f.table i ≡ Some bytes → contents ≡ bytes
    same bytes h = let both = sym holds ∙ h in are ∙ some_same both
      where
        some_same : {x y : List ℕ} → ◌≡◌ {A = Option (List ℕ)} (Some x) (Some y) → x ≡ y
        some_same e = cc

    of : (found : Option (List ℕ))
        → MatchOption found
        ((p : ℕ) → HasBuildId (notes_in contents f.table.encoding.order (section_at (filled_with_zeros f.file) f.table i).sh_addralign) p → ⊥)
        (IsFirstBuildId (notes_in contents f.table.encoding.order (section_at (filled_with_zeros f.file) f.table i).sh_addralign))
        → MatchOption found ((other : List ℕ) → HasIdAt (filled_with_zeros f.file) f.table i other → ⊥) (HasIdAt (filled_with_zeros f.file) f.table i)
    of None none = λ other h.
        none h.first.at
        (subst (λ xs. HasBuildId (notes_in xs f.table.encoding.order (section_at (filled_with_zeros f.file) f.table i).sh_addralign) h.first.at)
        (sym (same h.bytes h.section.holds)) h.first.here)
    of (Some id) first = record {
      bytes = contents;
      section = record {
        index = index;
        kind = kind;
        plain = plain;
        holds = holds ∙ ap (λ x. Some x) (sym are);
      };
      first = first;
    }

-- ---- from section to section

pub looks_next : (f : Opened) (i : ℕ) → LooksAt f i → FindsAt f i None → LooksAt f (i + 1)
looks_next f i looks found = record {
  above = let above = looks.above in omega (arith, above);
  is_table = looks.is_table;
  other = looks.other;
  none = none;
  all = subst (AllHere f.file) (omega arith) found.all;
}
  where
    none : (j : ℕ) (id : List ℕ) → j < i + 1 → HasIdAt (filled_with_zeros f.file) f.table j id → ⊥
    none j id before h = of (cases_lt j i)
      where
        of : (j < i) ⊎ (i ≤ j) → ⊥
        of (inl under) = looks.none j id under h
        of (inr over) =
            let same : j ≡ i = omega (arith, before, over) in
            found.id id (subst (λ k. HasIdAt (filled_with_zeros f.file) f.table k id) same h)

-- the first build-id is found
pub finds_first : (f : Opened) (i : ℕ) (id : List ℕ) → LooksAt f i → FindsAt f i (Some id) → Finds f (Some id)
finds_first f i id looks found = record {
  id = record {
    index = i;
    here = found.id;
    least = λ j other h.
        let under : j < i → ⊥ = λ (before : j < i). looks.none j other before h in omega (arith, under);
  };
  all = λ n. record { here = of };
}
  where
    of : {n : ℕ} (w : Window) (r : Range) → rank w < n → IsWindow (filled_with_zeros f.file) w r → IsCovered f.file r.at r.len
    of beginning r below is = found.all.here beginning r (omega arith) is
    of zero_header r below is = found.all.here zero_header r (omega arith) is
    of table r below is = found.all.here table r (omega arith) is
    of names r below is = found.all.here names r (omega arith) is
    of (notes j) r below is = by (cases_lt i j)
      where
        by : (i < j) ⊎ (j ≤ i) → IsCovered f.file r.at r.len
        by (inl past) =
            let same : is.of ≡ f.table = same_ok (sym is.is_table ∙ looks.is_table) in
            absurd (is.none_before i id past (subst (λ t. HasIdAt (filled_with_zeros f.file) t i id) (sym same) found.id))
        by (inr within) = found.all.here (notes j) r (omega (arith, within)) is

-- none is
pub finds_nothing : (f : Opened) (i : ℕ) → LooksAt f i → f.table.count ≤ i → Finds f None
finds_nothing f i looks end = record {
  id = λ j other h.
      let under = h.section.index.below in looks.none j other (omega (arith, under, end)) h;
  all = λ n. record { here = of };
}
  where
    of : {n : ℕ} (w : Window) (r : Range) → rank w < n → IsWindow (filled_with_zeros f.file) w r → IsCovered f.file r.at r.len
    of beginning r below is = looks.all.here beginning r (omega arith) is
    of zero_header r below is = looks.all.here zero_header r (omega arith) is
    of table r below is = looks.all.here table r (omega arith) is
    of names r below is = looks.all.here names r (omega arith) is
    of (notes j) r below is =
        let same : is.of ≡ f.table = same_ok (sym is.is_table ∙ looks.is_table) in
        let under : j < f.table.count = subst (λ t. j < t.count) same is.here.index.below in
        looks.all.here (notes j) r (omega (arith, under, end)) is

-- what is found in the contents, as the section's
pub found_in : (contents : List ℕ) (order other : Order) (align addralign : ℕ) (r : Option (List ℕ))
    → order ≡ other → align ≡ addralign
    → MatchOption r ((p : ℕ) → HasBuildId (notes_in contents order align) p → ⊥) (IsFirstBuildId (notes_in contents order align))
    → MatchOption r ((p : ℕ) → HasBuildId (notes_in contents other addralign) p → ⊥)
    (IsFirstBuildId (notes_in contents other addralign))
found_in contents order other align addralign r e a found =
    subst (λ n. MatchOption r ((p : ℕ) → HasBuildId n p → ⊥) (IsFirstBuildId n))
    (ap (λ o. notes_in contents o align) e ∙ ap (notes_in contents other) a) found
