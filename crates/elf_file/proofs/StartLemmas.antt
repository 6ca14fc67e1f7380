-- What the first steps of a reading know.
use Rattle.std.proofs.Common.{◌≡◌, sym, ◌∙◌, ap, subst, refl, ℕ, ◌+◌, ◌<◌, ◌≤◌, min, ◌&&◌, ◌||◌, not, List, length, arith, Bool, true, false, Option, Some, None}
use Rattle.std.specs.Prelude.{◌==◌, if◌then◌else◌, Result, Ok}
use Rattle.std.proofs.Common.{◌⊎◌, inl, inr}
use Rattle.std.proofs.lemmas.Bool.{and_from, both_ways, cases_lt, or_right}
use Rattle.file_formats.specs.Sections.{section_header}
use Rattle.file_formats.specs.Numbers.{bytes_at}
use Rattle.file_formats.specs.Header.{header_of}
use Rattle.file_formats.specs.Sections.{shdr_size}
use Rattle.file_formats.specs.Table.{has_section_zero, section_zero, section_count, names_index}
use Rattle.file_formats.specs.declared.codes.TheConstants.{SHN_XINDEX}
use Rattle.file_formats.specs.declared.fields.TheConstants.{EHDR64_SIZE}
use Rattle.file_formats.specs.declared.header.Head.{Head}
use Rattle.file_formats.specs.declared.header.SectionHeader.{SectionHeader}
use Rattle.file_formats.specs.Windows.{Range, range, Window, beginning, zero_header, table, names, notes, IsWindow, rank, asks_zero, reaches_zero, reaches_table}
use Rattle.file_formats.proofs.HeadLemmas.{head_of_front}
use Rattle.file_formats.proofs.TableLemmas.{before, zero_there}
use Rattle.file_picture.specs.Agrees.{filled_with_zeros}
use Rattle.file_picture.specs.Picture.{PictureFacts, IsCovered}
use Rattle.file_picture.specs.declared.view.Need.{Need}
use Rattle.elf_file.specs.Steps.{AllHere, Needs, HasBeginning, HasElfHeader, HasZero, zero_of, from_zero}
use Rattle.file_formats.proofs.SectionLemmas.{cut_section}

-- the first window
abbrev pub first : List ℕ → Range
first b = range 0 (min EHDR64_SIZE (length b))

-- before the first window none has to be there
pub all_none : (v : PictureFacts) → AllHere v 0
all_none v = record { here = λ w r below is. absurd (omega (arith, below)) }

-- the window of this rank is there too
pub all_more : (v : PictureFacts) (n : ℕ) → AllHere v n
    → ((w : Window) (r : Range) → rank w ≡ n → IsWindow (filled_with_zeros v) w r → IsCovered v r.at r.len) → AllHere v (n + 1)
all_more v n all one = record { here = of }
  where
    of : (w : Window) (r : Range) → rank w < n + 1 → IsWindow (filled_with_zeros v) w r → IsCovered v r.at r.len
    of w r below is = by (cases_lt (rank w) n)
      where
        by : (rank w < n) ⊎ (n ≤ rank w) → IsCovered v r.at r.len
        by (inl under) = all.here w r under is
        by (inr above) = one w r (omega (arith, above, below)) is

pub has_first : (v : PictureFacts) → IsCovered v 0 (min EHDR64_SIZE (length (filled_with_zeros v))) → AllHere v 1
has_first v there = all_more v 0 (all_none v) of
  where
    of : (w : Window) (r : Range) → rank w ≡ 0 → IsWindow (filled_with_zeros v) w r → IsCovered v r.at r.len
    of beginning r e is = subst (λ (s : Range). IsCovered v s.at s.len) (sym is.is) there
    of zero_header r e is = absurd (omega (arith, e))
    of table r e is = absurd (omega (arith, e))
    of names r e is = absurd (omega (arith, e))
    of (notes i) r e is = absurd (omega (arith, e))

pub begins : (v : PictureFacts) (bytes : List ℕ) → IsCovered v 0 (min EHDR64_SIZE (length (filled_with_zeros v)))
    → bytes ≡ bytes_at (filled_with_zeros v) 0 (min EHDR64_SIZE (length (filled_with_zeros v))) → HasBeginning v bytes
begins v bytes there is = record { is = is; all = has_first v there }

pub needs_first : (v : PictureFacts) (need : Need) → (IsCovered v 0 (min EHDR64_SIZE (length (filled_with_zeros v))) → ⊥)
    → need ≡ record { at = 0; len = min EHDR64_SIZE (length (filled_with_zeros v)) } → Needs v need
needs_first v need gone is = record {
  window = beginning;
  is = record { is = ap (λ (n : Need). range n.at n.len) is };
  before = all_none v;
  gone = subst (λ (n : Need). (IsCovered v n.at n.len → ⊥)) (sym is) gone;
}

-- the header of the first bytes is the file's
pub head_read : (v : PictureFacts) (bytes : List ℕ) → HasBeginning v bytes → header_of bytes ≡ header_of (filled_with_zeros v)
head_read v bytes b = ap header_of b.is ∙ head_of_front (filled_with_zeros v)

pub same_ok : {A E : Type 0} {x y : A} → ◌≡◌ {A = Result A E} (Ok x) (Ok y) → x ≡ y
same_ok e = cc

-- a window of section 0's header is that of the header
zero_window : (v : PictureFacts) (h : Head) (r : Range) → header_of (filled_with_zeros v) ≡ Ok h → IsWindow (filled_with_zeros v) zero_header r
    → ((asks_zero h && has_section_zero (filled_with_zeros v) h) ≡ true) × (r ≡ range h.e_shoff (shdr_size h.encoding.class))
zero_window v h r is w =
    let same : w.head ≡ h = same_ok (sym w.is_head ∙ is) in (
      ap (λ g. asks_zero g && has_section_zero (filled_with_zeros v) g) (sym same) ∙ and_from (asks_zero w.head) (has_section_zero (filled_with_zeros v) w.head) w.asked w.there,
      w.is ∙ ap (λ (g : Head). range g.e_shoff (shdr_size g.encoding.class)) same,
    )

zero_more : (v : PictureFacts) (h : Head) → HasElfHeader v h
    → ((asks_zero h && has_section_zero (filled_with_zeros v) h) ≡ true → IsCovered v h.e_shoff (shdr_size h.encoding.class)) → AllHere v 2
zero_more v h is there = all_more v 1 is.all of
  where
    of : (w : Window) (r : Range) → rank w ≡ 1 → IsWindow (filled_with_zeros v) w r → IsCovered v r.at r.len
    of beginning r e w = absurd (omega (arith, e))
    of zero_header r e w =
        let parts = zero_window v h r is.is w in
        subst (λ (s : Range). IsCovered v s.at s.len) (sym parts.1) (there parts.0)
    of table r e w = absurd (omega (arith, e))
    of names r e w = absurd (omega (arith, e))
    of (notes i) r e w = absurd (omega (arith, e))

-- section 0's header isn't asked, or isn't there
pub zero_missing : (v : PictureFacts) (h : Head) → HasElfHeader v h → (asks_zero h && has_section_zero (filled_with_zeros v) h) ≡ false → HasZero v h None
zero_missing v h is none = record {
  is = rw none refl;
  all = zero_more v h is (λ some. absurd (both_ways _ none some));
}

-- it is
pub zero_found : (v : PictureFacts) (h : Head) (bytes : List ℕ) (s : SectionHeader) → HasElfHeader v h
    → (asks_zero h && has_section_zero (filled_with_zeros v) h) ≡ true → IsCovered v h.e_shoff (shdr_size h.encoding.class)
    → bytes ≡ bytes_at (filled_with_zeros v) h.e_shoff (shdr_size h.encoding.class) → s ≡ section_header h.encoding bytes 0
    → HasZero v h (Some s)
zero_found v h bytes s is asked there are read =
    let at_start : h.e_shoff + 0 ≡ h.e_shoff = omega arith in record {
      is =
          ap (λ t. Some t)
          (read ∙ ap (λ x. section_header h.encoding x 0) are
          ∙ cut_section h.encoding (filled_with_zeros v) h.e_shoff (shdr_size h.encoding.class) 0 (omega arith)
          ∙ ap (λ p. section_header h.encoding (filled_with_zeros v) p) at_start)
          ∙ rw asked refl;
      all = zero_more v h is (λ _. there);
    }

pub needs_zero : (v : PictureFacts) (h : Head) (need : Need) → HasElfHeader v h → reaches_zero (filled_with_zeros v) h ≡ true
    → asks_zero h ≡ true → has_section_zero (filled_with_zeros v) h ≡ true → (IsCovered v h.e_shoff (shdr_size h.encoding.class) → ⊥)
    → need ≡ record { at = h.e_shoff; len = shdr_size h.encoding.class } → Needs v need
needs_zero v h need is reached asked there gone same = record {
  window = zero_header;
  is = record {
    head = h;
    is_head = is.is;
    reached = reached;
    asked = asked;
    there = there;
    is = ap (λ (n : Need). range n.at n.len) same;
  };
  before = is.all;
  gone = subst (λ (n : Need). (IsCovered v n.at n.len → ⊥)) (sym same) gone;
}

-- the count is that of the file
pub count_read : (b : List ℕ) (h : Head) (zero : Option SectionHeader) (n : ℕ) → zero ≡ zero_of b h → reaches_zero b h ≡ true
    → n ≡ from_zero (h.e_shnum == 0) (λ s. s.sh_size) zero h.e_shnum → n ≡ section_count b h
count_read b h zero n is reached read = read ∙ ap (λ z. from_zero (h.e_shnum == 0) (λ s. s.sh_size) z h.e_shnum) is ∙ of (h.e_shnum == 0) refl
  where
    of : (x : Bool) → (h.e_shnum == 0) ≡ x
        → from_zero x (λ s. s.sh_size) (zero_of b h) h.e_shnum ≡ (if x then (section_zero b h).sh_size else h.e_shnum)
    of false e = refl
    of true e =
        let there : (not (h.e_shnum == 0) || has_section_zero b h) ≡ true = (before b h reached).zero in
        let inside : has_section_zero b h ≡ true = rw e at there in
        rw (e, inside) refl

pub names_read : (b : List ℕ) (h : Head) (zero : Option SectionHeader) (n : ℕ) → zero ≡ zero_of b h → reaches_table b h ≡ true
    → n ≡ from_zero (h.e_shstrndx == SHN_XINDEX) (λ s. s.sh_link) zero h.e_shstrndx → n ≡ names_index b h
names_read b h zero n is reached read = read ∙ ap (λ z. from_zero (h.e_shstrndx == SHN_XINDEX) (λ s. s.sh_link) z h.e_shstrndx) is ∙ of (h.e_shstrndx == SHN_XINDEX) refl
  where
    of : (x : Bool) → (h.e_shstrndx == SHN_XINDEX) ≡ x
        → from_zero x (λ s. s.sh_link) (zero_of b h) h.e_shstrndx ≡ (if x then (section_zero b h).sh_link else h.e_shstrndx)
    of false e = refl
    of true e =
        let inside : has_section_zero b h ≡ true = zero_there b h reached in
        let asked : asks_zero h ≡ true = or_right (h.e_shnum == 0) (h.e_shstrndx == SHN_XINDEX) e in
        rw (asked, inside) refl

-- the header was read
pub head_ok : (v : PictureFacts) (bytes : List ℕ) (h : Head) → HasBeginning v bytes → header_of bytes ≡ Ok h → HasElfHeader v h
head_ok v bytes h b e = record { is = sym (head_read v bytes b) ∙ e; all = b.all }
