-- What a reading knows after the tests of the section table.
use Rattle.std.proofs.Common.{◌≡◌, sym, ◌∙◌, ap, subst, refl, ℕ, ◌+◌, ◌*◌, ◌<◌, ◌≤◌, ◌&&◌, ◌||◌, not, List, length, arith, Bool, true, false}
use Rattle.std.specs.Prelude.{◌==◌, nat_le, Result, Ok, Err}
use Rattle.std.proofs.lemmas.Bool.{and_parts, both_ways, eqb-true}
use Rattle.file_formats.specs.Numbers.{bytes_at}
use Rattle.file_formats.specs.Header.{header_of}
use Rattle.file_formats.specs.Sections.{shdr_size, section_header}
use Rattle.file_formats.specs.Table.{section_table, table_below, section_count, described, section_at}
use Rattle.file_formats.specs.declared.fault.ElfFault.{ElfFault}
use Rattle.file_formats.specs.declared.header.Head.{Head}
use Rattle.file_formats.specs.declared.header.SectionTable.{SectionTable}
use Rattle.file_formats.specs.Windows.{Range, range, Window, beginning, zero_header, table, names, notes, IsWindow, rank, reaches_zero, reaches_table}
use Rattle.file_formats.proofs.TableLemmas.{before, reached_parts, in_table, table_from, within_table, steps, ends, last, from_count, in_steps}
use Rattle.file_formats.specs.Table.{has_names, has_section_zero}
use Rattle.file_formats.specs.Header.{holds_or, ◌>>=◌}
use Rattle.file_formats.specs.declared.fault.ElfFault.TheVariants.{BadNames}
use Rattle.file_picture.specs.Agrees.{filled_with_zeros}
use Rattle.file_picture.specs.Picture.{PictureFacts, IsCovered}
use Rattle.file_picture.specs.declared.view.Need.{Need}
use Rattle.elf_file.specs.Steps.{AllHere, AreEntries, Needs, HasBeginning, HasElfHeader, HasEntries, HasTable, FailsTests}
use Rattle.file_formats.proofs.SectionLemmas.{cut_section}
use Rattle.elf_file.proofs.StartLemmas.{all_more, same_ok, head_read}

-- the table is that below the header
pub below_head : (v : PictureFacts) (h : Head) → HasElfHeader v h → section_table (filled_with_zeros v) ≡ table_below (filled_with_zeros v) h
below_head v h is = in_table (filled_with_zeros v) ∙ ap (table_from (filled_with_zeros v)) is.is

-- where the header can't be read, neither can the table
pub fault_of_head : (v : PictureFacts) (fault : ElfFault) → header_of (filled_with_zeros v) ≡ Err fault → section_table (filled_with_zeros v) ≡ Err fault
fault_of_head v fault e = in_table (filled_with_zeros v) ∙ ap (table_from (filled_with_zeros v)) e

-- a window of the table is that of the header
table_window : (v : PictureFacts) (h : Head) (r : Range) → header_of (filled_with_zeros v) ≡ Ok h → IsWindow (filled_with_zeros v) table r
    → (reaches_table (filled_with_zeros v) h ≡ true) × (r ≡ range h.e_shoff (section_count (filled_with_zeros v) h * h.e_shentsize))
table_window v h r is w =
    let same : w.head ≡ h = same_ok (sym w.is_head ∙ is) in (
      subst (λ g. reaches_table (filled_with_zeros v) g ≡ true) same w.reached,
      w.is ∙ ap (λ (g : Head). range g.e_shoff (section_count (filled_with_zeros v) g * g.e_shentsize)) same,
    )

pub table_more : (v : PictureFacts) (h : Head) → HasElfHeader v h → AllHere v 2
    → (reaches_table (filled_with_zeros v) h ≡ true → IsCovered v h.e_shoff (section_count (filled_with_zeros v) h * h.e_shentsize)) → AllHere v 3
table_more v h is all there = all_more v 2 all of
  where
    of : (w : Window) (r : Range) → rank w ≡ 2 → IsWindow (filled_with_zeros v) w r → IsCovered v r.at r.len
    of beginning r e w = absurd (omega (arith, e))
    of zero_header r e w = absurd (omega (arith, e))
    of table r e w =
        let parts = table_window v h r is.is w in
        subst (λ (s : Range). IsCovered v s.at s.len) (sym parts.1) (there parts.0)
    of names r e w = absurd (omega (arith, e))
    of (notes i) r e w = absurd (omega (arith, e))

-- where the tests before section 0's header fail, it is no window
zero_never : (v : PictureFacts) (h : Head) → HasElfHeader v h → reaches_zero (filled_with_zeros v) h ≡ false → AllHere v 2
zero_never v h is ends = all_more v 1 is.all of
  where
    of : (w : Window) (r : Range) → rank w ≡ 1 → IsWindow (filled_with_zeros v) w r → IsCovered v r.at r.len
    of beginning r e w = absurd (omega (arith, e))
    of zero_header r e w =
        let same : w.head ≡ h = same_ok (sym w.is_head ∙ is.is) in
        absurd (both_ways (reaches_zero (filled_with_zeros v) h) ends (subst (λ g. reaches_zero (filled_with_zeros v) g ≡ true) same w.reached))
    of table r e w = absurd (omega (arith, e))
    of names r e w = absurd (omega (arith, e))
    of (notes i) r e w = absurd (omega (arith, e))

-- where there is no table, no window follows
pub all_of_fault : (v : PictureFacts) (fault : ElfFault) → section_table (filled_with_zeros v) ≡ Err fault → AllHere v 3 → (n : ℕ) → AllHere v n
all_of_fault v fault no_table all n = record { here = of }
  where
    of : (w : Window) (r : Range) → rank w < n → IsWindow (filled_with_zeros v) w r → IsCovered v r.at r.len
    of beginning r below w = all.here beginning r (omega arith) w
    of zero_header r below w = all.here zero_header r (omega arith) w
    of table r below w = all.here table r (omega arith) w
    of names r below w = let same = sym w.is_table ∙ no_table in cc
    of (notes i) r below w = let same = sym w.is_table ∙ no_table in cc

-- the first tests fail
pub fails_first : (v : PictureFacts) (h : Head) (fault : ElfFault) → HasElfHeader v h → table_below (filled_with_zeros v) h ≡ Err fault
    → reaches_zero (filled_with_zeros v) h ≡ false → FailsTests v fault
fails_first v h fault is below ends =
    let no_table : section_table (filled_with_zeros v) ≡ Err fault = below_head v h is ∙ below in
    let never : reaches_table (filled_with_zeros v) h ≡ true → ⊥ = λ reached.
    both_ways (reaches_zero (filled_with_zeros v) h) ends (reached_parts (filled_with_zeros v) h reached).0 in
    record {
      is = no_table;
      all = all_of_fault v fault no_table (table_more v h is (zero_never v h is ends) (λ reached. absurd (never reached)));
    }

-- the last ones do
pub fails_last : (v : PictureFacts) (h : Head) (fault : ElfFault) → HasElfHeader v h → AllHere v 2 → table_below (filled_with_zeros v) h ≡ Err fault
    → reaches_table (filled_with_zeros v) h ≡ false → FailsTests v fault
fails_last v h fault is all below ends =
    let no_table : section_table (filled_with_zeros v) ≡ Err fault = below_head v h is ∙ below in
    record {
      is = no_table;
      all = all_of_fault v fault no_table
          (table_more v h is all (λ reached. absurd (both_ways (reaches_table (filled_with_zeros v) h) ends reached)));
    }

-- the header can't be read
pub fails_head : (v : PictureFacts) (fault : ElfFault) → header_of (filled_with_zeros v) ≡ Err fault → AllHere v 1 → FailsTests v fault
fails_head v fault e all = record { is = fault_of_head v fault e; all = of }
  where
    of : (n : ℕ) → AllHere v n
    of n = record { here = by }
      where
        by : (w : Window) (r : Range) → rank w < n → IsWindow (filled_with_zeros v) w r → IsCovered v r.at r.len
        by beginning r below w = all.here beginning r (omega arith) w
        by zero_header r below w = let same = sym w.is_head ∙ e in cc
        by table r below w = let same = sym w.is_head ∙ e in cc
        by names r below w = let same = sym w.is_table ∙ fault_of_head v fault e in cc
        by (notes i) r below w = let same = sym w.is_table ∙ fault_of_head v fault e in cc

pub needs_table : (v : PictureFacts) (h : Head) (need : Need) → HasElfHeader v h → AllHere v 2 → reaches_table (filled_with_zeros v) h ≡ true
    → (IsCovered v h.e_shoff (section_count (filled_with_zeros v) h * h.e_shentsize) → ⊥)
    → need ≡ record { at = h.e_shoff; len = section_count (filled_with_zeros v) h * h.e_shentsize } → Needs v need
needs_table v h need is all reached gone same = record {
  window = table;
  is = record { head = h; is_head = is.is; reached = reached; is = ap (λ (n : Need). range n.at n.len) same };
  before = all;
  gone = subst (λ (n : Need). (IsCovered v n.at n.len → ⊥)) (sym same) gone;
}

-- the entries lie in the file
pub has_entries : (v : PictureFacts) (h : Head) (entries : List ℕ) → HasElfHeader v h → AllHere v 2 → reaches_table (filled_with_zeros v) h ≡ true
    → IsCovered v h.e_shoff (section_count (filled_with_zeros v) h * h.e_shentsize)
    → entries ≡ bytes_at (filled_with_zeros v) h.e_shoff (section_count (filled_with_zeros v) h * h.e_shentsize) → HasEntries v h entries
has_entries v h entries is all reached there are =
    let parts = reached_parts (filled_with_zeros v) h reached in
    let entry : h.e_shentsize ≡ shdr_size h.encoding.class =
    eqb-true h.e_shentsize (shdr_size h.encoding.class) (before (filled_with_zeros v) h parts.0).entry in
    record {
      listed = record {
        are = are ∙ ap (λ m. bytes_at (filled_with_zeros v) h.e_shoff (section_count (filled_with_zeros v) h * m)) entry;
        inside = subst (λ m. h.e_shoff + section_count (filled_with_zeros v) h * m ≤ length (filled_with_zeros v)) entry parts.2;
      };
      all = table_more v h is all (λ _. there);
    }

-- a section header that is read from the entries is the file's
pub entry_read : (b : List ℕ) (t : SectionTable) (entries : List ℕ) (i : ℕ) → AreEntries b t entries → i < t.count
    → section_header t.encoding entries (i * shdr_size t.encoding.class) ≡ section_at b t i
entry_read b t entries i listed below =
    let fits = within_table 0 i t.count (shdr_size t.encoding.class) below in
    ap (λ x. section_header t.encoding x (i * shdr_size t.encoding.class)) listed.are
    ∙ cut_section t.encoding b t.start (t.count * shdr_size t.encoding.class) (i * shdr_size t.encoding.class) (omega (arith, fits))

-- the header of a beginning can't be read
pub head_err : (v : PictureFacts) (bytes : List ℕ) (fault : ElfFault) → HasBeginning v bytes → header_of bytes ≡ Err fault
    → FailsTests v fault
head_err v bytes fault b e = fails_head v fault (sym (head_read v bytes b) ∙ e) b.all

-- ---- the last test

steps_true : {A : Type 0} (x y z : Bool) (r : Result A ElfFault) → (x && y && z) ≡ true → steps x y z r ≡ r
steps_true true true true r h = refl
steps_true false y z r h = absurd (cc)
steps_true true false z r h = absurd (cc)
steps_true true true false r h = absurd (cc)

ends_true : {A : Type 0} (x y : Bool) (r : Result A ElfFault) → x ≡ true → y ≡ true → ends x y r ≡ r
ends_true true true r h g = refl
ends_true false y r h g = absurd (cc)
ends_true true false r h g = absurd (cc)

-- where the tests up to the table's end pass, the last one decides
to_last : (v : PictureFacts) (h : Head) → HasElfHeader v h → reaches_table (filled_with_zeros v) h ≡ true → section_table (filled_with_zeros v) ≡ last (filled_with_zeros v) h
to_last v h is reached =
    let parts = and_parts (reaches_zero (filled_with_zeros v) h && not (section_count (filled_with_zeros v) h == 0))
    (nat_le (h.e_shoff + section_count (filled_with_zeros v) h * h.e_shentsize) (length (filled_with_zeros v))) reached in
    let front = and_parts (reaches_zero (filled_with_zeros v) h) (not (section_count (filled_with_zeros v) h == 0)) parts.0 in
    below_head v h is ∙ in_steps (filled_with_zeros v) h
    ∙ steps_true (not (h.e_shoff == 0)) (h.e_shentsize == shdr_size h.encoding.class)
    (not (h.e_shnum == 0) || has_section_zero (filled_with_zeros v) h) (from_count (filled_with_zeros v) h) front.0
    ∙ ends_true (not (section_count (filled_with_zeros v) h == 0)) (nat_le (h.e_shoff + section_count (filled_with_zeros v) h * h.e_shentsize) (length (filled_with_zeros v)))
    (last (filled_with_zeros v) h) front.1 parts.1

-- the table is read
pub reads_table : (v : PictureFacts) (h : Head) (t : SectionTable) (entries : List ℕ) (test : Bool) → HasElfHeader v h
    → reaches_table (filled_with_zeros v) h ≡ true → HasEntries v h entries → t ≡ described (filled_with_zeros v) h
    → test ≡ has_names (filled_with_zeros v) t → test ≡ true → HasTable v t entries
reads_table v h t entries test is reached e same named so =
    let names : has_names (filled_with_zeros v) (described (filled_with_zeros v) h) ≡ true = subst (λ s. has_names (filled_with_zeros v) s ≡ true) same (sym named ∙ so) in
    subst (λ s. HasTable v s entries) (sym same)
    (record {
      is = to_last v h is reached ∙ ap (λ x. holds_or BadNames x >>= (λ _. Ok (described (filled_with_zeros v) h))) names;
      listed = e.listed;
      all = e.all;
    })

-- its names are bad
pub fails_names : (v : PictureFacts) (h : Head) (t : SectionTable) (entries : List ℕ) (test : Bool) → HasElfHeader v h
    → reaches_table (filled_with_zeros v) h ≡ true → HasEntries v h entries → t ≡ described (filled_with_zeros v) h
    → test ≡ has_names (filled_with_zeros v) t → test ≡ false → FailsTests v BadNames
fails_names v h t entries test is reached e same named so =
    let names : has_names (filled_with_zeros v) (described (filled_with_zeros v) h) ≡ false = subst (λ s. has_names (filled_with_zeros v) s ≡ false) same (sym named ∙ so) in
    let no_table : section_table (filled_with_zeros v) ≡ Err BadNames =
    to_last v h is reached ∙ ap (λ x. holds_or BadNames x >>= (λ _. Ok (described (filled_with_zeros v) h))) names in
    record { is = no_table; all = all_of_fault v BadNames no_table e.all }

pub entries_of : (v : PictureFacts) (h : Head) (t : SectionTable) (entries : List ℕ) → HasEntries v h entries
    → t ≡ described (filled_with_zeros v) h → AreEntries (filled_with_zeros v) t entries
entries_of v h t entries e same = subst (λ s. AreEntries (filled_with_zeros v) s entries) (sym same) e.listed
