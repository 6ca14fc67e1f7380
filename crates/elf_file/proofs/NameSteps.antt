-- What a reading knows after the names.
use Rattle.std.proofs.Common.{◌≡◌, ◌≢◌, sym, ◌∙◌, ap, subst, refl, ℕ, ◌<◌, List, arith, true, false, Some, None}
use Rattle.std.specs.Prelude.{◌==◌, is_some}
use Rattle.std.proofs.lemmas.Bool.{eq-eqb, ne_eqb, both_ways}
use Rattle.file_formats.specs.Numbers.{bytes_at}
use Rattle.file_formats.specs.Table.{section_at, contents_at}
use Rattle.file_formats.specs.declared.codes.TheConstants.{SHN_UNDEF}
use Rattle.file_formats.specs.declared.header.SectionTable.{SectionTable}
use Rattle.file_formats.specs.Windows.{Range, range, extent, Window, beginning, zero_header, table, names, notes, IsWindow, rank}
use Rattle.file_formats.proofs.TableLemmas.{is_made}
use Rattle.file_formats.proofs.NamesLemmas.{names_below}
use Rattle.file_picture.specs.Agrees.{filled_with_zeros}
use Rattle.file_picture.specs.Picture.{PictureFacts, IsCovered}
use Rattle.file_picture.specs.declared.view.Need.{Need}
use Rattle.elf_file.specs.Steps.{AllHere, Needs, HasTable, HasNames}
use Rattle.elf_file.proofs.StartLemmas.{all_more, same_ok}

names_more : (v : PictureFacts) (t : SectionTable) (entries : List ℕ) → HasTable v t entries
    → ((t.names == SHN_UNDEF) ≡ false
    → IsCovered v (section_at (filled_with_zeros v) t t.names).sh_offset (section_at (filled_with_zeros v) t t.names).sh_size) → AllHere v 4
names_more v t entries is there = all_more v 3 is.all of
  where
    of : (w : Window) (r : Range) → rank w ≡ 3 → IsWindow (filled_with_zeros v) w r → IsCovered v r.at r.len
    of beginning r e w = absurd (omega (arith, e))
    of zero_header r e w = absurd (omega (arith, e))
    of table r e w = absurd (omega (arith, e))
    of names r e w =
        let same : w.of ≡ t = same_ok (sym w.is_table ∙ is.is) in
        let placed : r ≡ extent (section_at (filled_with_zeros v) t t.names) = w.is ∙ ap (λ s. extent (section_at (filled_with_zeros v) s s.names)) same in
        subst (λ (s : Range). IsCovered v s.at s.len) (sym placed)
        (there (subst (λ s. (s.names == SHN_UNDEF) ≡ false) same w.some))
    of (notes i) r e w = absurd (omega (arith, e))

-- no section has a name
pub no_names : (v : PictureFacts) (t : SectionTable) (entries : List ℕ) → HasTable v t entries → t.names ≡ SHN_UNDEF → HasNames v t None
no_names v t entries is none =
    let test : (t.names == SHN_UNDEF) ≡ true = eq-eqb t.names SHN_UNDEF none in
    record {
      are = rw test refl;
      all = names_more v t entries is (λ some. absurd (both_ways (t.names == SHN_UNDEF) some test));
    }

pub names_under : (v : PictureFacts) (t : SectionTable) (entries : List ℕ) → HasTable v t entries → t.names ≢ SHN_UNDEF
    → t.names < t.count
names_under v t entries is some =
    (names_below (filled_with_zeros v) t (is_made (filled_with_zeros v) t is.is).names (ne_eqb t.names SHN_UNDEF some)).0

-- the names' section has contents
pub names_there : (v : PictureFacts) (t : SectionTable) (entries : List ℕ) → HasTable v t entries → t.names ≢ SHN_UNDEF
    → contents_at (filled_with_zeros v) t t.names ≡ None → ⊥
names_there v t entries is some none =
    let has_some = (names_below (filled_with_zeros v) t (is_made (filled_with_zeros v) t is.is).names (ne_eqb t.names SHN_UNDEF some)).1 in
    let both : false ≡ true = sym (ap is_some none) ∙ has_some in cc

pub names_found : (v : PictureFacts) (t : SectionTable) (entries bytes : List ℕ) (need : Need) → HasTable v t entries
    → t.names ≢ SHN_UNDEF → contents_at (filled_with_zeros v) t t.names ≡ Some (bytes_at (filled_with_zeros v) need.at need.len)
    → range need.at need.len ≡ extent (section_at (filled_with_zeros v) t t.names)
    → IsCovered v need.at need.len → bytes ≡ bytes_at (filled_with_zeros v) need.at need.len → HasNames v t (Some bytes)
names_found v t entries bytes need is some holds placed there are =
    let test : (t.names == SHN_UNDEF) ≡ false = ne_eqb t.names SHN_UNDEF some in
    record {
      are = ap (λ x. Some x) are ∙ sym holds ∙ rw test refl;
      all = names_more v t entries is (λ _. subst (λ (r : Range). IsCovered v r.at r.len) placed there);
    }

pub needs_names : (v : PictureFacts) (t : SectionTable) (entries : List ℕ) (need : Need) → HasTable v t entries
    → t.names ≢ SHN_UNDEF → range need.at need.len ≡ extent (section_at (filled_with_zeros v) t t.names)
    → (IsCovered v need.at need.len → ⊥) → Needs v need
needs_names v t entries need is some placed gone = record {
  window = names;
  is = record { of = t; is_table = is.is; some = ne_eqb t.names SHN_UNDEF some; is = placed };
  before = is.all;
  gone = gone;
}
