-- The place to go on from: what was passed needn't be looked at again, and what is looked at next was passed.
use Rattle.std.proofs.Common.{◌≡◌, ◌≢◌, sym, ◌∙◌, subst, ℕ, ◌+◌, ◌<◌, List, Ok, arith}
use Rattle.file_formats.specs.declared.codes.TheConstants.{ET_CORE}
use Rattle.file_formats.specs.declared.header.SectionTable.{SectionTable}
use Rattle.file_formats.specs.Identity.{HasIdAt}
use Rattle.file_formats.specs.Table.{section_table}
use Rattle.file_formats.specs.Windows.{Range, Window, beginning, zero_header, table, names, notes, IsNotes, IsWindow, rank}
use Rattle.file_formats.proofs.AgreeBelow.{AgreeBelow, fewer}
use Rattle.file_formats.proofs.NotesLemmas.{none_moves}
use Rattle.file_formats.proofs.TableLemmas.{table_agrees}
use Rattle.file_formats.proofs.WindowLemmas.{agree_turned, window_moves}
use Rattle.file_picture.specs.Agrees.{AgreesWithPicture, filled_with_zeros}
use Rattle.file_picture.specs.Passed.{HasPassed}
use Rattle.file_picture.specs.Picture.{PictureFacts, IsPicture, IsCovered}
use Rattle.file_picture.proofs.AgreeLaws.{filled-agrees}
use Rattle.elf_file.specs.Opened.{Opened, Knows}
use Rattle.elf_file.proofs.StartLemmas.{same_ok}
use Rattle.elf_file.proofs.ViewLaws.{agrees_below}
use Rattle.elf_classify.specs.Ids.{LooksAt, StopsLooking}
use Rattle.elf_classify.specs.Views.{NeedsFrom}
use Rattle.elf_classify.specs.declared.ids.NeedAt.{NeedAt}

-- the first section that wasn't passed is looked at next
pub looks_from : (f : Opened) (i : ℕ) → IsPicture f.file → Knows f → f.table.e_type ≢ ET_CORE → HasPassed f.file i → LooksAt f i
looks_from f i known knows other passed = record {
  above = passed.above;
  is_table = knows.is_table;
  other = other;
  none = λ j id before h.
      passed.none (filled_with_zeros f.file) (filled-agrees f.file known) f.table knows.is_table j id before h;
  all = record { here = of };
}
  where
    of : (w : Window) (r : Range) → rank w < 4 + i → IsWindow (filled_with_zeros f.file) w r → IsCovered f.file r.at r.len
    of beginning r below is = knows.all.here beginning r (omega arith) is
    of zero_header r below is = knows.all.here zero_header r (omega arith) is
    of table r below is = knows.all.here table r (omega arith) is
    of names r below is = knows.all.here names r (omega arith) is
    of (notes j) r below is =
        passed.there (filled_with_zeros f.file) (filled-agrees f.file known) j r (omega (arith, below)) is

-- and what is before the one that is looked at next was passed, in each file that agrees
pub looks_passed : (f : Opened) (i : ℕ) → IsPicture f.file → LooksAt f i → HasPassed f.file i
looks_passed f i known looks = record {
  above = looks.above;
  none = none;
  there = there;
}
  where
    none : (b : List ℕ) → AgreesWithPicture b f.file → (t : SectionTable) → section_table b ≡ Ok t → (j : ℕ) (id : List ℕ) → j < i
        → HasIdAt b t j id → ⊥
    none b a t is_table j id before h =
        let below : AgreeBelow (filled_with_zeros f.file) b (4 + i) = agrees_below known a looks.all in
        let its : section_table b ≡ Ok f.table = sym (table_agrees below (omega arith)) ∙ looks.is_table in
        let same : t ≡ f.table = same_ok (sym is_table ∙ its) in
        none_moves {i = i} below (omega arith) looks.is_table looks.other looks.none j id before
        (subst (λ (s : SectionTable). HasIdAt b s j id) same h)

    there : (b : List ℕ) → AgreesWithPicture b f.file → (j : ℕ) (r : Range) → j < i → IsNotes b j r → IsCovered f.file r.at r.len
    there b a j r before w =
        let below : AgreeBelow (filled_with_zeros f.file) b (4 + j) =
        fewer (omega (arith, before)) (agrees_below {n = 4 + i} known a looks.all) in
        let back : AgreeBelow b (filled_with_zeros f.file) (4 + j) = agree_turned (4 + j) below in
        looks.all.here (notes j) r (omega (arith, before)) (window_moves r (notes j) back w)

-- the notes of a section are needed, and those before it were passed
pub needs_from : (v : PictureFacts) (file : Opened) (stop : NeedAt) → file.file ≡ v → IsPicture v → StopsLooking file stop
    → NeedsFrom v stop.need stop.from
needs_from v file stop same known s =
    subst (λ (w : PictureFacts). NeedsFrom w stop.need stop.from) same
    (record { needs = s.needs; passed = looks_passed file stop.from (subst IsPicture (sym same) known) s.looks })
