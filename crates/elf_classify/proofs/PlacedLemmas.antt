-- The section of a name: where it stands, and that it is so of each file that agrees with a picture.
use Rattle.std.proofs.Common.{◌≡◌, sym, ◌∙◌, ap, subst, refl, ◌⊎◌, inl, inr, ℕ, List, arith, Option, Some, None, Ok}
use Rattle.file_formats.specs.declared.fault.ElfFault.{ElfFault}
use Rattle.file_formats.specs.declared.header.SectionTable.{SectionTable}
use Rattle.file_formats.specs.Numbers.{bytes_at}
use Rattle.file_formats.specs.Parts.{IsSectionRange, IsSomeSection}
use Rattle.file_formats.specs.Table.{section_table, section_at, HasSection, IsSectionOf, IsSectionAnswer, present, absent, no_table}
use Rattle.file_formats.specs.Windows.{Range, range, extent}
use Rattle.file_formats.proofs.PartLaws.{answer_moves, section_range_moves, section-inside}
use Rattle.file_formats.proofs.WindowLemmas.{agree-symmetric}
use Rattle.file_picture.specs.Agrees.{AgreesWithPicture, AsksOf, filled_with_zeros}
use Rattle.file_picture.specs.Picture.{PictureFacts, IsPicture, IsCovered}
use Rattle.file_picture.specs.Whole.{whole}
use Rattle.file_picture.specs.declared.view.Need.{Need}
use Rattle.file_picture.proofs.AgreeLaws.{agree-covered, filled-agrees}
use Rattle.file_picture.proofs.WholeLaws.{filled-whole}
use Rattle.elf_file.specs.Parsed.{IsPictureWhole}
use Rattle.elf_file.specs.Opened.{Opened, Knows}
use Rattle.elf_file.specs.Steps.{AllHere, Needs, FailsTests}
use Rattle.elf_file.proofs.StartLemmas.{same_ok}
use Rattle.elf_file.proofs.ViewLaws.{agree_there, need-of_each, windows-of_each}
use Rattle.elf_classify.specs.Placed.{IsSectionPlaced, SeesSection, NeedsSection, IsSectionSeen, NeedsNamed, SeesNamed, SaysSectionStep}
use Rattle.elf_classify.specs.declared.named.SectionStep.{SectionStep}
use Rattle.elf_classify.specs.declared.named.SectionStep.TheVariants as step

-- the range of the section of a name that was found
pub one_range : {b : List ℕ} {t : SectionTable} {name : List ℕ} {r : Range} (at : Need) → section_table b ≡ Ok t → IsSectionPlaced b t name at
    → IsSectionRange b name r → range at.at at.len ≡ r
one_range {b} {t} {name} {r} at is_table p w =
    let same : w.of ≡ t = same_ok (sym w.is_table ∙ is_table) in
    let here : HasSection b t name w.found.index w.bytes = subst (λ u. HasSection b u name w.found.index w.bytes) same w.found.here in
    let back : HasSection b w.of name p.found.index (bytes_at b at.at at.len) =
    subst (λ u. HasSection b u name p.found.index (bytes_at b at.at at.len)) (sym same) p.found.here in
    let index : p.found.index ≡ w.found.index =
    omega (arith, p.found.first w.found.index w.bytes here, w.found.first p.found.index _ back) in
    p.is ∙ ap (λ i. extent (section_at b t i)) index ∙ ap (λ u. extent (section_at b u w.found.index)) (sym same) ∙ sym w.is

-- ---- what is found of an opened file

-- no section of the name is handed out
pub sees_absent : (f : Opened) (name : List ℕ) → Knows f
    → ((i : ℕ) (bytes : List ℕ) → HasSection (filled_with_zeros f.file) f.table name i bytes → ⊥) → SeesSection f name None
sees_absent f name knows none = record {
  is = absent f.table knows.is_table none;
  there = λ r w.
      let same : w.of ≡ f.table = same_ok (sym w.is_table ∙ knows.is_table) in
      absurd
      (none w.found.index w.bytes
      (subst (λ u. HasSection (filled_with_zeros f.file) u name w.found.index w.bytes) same w.found.here));
}

-- one is, and its bytes are there
pub sees_present : (f : Opened) (name bytes : List ℕ) (at : Need) → Knows f → IsSectionPlaced (filled_with_zeros f.file) f.table name at
    → IsCovered f.file at.at at.len → bytes ≡ bytes_at (filled_with_zeros f.file) at.at at.len → SeesSection f name (Some bytes)
sees_present f name bytes at knows p there are = record {
  is =
      present f.table bytes knows.is_table
      (subst (IsSectionOf (filled_with_zeros f.file) f.table name) (sym are) p.found);
  there = λ r w. subst (λ (s : Range). IsCovered f.file s.at s.len) (one_range at knows.is_table p w) there;
}

-- they aren't
pub needs_present : (f : Opened) (name : List ℕ) (at need : Need) → Knows f → IsSectionPlaced (filled_with_zeros f.file) f.table name at
    → (IsCovered f.file at.at at.len → ⊥) → need ≡ at → NeedsSection f.file name need
needs_present f name at need knows p gone same =
    subst (NeedsSection f.file name) (sym same)
    (record {
      is = record {
        of = f.table;
        is_table = knows.is_table;
        bytes = bytes_at (filled_with_zeros f.file) at.at at.len;
        found = p.found;
        is = p.is;
      };
      gone = gone;
    })

-- ---- of a whole file

-- the section's bytes are there
pub never_needs_section : (v : PictureFacts) (name : List ℕ) (need : Need) → IsPictureWhole v → NeedsSection v name need → ⊥
never_needs_section v name need is n =
    n.gone (is need.at need.len (section-inside (filled_with_zeros v) name (range need.at need.len) n.is))

-- the answer is the file's
pub section_whole : (b : List ℕ) (v : PictureFacts) (name : List ℕ) (found : Option (List ℕ)) → v ≡ whole b
    → IsSectionAnswer (filled_with_zeros v) name found → IsSectionAnswer b name found
section_whole b v name found e is = subst (λ f. IsSectionAnswer f name found) (ap filled_with_zeros e ∙ filled-whole b) is

-- so it is where there is no table
pub section_fault : (b : List ℕ) (name : List ℕ) (fault : ElfFault) → FailsTests (whole b) fault → IsSectionAnswer b name None
section_fault b name fault f = section_whole b (whole b) name None refl (no_table fault f.is)

-- ---- what a reading of a view finds

-- the section is needed, and those before one were passed
pub named_section : (v : PictureFacts) (file : Opened) (name : List ℕ) (need : Need) → file.file ≡ v
    → ((n : ℕ) → AllHere file.file n) → NeedsSection file.file name need → NeedsNamed v name need
named_section v file name need same all n =
    subst (λ w. NeedsNamed w name need) same (record { section = n; all = all })

-- there is no table
pub named_fault : (v : PictureFacts) (name : List ℕ) (fault : ElfFault) → FailsTests v fault → IsSectionSeen v name None
named_fault v name fault f = record {
  is = no_table fault f.is;
  there = λ r w. let both = sym w.is_table ∙ f.is in cc;
  all = f.all;
}

-- the answer is found
pub named_found : (v : PictureFacts) (file : Opened) (name : List ℕ) (found : Option (List ℕ)) → file.file ≡ v
    → ((n : ℕ) → AllHere file.file n) → SeesSection file name found → IsSectionSeen v name found
named_found v file name found same all s =
    subst (λ w. IsSectionSeen w name found) same (record { is = s.is; there = s.there; all = all })

-- ---- of each file that agrees

-- what is found of a picture is said of each file
pub says_named : (p : PictureFacts) (name : List ℕ) → IsPicture p → (r : SectionStep) → SeesNamed p name r → SaysSectionStep p name r
says_named p name is (step.Need at len next) n = (asks n.0, n.1)
  where
    asks : Needs p (record { at = at; len = len }) ⊎ NeedsNamed p name (record { at = at; len = len })
        → AsksOf (IsSomeSection name) p at len
    asks (inl w) = record { gone = w.gone; among = λ b f. inl (need-of_each is w b f) }
    asks (inr w) = record {
      gone = w.section.gone;
      among = λ b f. inr (section_range_moves (agree_there is f w.all) w.section.is);
    }
says_named p name is (step.Section found) s = record {
  is = λ b f.
      answer_moves (agree_there is f s.all)
      (λ r w. agree-covered p (filled_with_zeros p) b r.at r.len (filled-agrees p is) f (s.there r w)) s.is;
  there = of;
}
  where
    of : (b : List ℕ) → AgreesWithPicture b p → (r : Range) → IsSomeSection name b r → IsCovered p r.at r.len
    of b f r (inl h) = windows-of_each is s.all b f r h
    of b f r (inr h) = s.there r (section_range_moves (agree-symmetric (agree_there is f s.all)) h)
