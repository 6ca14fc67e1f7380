-- The debug sections: what is found of them, and that it is so of each file that agrees with a picture.
use Rattle.std.proofs.Common.{◌≡◌, sym, ◌∙◌, ap, subst, refl, inl, inr, ℕ, List, [], Bool, true, false, ◌||◌, Option, Some, None}
use Rattle.std.specs.Prelude.{◌==◌, codes}
use Rattle.std.specs.Str.{bytes_eq}
use Rattle.std.proofs.lemmas.Bool.{both_ways}
use Rattle.std.proofs.lemmas.Slice.Eq.{bytes_eq-Decides}
use Rattle.file_formats.specs.declared.codes.TheConstants.{ET_REL}
use Rattle.file_formats.specs.declared.fault.ElfFault.{ElfFault}
use Rattle.file_formats.specs.declared.header.SectionTable.{SectionTable}
use Rattle.file_formats.specs.DwarfSections.{IsDebugAnswer, debug, relocatable, no_sections}
use Rattle.file_formats.specs.DwarfUnits.{DebugSections}
use Rattle.file_formats.specs.Parts.{IsSomePart, is_debug_name}
use Rattle.file_formats.specs.Windows.{Range, bytes_in}
use Rattle.file_formats.proofs.PartLaws.{debug_range_moves, debug-of_parts}
use Rattle.file_formats.proofs.WindowLemmas.{agree-symmetric}
use Rattle.file_picture.specs.Agrees.{AgreesWithPicture, filled_with_zeros}
use Rattle.file_picture.specs.Picture.{PictureFacts, IsPicture, IsCovered}
use Rattle.file_picture.specs.Whole.{whole}
use Rattle.file_picture.specs.declared.view.Need.{Need}
use Rattle.file_picture.proofs.AgreeLaws.{agree-covered, filled-agrees}
use Rattle.file_picture.proofs.WholeLaws.{filled-whole}
use Rattle.elf_file.specs.Parsed.{IsPictureWhole}
use Rattle.elf_file.specs.Opened.{Opened, Knows}
use Rattle.elf_file.specs.Steps.{AllHere, Needs, FailsTests}
use Rattle.elf_file.proofs.StartLemmas.{same_ok}
use Rattle.elf_file.proofs.ViewLaws.{agree_there, need-of_each, windows-of_each}
use Rattle.elf_classify.specs.Placed.{HasSectionThere, SeesSection}
use Rattle.elf_classify.specs.DebugViews.{SeesPart, SeesParts, NeedsDebug, IsDebugSeen, SeesDebug, KnowsIdentity, SaysParts}
use Rattle.elf_classify.specs.declared.parts.PartsView.{PartsView}
use Rattle.elf_classify.specs.declared.parts.PartsView.TheVariants as view
use Rattle.elf_classify.proofs.PlacedLemmas.{never_needs_section}

-- what is so of each of the six names is so of each name among them
pub each_name : (P : List ℕ → Type 0) → P (codes ".debug_info") → P (codes ".debug_abbrev") → P (codes ".debug_line")
    → P (codes ".debug_str") → P (codes ".debug_line_str") → P (codes ".debug_str_offsets")
    → (name : List ℕ) → is_debug_name name ≡ true → P name
each_name P a b c d e f name among =
    one (codes ".debug_info") _ a
    (one (codes ".debug_abbrev") _ b
    (one (codes ".debug_line") _ c
    (one (codes ".debug_str") _ d
    (one (codes ".debug_line_str") _ e
    (one (codes ".debug_str_offsets") _ f (λ never. absurd (cc)))))))
    among
  where
    one : (other : List ℕ) (rest : Bool) → P other → (rest ≡ true → P name) → (bytes_eq other name || rest) ≡ true → P name
    one other rest here more h = by (bytes_eq other name) refl h
      where
        by : (x : Bool) → bytes_eq other name ≡ x → (x || rest) ≡ true → P name
        by true t g = subst P ((bytes_eq-Decides other name).0 t) here
        by false t g = more g

-- ---- what is found of an opened file

-- a section of the name
pub part_present : (f : Opened) (name part : List ℕ) → SeesSection f name (Some part) → SeesPart f name part
part_present f name part s = record {
  is = record { answer = Some part; asked = s.is; bytes = refl };
  there = s.there;
}

-- none
pub part_absent : (f : Opened) (name part : List ℕ) → part ≡ [] → SeesSection f name None → SeesPart f name part
part_absent f name part e s = record {
  is = record { answer = None; asked = s.is; bytes = e };
  there = s.there;
}

-- all six
pub parts_seen : (f : Opened) (parts : DebugSections) → SeesPart f (codes ".debug_info") parts.info
    → SeesPart f (codes ".debug_abbrev") parts.abbrevs → SeesPart f (codes ".debug_line") parts.lines
    → SeesPart f (codes ".debug_str") parts.str → SeesPart f (codes ".debug_line_str") parts.line_str
    → SeesPart f (codes ".debug_str_offsets") parts.str_offsets → parts.order ≡ f.table.encoding.order → SeesParts f parts
parts_seen f parts a b c d e g order = record {
  are = record {
    info = a.is;
    abbrevs = b.is;
    lines = c.is;
    str = d.is;
    line_str = e.is;
    str_offsets = g.is;
    order = order;
  };
  there = each_name (HasSectionThere f.file) a.there b.there c.there d.there e.there g.there;
}

-- of a file that isn't relocatable
pub debug_found : (f : Opened) (parts : DebugSections) → Knows f → (f.table.e_type == ET_REL) ≡ false → SeesParts f parts
    → IsDebugSeen f.file (Some parts)
debug_found f parts knows linked s = record {
  is = debug f.table parts knows.is_table linked s.are;
  there = λ r w. s.there w.name w.among r w.is;
}

-- of one that is
pub debug_none : (f : Opened) → Knows f → (f.table.e_type == ET_REL) ≡ true → IsDebugSeen f.file None
debug_none f knows linking = record {
  is = relocatable f.table knows.is_table linking;
  there = λ r w.
      let same : w.has.of ≡ f.table = same_ok (sym w.has.is_table ∙ knows.is_table) in
      absurd (both_ways (f.table.e_type == ET_REL) (subst (λ (t : SectionTable). (t.e_type == ET_REL) ≡ false) same w.has.linked) linking);
}

-- of one without a table
pub debug_fault : (v : PictureFacts) (fault : ElfFault) → FailsTests v fault → IsDebugSeen v None
debug_fault v fault f = record {
  is = no_sections fault f.is;
  there = λ r w. let both = sym w.has.is_table ∙ f.is in cc;
}

-- ---- of a whole file

pub never_needs_debug : (v : PictureFacts) (need : Need) → IsPictureWhole v → NeedsDebug v need → ⊥
never_needs_debug v need is n = never_needs_section v n.part.name need is n.part.section

pub debug_whole : (b : List ℕ) (v : PictureFacts) (parts : Option DebugSections) → v ≡ whole b → IsDebugSeen v parts
    → IsDebugAnswer b parts
debug_whole b v parts e s = subst (λ f. IsDebugAnswer f parts) (ap filled_with_zeros e ∙ filled-whole b) s.is

-- ---- what a reading of a view finds

-- a window of it is needed
pub debug_need : (v : PictureFacts) (need : Need) (r : PartsView) → r ≡ view.Need need.at need.len → Needs v need → SeesDebug v r
debug_need v need r e n = subst (SeesDebug v) (sym e) (inl n)

-- a part is
pub debug_part : (v : PictureFacts) (file : Opened) (need : Need) (r : PartsView) → file.file ≡ v → r ≡ view.Need need.at need.len
    → NeedsDebug file.file need → SeesDebug v r
debug_part v file need r same e n =
    subst (λ w. SeesDebug w r) same (subst (SeesDebug file.file) (sym e) (inr n))

-- the sections are found
pub debug_answer : (v : PictureFacts) (file : Opened) (parts : Option DebugSections) → file.file ≡ v → IsDebugSeen file.file parts
    → IsDebugSeen v parts
debug_answer v file parts same s = subst (λ w. IsDebugSeen w parts) same s

-- ---- of each file that agrees

-- all windows are there where the identity is known
pub all_known : (p : PictureFacts) → IsPicture p → KnowsIdentity p → (n : ℕ) → AllHere p n
all_known p is k n = record {
  here = λ w r below h. k.known.there (filled_with_zeros p) (filled-agrees p is) r (record { window = w; is = h });
}

-- what is found of a picture is said of each file
pub says_debug : (p : PictureFacts) → IsPicture p → KnowsIdentity p → (r : PartsView) → SeesDebug p r → SaysParts p r
says_debug p is k (view.Need at len) (inl n) = record { gone = n.gone; among = λ b f. inl (need-of_each is n b f) }
says_debug p is k (view.Need at len) (inr n) = record {
  gone = n.part.section.gone;
  among = λ b f.
      inr
      (debug_range_moves (agree_there is f (all_known p is k))
      (record {
        has = record {
          identity = k.identity;
          is_identity = k.known.is (filled_with_zeros p) (filled-agrees p is);
          of = n.of;
          is_table = n.is_table;
          linked = n.linked;
        };
        name = n.part.name;
        among = n.part.among;
        is = n.part.section.is;
      }));
}
says_debug p is k (view.Parts parts) s = record {
  is = λ b f.
      debug-of_parts (record { sized = (agree_there is f (all_known p is k)).sized; same = same b f })
      (k.known.is (filled_with_zeros p) (filled-agrees p is)) s.is;
  there = of;
}
  where
    same : (b : List ℕ) → AgreesWithPicture b p → (r : Range) → IsSomePart (filled_with_zeros p) r → bytes_in (filled_with_zeros p) r ≡ bytes_in b r
    same b f r (inl h) = (agree_there is f (all_known p is k)).same r h
    same b f r (inr h) = agree-covered p (filled_with_zeros p) b r.at r.len (filled-agrees p is) f (s.there r h)

    of : (b : List ℕ) → AgreesWithPicture b p → (r : Range) → IsSomePart b r → IsCovered p r.at r.len
    of b f r (inl h) = windows-of_each is (all_known p is k) b f r h
    of b f r (inr h) = s.there r (debug_range_moves (agree-symmetric (agree_there is f (all_known p is k))) h)
