-- What a reading finds is so of each file that agrees with the picture.
use Rattle.std.proofs.Common.{◌≡◌, ◌≢◌, sym, ◌∙◌, ap, subst, ℕ, ◌<◌, List, arith, Bool, IsTrue, Some, None, Result, Ok, Err}
use Rattle.std.specs.Prelude.{◌↔◌}
use Rattle.file_formats.specs.declared.codes.TheConstants.{ET_CORE}
use Rattle.file_formats.specs.declared.fault.ElfFault.{ElfFault}
use Rattle.file_formats.specs.declared.fault.Why.{Why}
use Rattle.file_formats.specs.declared.fault.Why.TheVariants.{Core, NoBuildId}
use Rattle.file_formats.specs.declared.header.SectionTable.{SectionTable}
use Rattle.file_formats.specs.Table.{section_table}
use Rattle.file_formats.specs.Identity.{Identity, IsIdentity, HasCode, HasDebug, refused, core, no_id, found, why_of_fault}
use Rattle.file_formats.specs.Windows.{Range, Window, beginning, zero_header, table, names, notes, IsWindow, rank}
use Rattle.file_picture.specs.Agrees.{filled_with_zeros}
use Rattle.file_picture.specs.Picture.{PictureFacts, IsPicture, IsCovered}
use Rattle.file_picture.specs.Whole.{whole}
use Rattle.file_picture.proofs.WholeLaws.{filled-whole}
use Rattle.elf_file.specs.Opened.{Opened, OpensAs}
use Rattle.elf_file.specs.Steps.{AllHere, FailsTests}
use Rattle.elf_file.proofs.StartLemmas.{same_ok}
use Rattle.elf_file.proofs.ViewLaws.{need-of_each, identity-of_each, windows-of_each}
use Rattle.elf_classify.specs.Ids.{Finds}
use Rattle.elf_classify.specs.Views.{IsIdentitySeen, SaysStep, SeesStep}
use Rattle.elf_classify.specs.declared.identity.IdentStep.{IdentStep}
use Rattle.elf_classify.specs.declared.identity.IdentStep.TheVariants as step

-- the notes of a core image are no window
pub core_all : (v : PictureFacts) (t : SectionTable) → section_table (filled_with_zeros v) ≡ Ok t → t.e_type ≡ ET_CORE → AllHere v 4
    → (n : ℕ) → AllHere v n
core_all v t is kind all n = record { here = of }
  where
    of : (w : Window) (r : Range) → rank w < n → IsWindow (filled_with_zeros v) w r → IsCovered v r.at r.len
    of beginning r below h = all.here beginning r (omega arith) h
    of zero_header r below h = all.here zero_header r (omega arith) h
    of table r below h = all.here table r (omega arith) h
    of names r below h = all.here names r (omega arith) h
    of (notes i) r below h =
        let same : h.of ≡ t = same_ok (sym h.is_table ∙ is) in
        absurd (h.other (ap (λ (s : SectionTable). s.e_type) same ∙ kind))

-- ---- what is found of a view

-- why its table isn't read
pub sees_fault : (v : PictureFacts) (fault : ElfFault) (why : Why) → why ≡ why_of_fault fault → FailsTests v fault
    → IsIdentitySeen v (Err why)
sees_fault v fault why e f =
    subst (λ w. IsIdentitySeen v (Err w)) (sym e) (record { is = refused fault f.is; all = f.all })

-- it is a core image
pub sees_core : (v : PictureFacts) (file : Opened) → OpensAs v file → file.table.e_type ≡ ET_CORE → IsIdentitySeen v (Err Core)
sees_core v file o is = record { is = core file.table o.is_table is; all = core_all v file.table o.is_table is o.all }

-- the table is that of the file that was opened
opened_table : (v : PictureFacts) (file : Opened) → OpensAs v file → section_table (filled_with_zeros file.file) ≡ Ok file.table
opened_table v file o = subst (λ w. section_table (filled_with_zeros w) ≡ Ok file.table) (sym o.same) o.is_table

-- it has no build-id
pub sees_none : (v : PictureFacts) (file : Opened) → OpensAs v file → file.table.e_type ≢ ET_CORE → Finds file None
    → IsIdentitySeen v (Err NoBuildId)
sees_none v file o other f =
    subst (λ w. IsIdentitySeen w (Err NoBuildId)) o.same
    (record { is = no_id file.table (opened_table v file o) other f.id; all = f.all })

-- it has one
pub sees_id : (v : PictureFacts) (file : Opened) (id : List ℕ) (exec debug : Bool) → OpensAs v file
    → file.table.e_type ≢ ET_CORE → Finds file (Some id)
    → (IsTrue exec ↔ HasCode (filled_with_zeros file.file) file.table) → (IsTrue debug ↔ HasDebug (filled_with_zeros file.file) file.table)
    → IsIdentitySeen v (Ok (record { id = id; exec = exec; debug = debug }))
sees_id v file id exec debug o other f code info =
    subst (λ w. IsIdentitySeen w (Ok (record { id = id; exec = exec; debug = debug }))) o.same
    (record {
      is =
          found file.table (record { id = id; exec = exec; debug = debug }) (opened_table v file o) other f.id
          (record { exec = code; debug = info });
      all = f.all;
    })

-- ---- of a whole file, and of each file that agrees

-- a whole file's answer is the file's
pub seen_whole : (b : List ℕ) (v : PictureFacts) (answer : Result Identity Why) → v ≡ whole b → IsIdentitySeen v answer
    → IsIdentity b answer
seen_whole b v answer e s = subst (λ f. IsIdentity f answer) (ap filled_with_zeros e ∙ filled-whole b) s.is

-- what is found of a picture is said of each file
pub says_seen : (p : PictureFacts) → IsPicture p → (r : IdentStep) → SeesStep p r → SaysStep p r
says_seen p is (step.Need at len next) n = (record { gone = n.needs.gone; among = need-of_each is n.needs }, n.passed)
says_seen p is (step.Ident identity) s = record {
  is = identity-of_each is s.all s.is;
  there = windows-of_each is s.all;
}
says_seen p is (step.Plain why) s = record {
  is = identity-of_each is s.all s.is;
  there = windows-of_each is s.all;
}
