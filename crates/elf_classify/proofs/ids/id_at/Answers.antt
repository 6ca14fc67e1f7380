use Rattle.file_picture.specs.Agrees.{filled_with_zeros}
use Rattle.std.proofs.Common.{rules, sym, ◌∙◌, ap, subst, inl, inr, Some}
use Rattle.file_picture.specs.Picture.{IsCovered}
use Rattle.file_picture.specs.declared.view.Need.{Need}
use Rattle.file_formats.specs.Numbers.{bytes_at}
use Rattle.file_formats.specs.Sections.{has_flag, contents_of}
use Rattle.file_formats.specs.declared.codes.TheConstants.{SHF_COMPRESSED}
use Rattle.file_formats.specs.declared.header.SectionHeader.{SectionHeader}
use Rattle.file_formats.specs.Windows.{range, extent}
use Rattle.elf_classify.proofs.IdLemmas.{finds_in, finds_other, needs_notes, found_in}
use Rattle.elf_classify.proofs.ids.id_at.Goals as goal

pub returns-in-Err : goal.returns-in-Err
returns-in-Err c =
    let same = c.header-header.ensures in
    needs_notes c.args.file.now c.args.index c.in-Err.need c.requires.looks c.requires.index
    (ap (λ (s : SectionHeader). s.sh_type) (sym same) ∙ search (rules, c.if-header-ne-SHT_NOTE.false))
    (ap (λ (s : SectionHeader). has_flag s SHF_COMPRESSED) (sym same) ∙ sym c.is_flagged.ensures.value ∙ search rules)
    (ap (contents_of (filled_with_zeros c.args.file.now.file)) (sym same) ∙ c.in-Some.ensures.0
    ∙ ap (λ (n : Need). Some (bytes_at (filled_with_zeros c.args.file.now.file) n.at n.len)) (sym c.in-Err.ensures.1))
    (ap (λ (n : Need). range n.at n.len) c.in-Err.ensures.1 ∙ c.in-Some.ensures.1 ∙ ap extent same)
    (subst (λ (n : Need). (IsCovered c.args.file.now.file n.at n.len → ⊥)) (sym c.in-Err.ensures.1) c.in-Err.ensures.0)

pub returns-in-Ok : goal.returns-in-Ok
returns-in-Ok c =
    let same = c.header-header.ensures in
    finds_in c.args.file.now c.args.index c.in-Some.at.at c.in-Some.at.len c.in-Ok.contents.now
    c.id_in.result c.requires.looks c.requires.index
    (ap (λ (s : SectionHeader). s.sh_type) (sym same) ∙ search (rules, c.if-header-ne-SHT_NOTE.false))
    (ap (λ (s : SectionHeader). has_flag s SHF_COMPRESSED) (sym same) ∙ sym c.is_flagged.ensures.value ∙ search rules)
    (ap (contents_of (filled_with_zeros c.args.file.now.file)) (sym same) ∙ c.in-Some.ensures.0)
    (c.in-Some.ensures.1 ∙ ap extent same)
    c.in-Ok.ensures.0 c.in-Ok.ensures.1
    (found_in c.in-Ok.contents.now _ _ _ _ c.id_in.result c.order.ensures (ap (λ (s : SectionHeader). s.sh_addralign) same)
    c.id_in.ensures)

pub returns-then-header-ne-SHT_NOTE : goal.returns-then-header-ne-SHT_NOTE
returns-then-header-ne-SHT_NOTE c =
    finds_other c.args.file.now c.args.index c.requires.looks
    (inl (λ is. c.if-header-ne-SHT_NOTE.true (ap (λ (s : SectionHeader). s.sh_type) c.header-header.ensures ∙ is)))

pub returns-then-is_flagged : goal.returns-then-is_flagged
returns-then-is_flagged c =
    finds_other c.args.file.now c.args.index c.requires.looks
    (inr
    (ap (λ (s : SectionHeader). has_flag s SHF_COMPRESSED) (sym c.header-header.ensures) ∙ sym c.is_flagged.ensures.value
    ∙ c.if-is_flagged.true))
