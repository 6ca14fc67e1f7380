use Rattle.std.proofs.Common.{sym, ◌∙◌, ap, subst}
use Rattle.file_picture.specs.Agrees.{filled_with_zeros}
use Rattle.file_formats.specs.Sections.{contents_of}
use Rattle.file_formats.specs.Windows.{range, extent}
use Rattle.file_picture.specs.Picture.{IsCovered}
use Rattle.file_picture.specs.declared.view.Need.{Need}
use Rattle.elf_file.proofs.NameSteps.{names_under, names_there, needs_names}
use Rattle.elf_file.proofs.table.names_in.Goals as goal

pub entry-requires-clause-below : goal.entry-requires-clause-below
entry-requires-clause-below c =
    names_under c.args.view.now c.args.table.now c.args.entries.now c.requires c.if-table-eq-SHN_UNDEF.false

pub returns-in-None : goal.returns-in-None
returns-in-None c =
    absurd (names_there c.args.view.now c.args.table.now c.args.entries.now c.requires c.if-table-eq-SHN_UNDEF.false
    (ap (contents_of (filled_with_zeros c.args.view.now)) (sym c.entry.ensures) ∙ c.in-None.ensures))

pub returns-in-Err : goal.returns-in-Err
returns-in-Err c =
    needs_names c.args.view.now c.args.table.now c.args.entries.now c.in-Err.need c.requires c.if-table-eq-SHN_UNDEF.false
    (ap (λ (n : Need). range n.at n.len) c.in-Err.ensures.1 ∙ c.in-Some.ensures.1 ∙ ap extent c.entry.ensures)
    (subst (λ (n : Need). (IsCovered c.args.view.now n.at n.len → ⊥)) (sym c.in-Err.ensures.1) c.in-Err.ensures.0)
