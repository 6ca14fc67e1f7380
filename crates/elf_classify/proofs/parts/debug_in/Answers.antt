use Rattle.std.proofs.Common.{sym, ◌∙◌}
use Rattle.std.specs.Prelude.{◌==◌}
use Rattle.std.proofs.lemmas.Bool.{eqb-true, eq-eqb, false_from_ne_true}
use Rattle.dwarf_forms.specs.Parts.{sections_of}
use Rattle.file_formats.specs.declared.codes.TheConstants.{ET_REL}
use Rattle.elf_classify.proofs.DebugLemmas.{debug_none, debug_found}
use Rattle.elf_classify.proofs.parts.debug_in.Goals as goal

pub returns-then-kind-eq-ET_REL : goal.returns-then-kind-eq-ET_REL
returns-then-kind-eq-ET_REL c =
    debug_none c.args.file.now c.knows.ensures
    (eq-eqb c.args.file.now.table.e_type ET_REL (sym c.kind.ensures ∙ c.if-kind-eq-ET_REL.true))

pub returns-in-Ok : goal.returns-in-Ok
returns-in-Ok c =
    debug_found c.args.file.now (sections_of c.in-Ok.parts) c.knows.ensures
    (false_from_ne_true (c.args.file.now.table.e_type == ET_REL)
    (λ e. c.if-kind-eq-ET_REL.false (c.kind.ensures ∙ eqb-true c.args.file.now.table.e_type ET_REL e)))
    c.in-Ok.ensures

pub returns-in-Err : goal.returns-in-Err
returns-in-Err c = record {
  of = c.args.file.now.table;
  is_table = c.knows.ensures.is_table;
  linked =
      false_from_ne_true (c.args.file.now.table.e_type == ET_REL)
      (λ e. c.if-kind-eq-ET_REL.false (c.kind.ensures ∙ eqb-true c.args.file.now.table.e_type ET_REL e));
  part = c.in-Err.ensures;
}
