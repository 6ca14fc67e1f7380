-- The table of a file with an identity is there.
use Rattle.std.proofs.Common.{◌≡◌, sym, ◌∙◌, refl, subst, [], ◌∷◌}
use Rattle.std.specs.Prelude.{◌==◌}
use Rattle.std.proofs.lemmas.Bool.{eqb-true, eq-eqb, false_from_ne_true}
use Rattle.std.proofs.lemmas.List.Elements.{All-from_recursion}
use Rattle.file_formats.specs.declared.codes.TheConstants.{ET_REL}
use Rattle.file_picture.specs.declared.view.Need.{Need}
use Rattle.elf_file.specs.Opened.{OpensAs}
use Rattle.elf_file.specs.Steps.{StopsBefore}
use Rattle.elf_classify.proofs.DebugPlaceLemmas.{opens, places_linked, places_none}
use Rattle.elf_classify.proofs.places.debug_places.Goals as goal

pub unreachable-requires : goal.unreachable-requires
unreachable-requires c =
    opens c.args.picture.now c.size-size.ensures.holds c.requires c.in-Err.field-0
    (subst (λ v. StopsBefore v c.in-Err.field-0) c.part.ensures.value c.in-Err.ensures)

pub returns-then-kind-eq-ET_REL : goal.returns-then-kind-eq-ET_REL
returns-then-kind-eq-ET_REL c =
    places_none c.args.picture.now c.size-size.ensures.holds c.requires c.in-Ok.file _
    (subst (λ v. OpensAs v c.in-Ok.file) c.part.ensures.value c.in-Ok.ensures)
    (eq-eqb c.in-Ok.file.table.e_type ET_REL (sym c.kind.ensures ∙ c.if-kind-eq-ET_REL.true))
    (All-from_recursion P (n ∷ n ∷ n ∷ n ∷ n ∷ n ∷ []) (refl, (refl, (refl, (refl, (refl, (refl, tt)))))))
  where
    n : Need
    n = record { at = 0; len = 0 }

    P : Need → Type 0
    P at = at ≡ record { at = 0; len = 0 }

pub returns-else-kind-eq-ET_REL : goal.returns-else-kind-eq-ET_REL
returns-else-kind-eq-ET_REL c =
    places_linked c.args.picture.now c.size-size.ensures.holds c.requires c.in-Ok.file c.places_in.result
    (subst (λ v. OpensAs v c.in-Ok.file) c.part.ensures.value c.in-Ok.ensures)
    (false_from_ne_true (c.in-Ok.file.table.e_type == ET_REL)
    (λ e. c.if-kind-eq-ET_REL.false (c.kind.ensures ∙ eqb-true c.in-Ok.file.table.e_type ET_REL e)))
    c.places_in.ensures
