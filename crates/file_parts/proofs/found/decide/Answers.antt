-- A window is needed, or none is.
use Rattle.std.proofs.Common.{sym, ◌∙◌}
use Rattle.std.proofs.lemmas.Bool.{ltb-true, ltb-false}
use Rattle.file_parts.proofs.FoundLemmas.{asked_fits, whole_decides, window_asked_of, window_decides, window_may}
use Rattle.file_parts.specs.declared.part.FilePart.TheVariants as part
use Rattle.file_parts.proofs.found.decide.Goals as goal

pub is_too_much-requires : goal.is_too_much-requires
is_too_much-requires c =
    asked_fits part.Identity c.args.picture.now c.in-Window.need.at c.in-Window.need.len c.size-size.ensures.holds c.in-Window.ensures.0

pub returns-in-Whole : goal.returns-in-Whole
returns-in-Whole c = whole_decides c.args.part c.args.picture.now c.in-Whole.ensures

pub returns-then-is_too_much : goal.returns-then-is_too_much
returns-then-is_too_much c =
    window_decides c.args.part c.args.picture.now c.in-Window.need.at c.in-Window.need.len c.requires.read c.in-Window.ensures.0
    (ltb-true _ _ (sym c.is_too_much.ensures ∙ c.if-is_too_much.true))

pub returns-else-is_too_much : goal.returns-else-is_too_much
returns-else-is_too_much c = (
  window_asked_of c.args.part c.args.picture.now c.in-Window.need.at c.in-Window.need.len c.in-Window.ensures.0,
  window_may c.args.picture.now c.in-Window.need.at c.in-Window.need.len c.in-Window.ensures.0
      (ltb-false _ _ (sym c.is_too_much.ensures ∙ c.if-is_too_much.false)),
  c.in-Window.ensures.1,
)
