-- A range is needed where all windows are there.
use Rattle.std.proofs.Common.{sym, ◌∙◌, subst}
use Rattle.std.proofs.lemmas.Bool.{ltb-false}
use Rattle.file_picture.specs.Agrees.{AsksOf}
use Rattle.file_parts.specs.Found.{IsFoundSoFar, SaysBare}
use Rattle.file_parts.specs.Wholes.{needs_of}
use Rattle.file_parts.proofs.FoundLemmas.{asked_fits, bare_decides, knows_of, read_of, rest_may}
use Rattle.file_parts.proofs.found.decide_rest.Goals as goal

pub is_bare-requires : goal.is_bare-requires
is_bare-requires c = λ debug. (
  knows_of c.args.picture.now c.args.need.at c.args.need.len c.size-size.ensures.holds c.requires.windows
      (subst (λ which. AsksOf (needs_of which) c.args.picture.now c.args.need.at c.args.need.len) debug c.requires.asks),
  read_of c.args.picture.now (subst (λ which. IsFoundSoFar (needs_of which) c.args.picture.now) debug c.requires.read),
)

pub is_too_much-requires : goal.is_too_much-requires
is_too_much-requires c =
    asked_fits c.args.part c.args.picture.now c.args.need.at c.args.need.len c.size-size.ensures.holds c.requires.asks

pub returns-then-is_bare : goal.returns-then-is_bare
returns-then-is_bare c =
    bare_decides c.args.part c.args.picture.now c.requires.windows
    (subst (SaysBare c.args.part c.args.picture.now) c.if-is_bare.true c.is_bare.ensures)

pub returns : goal.returns
returns c = (
  c.requires.asks,
  rest_may c.args.picture.now c.args.need.at c.args.need.len c.requires.windows
      (ltb-false _ _ (sym c.is_too_much.ensures ∙ c.if-is_too_much.false)),
  c.requires.passed,
)
