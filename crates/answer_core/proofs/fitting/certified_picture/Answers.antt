-- All windows are there, so none is needed; and what is refused isn't certified.
use Rattle.answer_core.proofs.FitLemmas.{none_certified}
use Rattle.answer_core.proofs.fitting.certified_picture.Goals as goal

pub returns-in-Ok-clause-some : goal.returns-in-Ok-clause-some
returns-in-Ok-clause-some c = record { is = c.in-Ok.ensures.ok; certified = c.in-Ok.ensures.certified.is }

pub returns-clause-none : goal.returns-clause-none
returns-clause-none c =
    none_certified c.args.kind c.args.id.now c.args.picture _ c.size-size.ensures.holds c.requires c.in-Err.ensures.fault
