use Rattle.std.proofs.Common.{inl, inr, refl, subst, sym}
use Rattle.std.specs.Prelude.{map, vec_len}
use Rattle.std.specs.String.{string_bytes}
use Rattle.dbgd_words.specs.Limits.{FitsLimits}
use Rattle.dbgd_words.specs.Words.{Line}
use Rattle.dbgd_words.proofs.LimitLemmas.{line_fits}
use Rattle.dbgd_run.specs.Needs.{HasEnough, HasHand}
use Rattle.dbgd_run.proofs.outside.run_words.Goals as goal

pub returns-in-Ok-clause-law : goal.returns-in-Ok-clause-law
returns-in-Ok-clause-law g c = inl (rw (← c.in-Ok.ensures.line) c.run_line.ensures.law)

pub returns-in-Err-clause-law : goal.returns-in-Err-clause-law
returns-in-Err-clause-law g c =
    inr (record { options = c.in-Err.ensures.memory; alone = record { says = c.say_no_memory.ensures; hands = refl; store = refl }; rest = record { doors = refl; links = refl; woke = refl; cache = refl } })

pub run_line-requires-clause-fits : goal.run_line-requires-clause-fits
run_line-requires-clause-fits g c = λ κs within.
    subst FitsLimits (sym c.in-Ok.ensures.line) (line_fits (map string_bytes c.args.words.now))

pub run_line-requires-clause-enough : goal.run_line-requires-clause-enough
run_line-requires-clause-enough g c = λ κs within.
    subst (λ (line : Line). HasEnough line (vec_len c.args.outside.now.hands) (vec_len c.args.outside.now.doors) c.args.outside.now.links.items) (sym c.in-Ok.ensures.line)
    c.requires.enough

pub run_line-requires-clause-hand : goal.run_line-requires-clause-hand
run_line-requires-clause-hand g c = λ κs within.
    subst (λ (line : Line). HasHand line (vec_len c.args.outside.now.hands)) (sym c.in-Ok.ensures.line) c.requires.hand
