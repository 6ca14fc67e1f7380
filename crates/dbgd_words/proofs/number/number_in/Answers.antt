use Rattle.std.proofs.Common.{rules, ◌∙◌, sym}
use Rattle.dbgd_words.proofs.TextLemmas.{too_large}
use Rattle.dbgd_words.proofs.number.number_in.Goals as goal

pub returns-in_default-3 : goal.returns-in_default-3
returns-in_default-3 c =
    too_large c.args.least c.args.most c.args.text.now c.in_default.field-0 c.ranges.most.fits
    (sym c.is_number.ensures ∙ search rules) c.in_default.ensures.value.0
