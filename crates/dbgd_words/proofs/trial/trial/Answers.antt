use Rattle.std.proofs.Common.{rules, ◌≢◌, ◌<◌, ◌∙◌, sym, map, length, arith}
use Rattle.std.specs.String.{string_bytes}
use Rattle.std.proofs.lemmas.List.{length-map}
use Rattle.dbgd_words.proofs.TrialLemmas.{no_three}
use Rattle.dbgd_words.proofs.trial.trial.Goals as goal
use Rattle.dbgd_words.proofs.trial.trial.Goals.{in_default-via-then-words-lt3, in_default-via-else-words-lt3+else-words-lt4}

pub returns-in_default : goal.returns-in_default
returns-in_default c =
    let other : length c.args.words.now ≢ 3 = elim c.in_default.branch [
      | in_default-via-then-words-lt3 w ↦ let low : length c.args.words.now < 3 = search rules in λ e. omega (arith, e, low)
      | in_default-via-else-words-lt3+else-words-lt4 w ↦ let high : 3 < length c.args.words.now = search rules in λ e. omega (arith, e, high)
    ] in
    no_three (map string_bytes c.args.words.now) (λ e. other (sym (length-map c.args.words.now string_bytes) ∙ e))
