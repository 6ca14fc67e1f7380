-- The words are read as those of the command.
use Rattle.std.proofs.Common.{◌≡◌, true, map, refl, subst}
use Rattle.std.specs.String.{string_bytes}
use Rattle.clap.specs.Faults.{fault_of, is_simple_and_free}
use Rattle.clap.specs.Kinds.{FailsBy}
use Rattle.clap.specs.Simple.{App}
use Rattle.dbgd_words.specs.Options.{find_app, find_faults, find_rows}
use Rattle.dbgd_words.proofs.ServeLemmas.{has_rows}
use Rattle.dbgd_words.proofs.find.parse.Goals as goal

pub returns-clause-faults : goal.returns-clause-faults
unfolding find_faults
returns-clause-faults c =
    subst (λ (app : App). is_simple_and_free app ≡ true
    → FailsBy (fault_of app (map string_bytes c.args.words.now)) c.try_get_matches_from.result) c.in_ok-command.ensures
    c.try_get_matches_from.ensures.kinds refl

pub returns-clause-rows : goal.returns-clause-rows
unfolding find_rows
returns-clause-rows c =
    has_rows _ find_app (map string_bytes c.args.words.now) c.try_get_matches_from.result c.in_ok-command.ensures refl
    c.try_get_matches_from.ensures.matches
