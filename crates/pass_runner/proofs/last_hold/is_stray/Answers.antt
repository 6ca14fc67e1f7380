-- A path without a stamp in the listing, in the scope.
use Rattle.std.proofs.Common.{sym, ◌∙◌}
use Rattle.pass_runner.proofs.last_hold.is_stray.Goals as goal

pub returns-in-Ok-clause-stray : goal.returns-in-Ok-clause-stray
returns-in-Ok-clause-stray g c = λ yes.
    record {
      short = c.text-text.ensures.canonical.short;
      unlisted = sym c.in-None.ensures.value;
      inside = sym c.in-Ok.ensures.value ∙ yes;
    }
