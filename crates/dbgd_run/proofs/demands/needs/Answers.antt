-- A line that was read fits its limits.
use Rattle.std.proofs.Common.{sym, subst}
use Rattle.std.specs.Prelude.{map}
use Rattle.std.specs.String.{string_bytes}
use Rattle.dbgd_words.specs.Limits.{FitsLimits}
use Rattle.dbgd_words.proofs.LimitLemmas.{line_fits}
use Rattle.dbgd_run.proofs.demands.needs.Goals as goal

pub doors_for-doors-requires : goal.doors_for-doors-requires
doors_for-doors-requires c =
    subst FitsLimits (sym c.in_ok-line.ensures.line) (line_fits (map string_bytes c.args.words.now))
