-- The text has the rows so far.
use Rattle.std.proofs.Common.{◌≡◌}
use Rattle.std.specs.String.{string_bytes}
use Rattle.sample_rows.specs.Rows.{names_text}
use Rattle.sample_rows.proofs.texts.rows_text.Given as goal

abbrev pub invariant-loop-row : goal.invariant-loop-row
invariant-loop-row g l = string_bytes l.text ≡ names_text l.yielded
