-- The sources so far, and those of the rows that are left, are those of all rows; each row adds fewer than 2^64.
use Rattle.std.proofs.Common.{◌≡◌, ◌≤◌, ◌+◌, ◌*◌, length}
use Rattle.std.specs.Prelude.{◌^◌}
use Rattle.dbgd_commands.specs.Trial.{sources_in}
use Rattle.dbgd_commands.proofs.trial_sum.sources_in.Given as goal

abbrev pub invariant-loop-listed : goal.invariant-loop-listed
invariant-loop-listed g l = record {
  sum : l.sources + sources_in l.listed-iterator ≡ sources_in l.fn.state.rows;
  few : l.sources + 2 ^ 64 * length l.listed-iterator ≤ 2 ^ 64 * length l.fn.state.rows;
}
