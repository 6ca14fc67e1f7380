-- The selection is the same.
use Rattle.std.proofs.Common.{◌≡◌}
use Rattle.pass_runner.proofs.last_hold.own_miss.Given as goal

abbrev pub invariant-loop-miss : goal.invariant-loop-miss
invariant-loop-miss g l = g.P.Selection.takes l.select ≡ g.P.Selection.takes l.fn.select
