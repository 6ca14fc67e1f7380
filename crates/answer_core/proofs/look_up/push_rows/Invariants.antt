-- The files of the rows so far were added; the others are left.
use Rattle.std.proofs.Common.{◌≡◌, ◌++◌, map}
use Rattle.answer_core.specs.Candidates.{as_class}
use Rattle.answer_core.proofs.look_up.push_rows.Given as goal

abbrev pub invariant-loop-row : goal.invariant-loop-row
invariant-loop-row l =
    l.list.items ++ map (as_class l.class) l.rows ≡ l.fn.list.items ++ map (as_class l.class) l.fn.rows
