-- Each path so far stands after each one before it.
use Rattle.row_types.proofs.AscendsLemmas.{AscendsBelow}
use Rattle.row_types.proofs.sources.ascends.Given as goal

abbrev pub invariant-loop-i : goal.invariant-loop-i
invariant-loop-i l = AscendsBelow (λ path. path) l.paths l.i
