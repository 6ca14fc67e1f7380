-- Each path so far has a number.
use Rattle.std.proofs.Common.{ℕ, List, ◌<◌, get_or}
use Rattle.index_rows.specs.Tally.{HasPlace}
use Rattle.index_rows.proofs.merge.have_places.Given as goal

abbrev pub invariant-loop-path : goal.invariant-loop-path
invariant-loop-path l = (k : ℕ) (d : List ℕ) → k < l.path-index → HasPlace (get_or l.paths k d) l.entries
