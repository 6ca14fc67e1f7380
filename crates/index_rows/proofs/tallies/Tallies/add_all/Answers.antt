-- A path of the list is counted as often as it is listed, once at most.
use Rattle.std.proofs.Common.{ℕ, ◌+◌, List, ◌∷◌, drop, ap, arith}
use Rattle.index_rows.specs.Tallies.{times_of}
use Rattle.index_rows.proofs.TalliesLemmas.{from_place, one_itself, times_itself, times_once}
use Rattle.index_rows.proofs.tallies.Tallies.add_all.Goals as goal

pub add-requires-clause-fits : goal.add-requires-clause-fits
add-requires-clause-fits c =
    let rest = drop (c.loop-path.path-index + 1) c.args.paths.now in
    let path = c.path-item.result in
    let left = from_place c.args.paths.now c.loop-path.path-index c.path-item.result (omega arith) c.path-item.is in
    omega (
      arith,
      c.loop-path.invariant.counts c.args.id.now path,
      ap (λ (l : List (List ℕ)). times_of c.args.id.now l c.args.id.now path) left,
      times_itself c.args.id.now (path ∷ rest) path,
      one_itself path,
      times_itself c.args.id.now c.args.paths.now path,
      times_once c.args.paths.now path c.requires.ascends,
      c.requires.fits c.args.id.now path,
    )
