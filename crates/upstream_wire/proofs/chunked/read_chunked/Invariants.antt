use Rattle.upstream_wire.proofs.ChunkedLemmas.{IsSoFar}
use Rattle.upstream_wire.proofs.chunked.read_chunked.Given as goal

abbrev pub invariant-loop-size : goal.invariant-loop-size
invariant-loop-size g l =
    IsSoFar l.fn.room (g.S.Stream.shows l.fn.source) l.room (g.S.Stream.shows l.source) l.body.items l.left

abbrev pub decreases-loop-size : goal.decreases-loop-size
decreases-loop-size g l = l.left
