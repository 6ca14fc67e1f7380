use Rattle.std.proofs.lemmas.List.{take_rest}
use Rattle.http_wire.proofs.Pieces.{gets_more}
use Rattle.http_wire.proofs.sink.write_all.Goals as goal

pub loop-at-preserved : goal.loop-at-preserved
loop-at-preserved g c =
    gets_more c.args.bytes.now c.loop-at.at c.in-Took.n c.loop-at.invariant
    (rw (take_rest c.args.bytes.now c.loop-at.at) at c.in-Took.ensures.writes)
