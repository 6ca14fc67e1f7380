-- The three together end where the last piece does.
use Rattle.std.proofs.Common.{ap, length, ◌∙◌}
use Rattle.file_picture.proofs.PutLemmas.{span_fits}
use Rattle.file_picture.proofs.joins.span.Goals as goal

pub append-requires-clause-fits : goal.append-requires-clause-fits
append-requires-clause-fits c =
    let long = ap length (c.deref-else-len.ensures.value ∙ c.in_ok-back.ensures) in
    λ d. span_fits c.args.pieces.now.items c.args.index d c.index-after.result.now c.args.bytes.now c.bytes-else-len.result.now
    c.deref-else-len.result.now (c.requires.touch d) c.index-after.ensures c.requires.below c.bytes-else-len.ensures long c.len-2.ensures.fits
