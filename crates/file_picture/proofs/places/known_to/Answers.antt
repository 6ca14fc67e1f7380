-- The last piece that begins decides.
use Rattle.std.proofs.Common.{◌≡◌, ◌∙◌, ap, max, arith}
use Rattle.file_picture.specs.Picture.{piece_end}
use Rattle.file_picture.proofs.ReadLemmas.{known_by}
use Rattle.file_picture.proofs.places.known_to.Goals as goal

pub returns : goal.returns
returns c =
    let top : c.max.result ≡ max (piece_end c.index-pieces-count.result) c.args.at =
    c.max.ensures ∙ ap (λ n. max n c.args.at) c.end.ensures.value in
    known_by c.args.pieces.now c.args.count c.args.at c.max.result c.index-pieces-count.result c.requires.apart c.requires.begun
    (omega (arith, c.if-count-eq0.false)) c.index-pieces-count.is top
