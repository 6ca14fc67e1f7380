-- The pieces are those of the picture.
use Rattle.std.proofs.Common.{◌∙◌, ap, arith}
use Rattle.file_picture.specs.Picture.{PictureFacts}
use Rattle.file_picture.proofs.DifferenceLemmas.{none_differ, some_differ}
use Rattle.file_picture.proofs.picture.Picture.difference.Goals as goal

pub first_difference-requires-clause-fits : goal.first_difference-requires-clause-fits
first_difference-requires-clause-fits c =
    let same = ap (λ (p : PictureFacts). p.size) c.self.view_is in
    omega (arith, c.requires.inside, same, c.self.invariant.fits)

pub returns-clause-none : goal.returns-clause-none
returns-clause-none c =
    none_differ c.args.self.now c.deref.result.now c.args.at c.args.bytes.now c.first_difference.result
    (c.deref.ensures.value ∙ ap (λ (p : PictureFacts). p.pieces) c.self.view_is) c.first_difference.ensures

pub returns-clause-some : goal.returns-clause-some
returns-clause-some c =
    some_differ c.args.self.now c.deref.result.now c.args.at c.args.bytes.now c.first_difference.result
    (c.deref.ensures.value ∙ ap (λ (p : PictureFacts). p.pieces) c.self.view_is) c.first_difference.ensures
