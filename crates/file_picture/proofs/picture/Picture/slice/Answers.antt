-- The last piece that begins by the place decides.
use Rattle.std.proofs.Common.{◌-◌, ◌∙◌, ap, subst, get_or, arith}
use Rattle.file_picture.specs.Picture.{PictureFacts, IsPicture}
use Rattle.file_picture.specs.Pieces.{IsBegun}
use Rattle.file_picture.proofs.ReadLemmas.{none_begun, slice_is}
use Rattle.file_picture.proofs.picture.Picture.slice.Goals as goal

pub returns-then-count-eq0 : goal.returns-then-count-eq0
returns-then-count-eq0 c =
    let same = c.deref.ensures.value ∙ ap (λ (p : PictureFacts). p.pieces) c.self.view_is in
    none_begun c.args.self.now c.args.at c.args.len c.begun-count.result c.if-len-eq0.false c.if-count-eq0.true
    (subst (λ ps. IsBegun ps c.args.at c.begun-count.result) same c.begun-count.ensures)

pub returns : goal.returns
returns c =
    let pieces = ap (λ (p : PictureFacts). p.pieces) c.self.view_is in
    let begun = subst (λ ps. IsBegun ps c.args.at c.begun-count.result) (c.deref.ensures.value ∙ pieces) c.begun-count.ensures in
    slice_is c.args.self.now (subst IsPicture c.self.view_is c.self.invariant.is) c.args.at c.args.len c.begun-count.result
    c.index.result.now c.if-len-eq0.false (omega (arith, c.if-count-eq0.false)) begun
    (c.index.ensures ∙ ap (λ ps. get_or ps (c.begun-count.result - 1) c.index.result.now) pieces) c.slice.result c.slice.ensures
