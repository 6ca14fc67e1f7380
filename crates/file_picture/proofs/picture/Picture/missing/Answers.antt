-- What is known ends before the next piece begins.
use Rattle.std.proofs.Common.{◌∙◌, ap, subst, ◌+◌, arith}
use Rattle.file_picture.specs.Picture.{PictureFacts, IsPicture}
use Rattle.file_picture.specs.Pieces.{IsKnownTo, IsNextBegin}
use Rattle.file_picture.proofs.ReadLemmas.{gap_is, gap_some}
use Rattle.file_picture.proofs.picture.Picture.missing.Goals as goal

pub overflow_add-end : goal.overflow_add-end
overflow_add-end c =
    let same = ap (λ (p : PictureFacts). p.size) c.self.view_is in omega (arith, c.requires, same, c.self.invariant.fits)

pub overflow_sub-result : goal.overflow_sub-result
overflow_sub-result c =
    let known = subst (λ ps. IsKnownTo ps c.begun-count.result c.args.at c.known_to-from.result) c.deref-2.ensures.value c.known_to-from.ensures in
    let next = subst (λ ps. IsNextBegin ps c.begun-count.result (c.args.at + c.args.len) c.next_begin-to.result) c.deref-3.ensures.value c.next_begin-to.ensures in
    let some = gap_some c.self.inside.pieces.items c.args.at c.begun-count.result c.known_to-from.result (c.args.at + c.args.len) c.next_begin-to.result
    known c.if-end-from.false next in
    omega (arith, some)

pub returns : goal.returns
returns c =
    let same = ap (λ (p : PictureFacts). p.pieces) c.self.view_is in
    let known = subst (λ ps. IsKnownTo ps c.begun-count.result c.args.at c.known_to-from.result) (c.deref-2.ensures.value ∙ same) c.known_to-from.ensures in
    let next = subst (λ ps. IsNextBegin ps c.begun-count.result (c.args.at + c.args.len) c.next_begin-to.result) (c.deref-3.ensures.value ∙ same) c.next_begin-to.ensures in
    gap_is c.args.self.now (subst IsPicture c.self.view_is c.self.invariant.is) c.args.at c.args.len c.begun-count.result
    c.known_to-from.result c.next_begin-to.result c.requires known c.if-end-from.false next
