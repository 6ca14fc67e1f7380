-- No more bytes are known than the file has.
use Rattle.std.proofs.Common.{ap, arith}
use Rattle.file_picture.specs.Picture.{PictureFacts}
use Rattle.file_picture.proofs.ReadLemmas.{sum_small}
use Rattle.file_picture.proofs.picture.Picture.bytes.Goals as goal

pub returns-clause-within : goal.returns-clause-within
returns-clause-within c =
    let small = sum_small _ c.self.invariant.is in
    let same = ap (λ (p : PictureFacts). p.size) c.self.view_is in
    omega (arith, small, c.self.invariant.sum_is, same)
