-- The bytes are among the pieces, and no more are known than the file has.
use Rattle.std.proofs.Common.{rules, ◌≡◌, ap, length, arith}
use Rattle.file_picture.specs.Picture.{PictureFacts}
use Rattle.file_picture.proofs.AddLemmas.{put_picture}
use Rattle.file_picture.proofs.ReadLemmas.{sum_small}
use Rattle.file_picture.proofs.picture.Picture.add.Goals as goal

pub overflow_add-self : goal.overflow_add-self
overflow_add-self c =
    let same = ap (λ (p : PictureFacts). p.size) c.self.view_is in
    let long : c.len-len.result ≡ length c.args.bytes.items = search rules in
    let small = sum_small _ (put_picture c.self.inside.size c.self.inside.pieces.items c.args.at c.args.bytes.items c.put.new.pieces.items
    c.self.invariant.is (omega (arith, same, c.requires.inside)) c.in_ok-put.ensures.ok) in
    omega (arith, long, small, c.self.invariant.sum_is, c.self.invariant.fits, c.in_ok-put.ensures.ok.sum)

pub invariant_of-self-2 : goal.invariant_of-self-2
invariant_of-self-2 c =
    let same = ap (λ (p : PictureFacts). p.size) c.self.view_is in
    let long : c.len-len.result ≡ length c.args.bytes.items = search rules in
    record {
      is = put_picture c.self.inside.size c.self.inside.pieces.items c.args.at c.args.bytes.items c.put.new.pieces.items c.self.invariant.is
          (omega (arith, same, c.requires.inside)) c.in_ok-put.ensures.ok;
      sum_is = omega (arith, long, c.self.invariant.sum_is, c.in_ok-put.ensures.ok.sum);
      fits = c.self.invariant.fits;
    }
