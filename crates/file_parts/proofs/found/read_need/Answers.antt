-- What the filling leaves.
use Rattle.std.proofs.Common.{ap, subst, arith}
use Rattle.file_picture.specs.Picture.{PictureFacts, IsPicture}
use Rattle.file_picture.proofs.PassedLaws.{passed-more}
use Rattle.row_types.specs.Name.{NameFacts}
use Rattle.file_parts.proofs.FoundLemmas.{found_keeps}
use Rattle.file_parts.proofs.KnownLemmas.{need_fits}
use Rattle.file_parts.proofs.found.read_need.Goals as goal

pub fill-requires-clause-inside : goal.fill-requires-clause-inside
fill-requires-clause-inside g c = λ κs within. need_fits c.args.part c.knows.ensures.holds c.requires.asks

pub returns-in-Done-clause-passed : goal.returns-in-Done-clause-passed
returns-in-Done-clause-passed g c = λ i passed. passed-more c.in-Done.ensures.reads.less c.in-Done.ensures.keeps passed

pub returns-in-Done-clause-read : goal.returns-in-Done-clause-read
returns-in-Done-clause-read g c =
    found_keeps c.args.part c.args.opened.now.picture c.args.need.at c.args.need.len c.fill.new.opened.picture c.requires.read c.requires.asks c.requires.may
    (record {
      is = subst IsPicture c.picture.ensures.value c.size-size.ensures.holds;
      size =
          let before = c.knows.ensures.holds.sized in
          let after = ap (λ (p : PictureFacts). p.size) c.picture.ensures.value in
          let sized = c.picture.ensures.holds.sized in
          let same = ap (λ (n : NameFacts). n.stamp.size) c.in-Done.ensures.name in
          omega (arith, before, after, sized, same);
      only = c.in-Done.ensures.only;
      keeps = c.in-Done.ensures.keeps;
      less = c.in-Done.ensures.reads.less;
    })
