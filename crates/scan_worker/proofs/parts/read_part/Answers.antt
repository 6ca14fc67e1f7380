-- The part was filled, or what was read of it is told.
use Rattle.std.proofs.Common.{◌+◌, ◌∙◌, inr, refl, ap, subst, arith}
use Rattle.file_picture.proofs.PassedLaws.{passed-more}
use Rattle.file_picture.specs.Picture.{PictureFacts, IsPicture, sum_of}
use Rattle.row_types.specs.Name.{NameFacts}
use Rattle.tree_trait.specs.Fills.{FillsRange}
use Rattle.tree_trait.specs.declared.filling.FillAnswer.TheVariants.{Done, Failed, OutOfMemory}
use Rattle.scan_worker.proofs.PartLemmas.{filled_so_far, part_fits}
use Rattle.scan_worker.proofs.parts.read_part.Goals as goal

pub fill-requires-clause-inside : goal.fill-requires-clause-inside
fill-requires-clause-inside g c = λ κs within. part_fits c.knows.ensures.holds c.requires.asks

pub fill-requires-clause-name : goal.fill-requires-clause-name
fill-requires-clause-name g c = λ κs within. c.requires.file

pub returns-in-Done-clause-step : goal.returns-in-Done-clause-step
returns-in-Done-clause-step g c = record {
  same = refl;
  part = record {
    at = c.args.at;
    len = c.args.len;
    asks = c.requires.asks;
    fills = subst (λ (n : NameFacts). FillsRange g.T.Tree.told g.W.Truth.version (g.T.Tree.shows c.args.hand.now)
        (g.T.Tree.shows c.fill.new.hand) n c.args.opened.now.picture c.fill.new.opened.picture c.args.at
        (c.args.at + c.args.len) Done) c.requires.name c.in-Done.ensures.reads;
  };
  rises = c.in-Done.ensures.rises refl c.requires.asks.gone;
  within =
      let value = c.bytes-known.ensures.value in
      let most = c.bytes-known.ensures.within in
      let sum = ap (λ (p : PictureFacts). sum_of p.pieces) c.picture.ensures.value in
      let size = ap (λ (p : PictureFacts). p.size) c.picture.ensures.value in
      let sized = c.picture.ensures.holds.sized in
      let same = ap (λ (n : NameFacts). n.stamp.size) (c.in-Done.ensures.name ∙ c.requires.name) in
      omega (arith, value, most, sum, size, sized, same);
}

pub returns-in-Done-clause-passed : goal.returns-in-Done-clause-passed
returns-in-Done-clause-passed g c = λ i passed. passed-more c.in-Done.ensures.reads.less c.in-Done.ensures.keeps passed

pub returns-in-Done-clause-read : goal.returns-in-Done-clause-read
returns-in-Done-clause-read g c =
    filled_so_far (subst IsPicture c.picture-in-Done.ensures.value c.size-size.ensures.holds)
    (let before = c.knows.ensures.holds.sized in
    let after = ap (λ (p : PictureFacts). p.size) c.picture.ensures.value in
    let sized = c.picture.ensures.holds.sized in
    let same = ap (λ (n : NameFacts). n.stamp.size) c.in-Done.ensures.name in
    omega (arith, before, after, sized, same))
    c.requires.read c.requires.asks c.requires.next c.in-Done.ensures.only c.in-Done.ensures.keeps c.in-Done.ensures.reads.less

pub returns-in-Failed-clause-step : goal.returns-in-Failed-clause-step
returns-in-Failed-clause-step g c = (
  record {
    new = c.fill.new.opened.picture;
    part = record {
      at = c.args.at;
      len = c.args.len;
      asks = c.requires.asks;
      fills = subst (λ (n : NameFacts). FillsRange g.T.Tree.told g.W.Truth.version (g.T.Tree.shows c.args.hand.now)
          (g.T.Tree.shows c.fill.new.hand) n c.args.opened.now.picture c.fill.new.opened.picture c.args.at
          (c.args.at + c.args.len) Failed) c.requires.name c.in-Failed.ensures.reads;
    };
  },
  c.in-Failed.ensures.failed refl,
)

pub returns-in-OutOfMemory-clause-step : goal.returns-in-OutOfMemory-clause-step
returns-in-OutOfMemory-clause-step g c = inr (record {
  new = c.fill.new.opened.picture;
  part = record {
    at = c.args.at;
    len = c.args.len;
    asks = c.requires.asks;
    fills = subst (λ (n : NameFacts). FillsRange g.T.Tree.told g.W.Truth.version (g.T.Tree.shows c.args.hand.now)
        (g.T.Tree.shows c.fill.new.hand) n c.args.opened.now.picture c.fill.new.opened.picture c.args.at
        (c.args.at + c.args.len) OutOfMemory) c.requires.name c.in-OutOfMemory.ensures.reads;
  };
})
