-- Each run is the first of the range that isn't known, until none is left or one stops.
use Rattle.std.proofs.Common.{◌≡◌, ◌+◌, ◌-◌, true, refl, sym, ◌∙◌, ap, subst, arith}
use Rattle.file_picture.specs.Counts.{is_known}
use Rattle.file_picture.specs.Picture.{IsCovered, IsFirstGap, IsRangeFree, sum_of}
use Rattle.tree_trait.specs.Fills.{RunEnds}
use Rattle.tree_trait.specs.declared.filling.FillAnswer.TheVariants.{Done, Failed, OutOfMemory}
use Rattle.tree_trait.proofs.FillLemmas.{all_known, all_rises, fills_all, fills_more, fills_none, fills_stopped, rest_none}
use Rattle.tree_trait.proofs.filling.fill.Goals as goal

pub loop-done-init : goal.loop-done-init
loop-done-init g c =
    (fills_none (omega (arith, c.requires.inside, c.knows.ensures.holds.sized)), refl, c.requires.name)

pub overflow_add-from : goal.overflow_add-from
overflow_add-from g c = omega (arith, c.requires.inside, c.knows.ensures.fits, c.loop-done.invariant.0.low)

pub overflow_sub-rest : goal.overflow_sub-rest
overflow_sub-rest g c = omega (arith, c.loop-done.invariant.0.low)

pub missing-requires : goal.missing-requires
missing-requires g c =
    let value = ap (λ p. p.size) c.picture.ensures.value in
    let sized = c.picture.ensures.holds.sized in
    let same = ap (λ name. name.stamp.size) c.loop-done.invariant.1 in
    omega (arith, value, sized, same, c.requires.inside, c.loop-done.invariant.0.low)

pub fill_run-requires-clause-some : goal.fill_run-requires-clause-some
fill_run-requires-clause-some g c = λ κs within. c.in-Some.ensures.some

pub fill_run-requires-clause-inside : goal.fill_run-requires-clause-inside
fill_run-requires-clause-inside g c = λ κs within.
    let same = ap (λ name. name.stamp.size) c.loop-done.invariant.1 in
    omega (arith, same, c.requires.inside, c.loop-done.invariant.0.low, c.in-Some.ensures.below)

pub fill_run-requires-clause-free : goal.fill_run-requires-clause-free
fill_run-requires-clause-free g c = λ κs within.
    subst (λ p. IsRangeFree p c.in-Some.place c.in-Some.count) c.picture.ensures.value c.in-Some.ensures.gap

pub fill_run-requires-clause-name : goal.fill_run-requires-clause-name
fill_run-requires-clause-name g c = λ κs within. c.loop-done.invariant.2

pub overflow_add-done : goal.overflow_add-done
overflow_add-done g c =
    omega (arith, c.requires.inside, c.knows.ensures.fits, c.loop-done.invariant.0.low, c.in-Some.ensures.below)

pub overflow_sub-done : goal.overflow_sub-done
overflow_sub-done g c = omega (arith, c.in-Some.ensures.above)

pub loop-done-preserved : goal.loop-done-preserved
loop-done-preserved g c =
    let gap = subst (λ p. IsFirstGap p (c.args.at + c.loop-done.done) (c.args.len - c.loop-done.done) c.in-Some.place c.in-Some.count)
    c.picture.ensures.value c.in-Some.ensures in
    let run = c.in-Done.ensures.reads in
    let ends = subst (λ name. RunEnds name c.in-Some.place c.in-Some.count c.loop-done.opened.picture c.fill_run.new.opened.picture Done run.0)
    c.loop-done.invariant.1 run.2 in (
      fills_more (omega (arith, c.requires.inside, c.knows.ensures.holds.sized)) c.loop-done.invariant.0 gap run.1 ends,
      c.in-Done.ensures.name ∙ c.loop-done.invariant.1,
      c.in-Done.ensures.opened,
    )

pub loop-done-smaller : goal.loop-done-smaller
loop-done-smaller g c =
    omega (arith, c.in-Some.ensures.above, c.in-Some.ensures.some, c.in-Some.ensures.below, c.loop-done-test.true)

pub returns-in_default-clause-reads : goal.returns-in_default-clause-reads
returns-in_default-clause-reads g c =
    fills_all c.loop-done.invariant.0
    (subst (λ p. IsCovered p (c.args.at + c.loop-done.done) (c.args.len - c.loop-done.done)) c.picture.ensures.value c.in_default.ensures)

pub returns-in_default-clause-keeps : goal.returns-in_default-clause-keeps
returns-in_default-clause-keeps g c = c.loop-done.invariant.0.keeps

pub returns-in_default-clause-only : goal.returns-in_default-clause-only
returns-in_default-clause-only g c = c.loop-done.invariant.0.only

pub returns-in_default-clause-sum : goal.returns-in_default-clause-sum
returns-in_default-clause-sum g c = c.loop-done.invariant.0.sum

pub returns-in_default-clause-done : goal.returns-in_default-clause-done
returns-in_default-clause-done g c = λ _.
    all_known c.loop-done.invariant.0
    (subst (λ p. IsCovered p (c.args.at + c.loop-done.done) (c.args.len - c.loop-done.done)) c.picture.ensures.value c.in_default.ensures)

pub returns-in_default-clause-rises : goal.returns-in_default-clause-rises
returns-in_default-clause-rises g c = λ _.
    all_rises c.loop-done.invariant.0
    (subst (λ p. IsCovered p (c.args.at + c.loop-done.done) (c.args.len - c.loop-done.done)) c.picture.ensures.value c.in_default.ensures)

pub returns-clause-reads : goal.returns-clause-reads
returns-clause-reads g c =
    fills_all c.loop-done.invariant.0
    (rest_none (omega (arith, c.requires.inside, c.knows.ensures.holds.sized)) c.loop-done.invariant.0
    (omega (arith, c.loop-done-test.false)))

pub returns-clause-keeps : goal.returns-clause-keeps
returns-clause-keeps g c = c.loop-done.invariant.0.keeps

pub returns-clause-only : goal.returns-clause-only
returns-clause-only g c = c.loop-done.invariant.0.only

pub returns-clause-sum : goal.returns-clause-sum
returns-clause-sum g c = c.loop-done.invariant.0.sum

pub returns-clause-done : goal.returns-clause-done
returns-clause-done g c = λ _.
    all_known c.loop-done.invariant.0
    (rest_none (omega (arith, c.requires.inside, c.knows.ensures.holds.sized)) c.loop-done.invariant.0
    (omega (arith, c.loop-done-test.false)))

pub returns-clause-rises : goal.returns-clause-rises
returns-clause-rises g c = λ _.
    all_rises c.loop-done.invariant.0
    (rest_none (omega (arith, c.requires.inside, c.knows.ensures.holds.sized)) c.loop-done.invariant.0
    (omega (arith, c.loop-done-test.false)))

pub returns-in-Failed-clause-reads : goal.returns-in-Failed-clause-reads
returns-in-Failed-clause-reads g c =
    let gap = subst (λ p. IsFirstGap p (c.args.at + c.loop-done.done) (c.args.len - c.loop-done.done) c.in-Some.place c.in-Some.count)
    c.picture.ensures.value c.in-Some.ensures in
    let run = c.in-Failed.ensures.reads in
    let ends = subst (λ name. RunEnds name c.in-Some.place c.in-Some.count c.loop-done.opened.picture c.fill_run.new.opened.picture Failed run.0)
    c.loop-done.invariant.1 run.2 in
    fills_stopped Failed (λ e. absurd (cc)) c.loop-done.invariant.0 gap run.1 ends

pub returns-in-Failed-clause-name : goal.returns-in-Failed-clause-name
returns-in-Failed-clause-name g c = c.in-Failed.ensures.name ∙ c.loop-done.invariant.1

pub returns-in-Failed-clause-opened : goal.returns-in-Failed-clause-opened
returns-in-Failed-clause-opened g c = c.in-Failed.ensures.opened

pub returns-in-Failed-clause-keeps : goal.returns-in-Failed-clause-keeps
returns-in-Failed-clause-keeps g c = λ from n covered.
    subst (λ p. IsCovered p from n) (sym c.in-Failed.ensures.reads.2.0) (c.loop-done.invariant.0.keeps from n covered)

pub returns-in-Failed-clause-only : goal.returns-in-Failed-clause-only
returns-in-Failed-clause-only g c = λ place known.
    c.loop-done.invariant.0.only place (subst (λ p. is_known p place ≡ true) c.in-Failed.ensures.reads.2.0 known)

pub returns-in-Failed-clause-sum : goal.returns-in-Failed-clause-sum
returns-in-Failed-clause-sum g c =
    let same = ap (λ p. sum_of p.pieces) c.in-Failed.ensures.reads.2.0 in
    omega (arith, same, c.loop-done.invariant.0.sum)

pub returns-in-OutOfMemory-clause-reads : goal.returns-in-OutOfMemory-clause-reads
returns-in-OutOfMemory-clause-reads g c =
    let gap = subst (λ p. IsFirstGap p (c.args.at + c.loop-done.done) (c.args.len - c.loop-done.done) c.in-Some.place c.in-Some.count)
    c.picture.ensures.value c.in-Some.ensures in
    let run = c.in-OutOfMemory.ensures.reads in
    let ends = subst (λ name. RunEnds name c.in-Some.place c.in-Some.count c.loop-done.opened.picture c.fill_run.new.opened.picture OutOfMemory run.0)
    c.loop-done.invariant.1 run.2 in
    fills_stopped OutOfMemory (λ e. absurd (cc)) c.loop-done.invariant.0 gap run.1 ends

pub returns-in-OutOfMemory-clause-name : goal.returns-in-OutOfMemory-clause-name
returns-in-OutOfMemory-clause-name g c = c.in-OutOfMemory.ensures.name ∙ c.loop-done.invariant.1

pub returns-in-OutOfMemory-clause-opened : goal.returns-in-OutOfMemory-clause-opened
returns-in-OutOfMemory-clause-opened g c = c.in-OutOfMemory.ensures.opened

pub returns-in-OutOfMemory-clause-keeps : goal.returns-in-OutOfMemory-clause-keeps
returns-in-OutOfMemory-clause-keeps g c = λ from n covered.
    subst (λ p. IsCovered p from n) (sym c.in-OutOfMemory.ensures.reads.2.0) (c.loop-done.invariant.0.keeps from n covered)

pub returns-in-OutOfMemory-clause-only : goal.returns-in-OutOfMemory-clause-only
returns-in-OutOfMemory-clause-only g c = λ place known.
    c.loop-done.invariant.0.only place (subst (λ p. is_known p place ≡ true) c.in-OutOfMemory.ensures.reads.2.0 known)

pub returns-in-OutOfMemory-clause-sum : goal.returns-in-OutOfMemory-clause-sum
returns-in-OutOfMemory-clause-sum g c =
    let same = ap (λ p. sum_of p.pieces) c.in-OutOfMemory.ensures.reads.2.0 in
    omega (arith, same, c.loop-done.invariant.0.sum)

pub returns-in-Failed-clause-failed : goal.returns-in-Failed-clause-failed
returns-in-Failed-clause-failed g c = λ _.
    let rose = c.in-Failed.ensures.failed refl in
    omega (arith, rose, c.loop-done.invariant.0.hears.hand.cause.later)
