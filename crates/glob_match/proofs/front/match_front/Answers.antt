use Rattle.std.proofs.Common.{◌∙◌, sym}
use Rattle.glob_match.proofs.FrontLemmas.{ended, fits_on, takes_none, too_short}
use Rattle.glob_match.proofs.front.match_front.Goals as goal

pub returns-then-is_empty : goal.returns-then-is_empty
returns-then-is_empty c =
    c.loop-wanted.invariant.same ∙ (ended c.loop-wanted.pattern.now c.loop-wanted.text.now (c.in_default.ensures.cases)
    ∙ (sym c.is_empty.ensures ∙ c.if-is_empty.true))

pub returns-else-is_empty : goal.returns-else-is_empty
returns-else-is_empty c =
    c.loop-wanted.invariant.same ∙ (ended c.loop-wanted.pattern.now c.loop-wanted.text.now (c.in_default.ensures.cases)
    ∙ (sym c.is_empty.ensures ∙ c.if-is_empty.false))

pub returns-in_default-split_first : goal.returns-in_default-split_first
returns-in_default-split_first c =
    too_short c.args.pattern.now c.args.text.now c.loop-wanted.pattern.now c.loop-wanted.text.now c.in-Some.wanted.now c.in-Some.rest.now
    c.in-Some.ensures.cases.0 c.if-wanted-eq-ANY_TEXT.false c.in_default-split_first.ensures.cases c.loop-wanted.invariant

pub returns-then-not-stands_for : goal.returns-then-not-stands_for
returns-then-not-stands_for c =
    c.loop-wanted.invariant.same
    ∙ takes_none c.loop-wanted.pattern.now c.in-Some.wanted.now c.in-Some.rest.now c.loop-wanted.text.now c.in-Some-split_first.character.now
    c.in-Some-split_first.behind.now c.in-Some.ensures.cases.0 c.in-Some-split_first.ensures.cases.0 c.if-wanted-eq-ANY_TEXT.false
    (sym c.stands_for.ensures ∙ c.if-not-stands_for.true)

pub loop-wanted-preserved : goal.loop-wanted-preserved
loop-wanted-preserved c =
    fits_on c.args.pattern.now c.args.text.now c.loop-wanted.pattern.now c.loop-wanted.text.now c.in-Some.wanted.now c.in-Some.rest.now
    c.in-Some-split_first.character.now c.in-Some-split_first.behind.now c.in-Some.ensures.cases.0 c.in-Some-split_first.ensures.cases.0
    c.if-wanted-eq-ANY_TEXT.false (sym c.stands_for.ensures ∙ c.if-not-stands_for.false) c.loop-wanted.invariant
