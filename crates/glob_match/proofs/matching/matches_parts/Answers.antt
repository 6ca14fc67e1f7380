use Rattle.std.proofs.Common.{◌∙◌, sym}
use Rattle.glob_match.proofs.PartLemmas.{first_decides, star_alone, star_ends, star_goes_on, star_whole}
use Rattle.glob_match.proofs.matching.matches_parts.Goals as goal

pub returns-in-Whole : goal.returns-in-Whole
returns-in-Whole c = sym (c.loop-pattern.invariant ∙ star_whole c.loop-pattern.pattern.now c.loop-pattern.text.now c.in-Whole.ensures)

pub loop-pattern-preserved-in-Star : goal.loop-pattern-preserved-in-Star
loop-pattern-preserved-in-Star c = c.loop-pattern.invariant ∙ first_decides c.in-Star.ensures

pub loop-pattern-preserved : goal.loop-pattern-preserved
loop-pattern-preserved c =
    c.loop-pattern.invariant
    ∙ star_goes_on c.loop-pattern.pattern.now c.loop-pattern.text.now c.in-Some.field-0-0.now c.in-Some.behind.now
    c.in-Some.ensures.cases.0 c.in-Fails.ensures

pub returns-in-None : goal.returns-in-None
returns-in-None c =
    sym (c.loop-pattern.invariant ∙ star_ends c.loop-pattern.pattern.now c.loop-pattern.text.now c.in-None.ensures.cases c.in-Fails.ensures)

pub returns : goal.returns
returns c =
    sym (c.loop-pattern.invariant ∙ star_alone c.loop-pattern.pattern.now c.loop-pattern.text.now
    (sym c.is_empty.ensures ∙ c.loop-pattern-test.false))
