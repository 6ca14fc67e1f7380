use Rattle.std.proofs.Common.{◌∙◌, sym}
use Rattle.glob_match.proofs.LastLemmas.{cut_decides, cut_fails}
use Rattle.glob_match.proofs.matching.matches_behind.Goals as goal

pub returns-in-Some : goal.returns-in-Some
returns-in-Some c =
    c.matches_parts.ensures
    ∙ sym (cut_decides c.args.pattern.now c.split_last.result.0.now c.split_last.result.1.now c.args.text.now c.in-Some.front.now
    c.split_last.ensures.whole c.split_last.ensures.last c.in-Some.ensures)

pub returns-in-None : goal.returns-in-None
returns-in-None c =
    sym (cut_fails c.args.pattern.now c.split_last.result.0.now c.split_last.result.1.now c.args.text.now c.split_last.ensures.whole
    c.in-None.ensures)
