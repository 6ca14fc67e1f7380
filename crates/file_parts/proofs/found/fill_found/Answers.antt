-- One range after the other, until the answer is decided or the reading stops.
use Rattle.std.proofs.Common.{sym, ◌∙◌, refl, subst, arith}
use Rattle.file_picture.specs.Picture.{PictureFacts}
use Rattle.file_picture.proofs.PassedLaws.{passed-first}
use Rattle.tree_trait.specs.Needs.{ReadsSoFar}
use Rattle.tree_trait.specs.Opened.{opened_name}
use Rattle.tree_trait.proofs.NeedLemmas.{reads_so_far_more, reads_so_far_none}
use Rattle.file_parts.specs.Found.{IsFoundSoFar}
use Rattle.file_parts.specs.Wholes.{needs_of}
use Rattle.file_parts.proofs.FoundLemmas.{none_found}
use Rattle.file_parts.proofs.FoundEnds.{found_ends, found_more}
use Rattle.file_parts.proofs.found.fill_found.Goals as goal

pub steps-init : goal.steps-init
steps-init g c = (
  subst (λ (p : PictureFacts). ReadsSoFar (needs_of c.args.part) g.T.Tree.told g.W.Truth.version (opened_name c.args.opened.now)
      (g.T.Tree.shows c.args.hand.now) (g.T.Tree.shows c.args.hand.now) p) (sym c.requires.unread) reads_so_far_none,
  refl,
  c.requires.file,
  passed-first c.args.opened.now.picture,
  subst (IsFoundSoFar (needs_of c.args.part)) (sym c.requires.unread) (none_found (needs_of c.args.part) c.args.opened.now.stamp.size),
)

pub steps-preserved : goal.steps-preserved
steps-preserved g c =
    let step = found_more c.args.part c.steps.invariant.1 c.in-Ok.ensures.step in (
      reads_so_far_more c.steps.invariant.0 step,
      c.in-Ok.ensures.name ∙ c.steps.invariant.1,
      c.in-Ok.ensures.file,
      c.in-Ok.ensures.passed,
      c.in-Ok.ensures.read,
    )

pub steps-smaller : goal.steps-smaller
steps-smaller g c =
    omega (arith, c.in-Ok.ensures.step.1, c.in-Ok.ensures.read.small)

pub returns-in-Err-clause-name : goal.returns-in-Err-clause-name
returns-in-Err-clause-name g c = c.in-Err.ensures.name ∙ c.steps.invariant.1

pub returns-in-Err-clause-fills : goal.returns-in-Err-clause-fills
returns-in-Err-clause-fills g c =
    found_ends c.args.part (g.T.Tree.shows c.step.new.hand) c.step.new.opened.picture c.in-Err.end c.steps.invariant.0 c.steps.invariant.1 c.steps.invariant.4.small c.in-Err.ensures.step
