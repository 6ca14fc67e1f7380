-- One part after the other, until the row is made or the reading stops.
use Rattle.std.proofs.Common.{sym, ◌∙◌, ap, refl, subst, arith}
use Rattle.file_picture.specs.ReadSoFar.{IsReadSoFar}
use Rattle.file_picture.proofs.PassedLaws.{passed-first}
use Rattle.file_picture.proofs.ReadSoFarLaws.{unread-so_far}
use Rattle.row_types.specs.Name.{NameFacts}
use Rattle.row_types.specs.declared.limits.TheConstants.{READ_LIMIT}
use Rattle.tree_trait.specs.Opened.{unread_picture}
use Rattle.tree_trait.specs.Needs.{ReadsSoFar}
use Rattle.tree_trait.specs.Reader.{IsReadPart}
use Rattle.tree_trait.proofs.NeedLemmas.{reads_so_far_more, reads_so_far_none}
use Rattle.scan_worker.specs.Parts.{ReadsNextPart, StopsReading}
use Rattle.scan_worker.proofs.PartLemmas.{stops_so}
use Rattle.scan_worker.proofs.parts.read_parts.Goals as goal

pub parts-init : goal.parts-init
parts-init g c = (
  subst (λ p. ReadsSoFar (IsReadPart c.args.own.stamp) g.T.Tree.told g.W.Truth.version c.args.own (g.T.Tree.shows c.args.hand.now)
      (g.T.Tree.shows c.args.hand.now) p)
      (sym (c.requires.unread ∙ ap (λ (n : NameFacts). unread_picture n.stamp.size) c.requires.name)) reads_so_far_none,
  refl,
  c.requires.name,
  c.requires.file,
  passed-first c.args.opened.picture,
  subst (IsReadSoFar READ_LIMIT) (sym c.requires.unread) (unread-so_far READ_LIMIT c.args.opened.stamp.size),
)

pub read_more-requires-clause-name : goal.read_more-requires-clause-name
read_more-requires-clause-name g c = λ κs within. c.parts.invariant.2 ∙ sym c.parts.invariant.1

pub read_more-requires-clause-file : goal.read_more-requires-clause-file
read_more-requires-clause-file g c = λ κs within. c.parts.invariant.3

pub read_more-requires-clause-passed : goal.read_more-requires-clause-passed
read_more-requires-clause-passed g c = λ κs within. c.parts.invariant.4

pub read_more-requires-clause-read : goal.read_more-requires-clause-read
read_more-requires-clause-read g c = λ κs within. c.parts.invariant.5

pub parts-preserved : goal.parts-preserved
parts-preserved g c =
    let step = subst (λ (n : NameFacts). ReadsNextPart g.T.Tree.told g.W.Truth.version n (g.T.Tree.shows c.parts.hand)
    (g.T.Tree.shows c.read_more.new.hand) c.parts.opened.picture c.read_more.new.opened.picture c.in-Ok.name) c.parts.invariant.1
    c.in-Ok.ensures.step in (
      reads_so_far_more c.parts.invariant.0 step.part,
      step.same,
      c.in-Ok.ensures.name ∙ c.parts.invariant.2,
      c.in-Ok.ensures.file,
      c.in-Ok.ensures.passed,
      c.in-Ok.ensures.read,
    )

pub parts-smaller : goal.parts-smaller
parts-smaller g c =
    let step = subst (λ (n : NameFacts). ReadsNextPart g.T.Tree.told g.W.Truth.version n (g.T.Tree.shows c.parts.hand)
    (g.T.Tree.shows c.read_more.new.hand) c.parts.opened.picture c.read_more.new.opened.picture c.in-Ok.name) c.parts.invariant.1
    c.in-Ok.ensures.step in
    omega (arith, step.rises, step.within)

pub returns-in-Err : goal.returns-in-Err
returns-in-Err g c =
    stops_so c.in-Err.end c.parts.invariant.0
    (subst (λ (n : NameFacts). StopsReading g.T.Tree.told g.W.Truth.version n (g.T.Tree.shows c.parts.hand)
    (g.T.Tree.shows c.read_more.new.hand) c.parts.opened.picture c.in-Err.end) c.parts.invariant.1 c.in-Err.ensures.step)
