-- One range after the other, until nothing is needed or the reading stops.
use Rattle.std.proofs.Common.{sym, ◌∙◌, ap, refl, subst, arith}
use Rattle.file_picture.specs.Agrees.{AsksOf}
use Rattle.file_picture.specs.Passed.{HasPassed}
use Rattle.file_picture.specs.Picture.{PictureFacts, sum_of}
use Rattle.file_picture.proofs.PassedLaws.{passed-first, passed-more}
use Rattle.row_types.specs.Name.{NameFacts}
use Rattle.tree_trait.specs.Needs.{ReadsSoFar}
use Rattle.tree_trait.specs.Opened.{opened_name}
use Rattle.tree_trait.proofs.NeedLemmas.{reads_so_far_more, reads_so_far_none}
use Rattle.file_parts.specs.Wholes.{IsThereWhole, needs_of}
use Rattle.file_parts.proofs.KnownLemmas.{need_fits}
use Rattle.file_parts.proofs.WholeLemmas.{need_filled, whole_filled, whole_failed, whole_wanting}
use Rattle.file_parts.proofs.fills.fill_whole.Goals as goal

pub needs-init : goal.needs-init
needs-init g c = (
  subst (λ (p : PictureFacts). ReadsSoFar (needs_of c.args.part) g.T.Tree.told g.W.Truth.version (opened_name c.args.opened.now)
      (g.T.Tree.shows c.args.hand.now) (g.T.Tree.shows c.args.hand.now) p) (sym c.requires.unread) reads_so_far_none,
  refl,
  c.requires.file,
  passed-first c.args.opened.now.picture,
)

pub next_need-requires : goal.next_need-requires
next_need-requires g c = subst (λ (p : PictureFacts). HasPassed p c.needs.from) (sym c.picture.ensures.value) c.needs.invariant.3

pub known_with-requires : goal.known_with-requires
known_with-requires g c =
    let size = ap (λ (p : PictureFacts). p.size) c.picture-in-needs.ensures.value in
    let asks = subst (λ (p : PictureFacts). AsksOf (needs_of c.args.part) p c.in-Some.need.at c.in-Some.need.len) c.picture.ensures.value c.in-Some.ensures.asks in
    let fits = need_fits c.args.part c.picture.ensures.holds asks in
    let sized = c.picture.ensures.holds.sized in
    omega (arith, size, fits, sized)

pub fill-requires-clause-inside : goal.fill-requires-clause-inside
fill-requires-clause-inside g c = λ κs within.
    let asks = subst (λ (p : PictureFacts). AsksOf (needs_of c.args.part) p c.in-Some.need.at c.in-Some.need.len) c.picture.ensures.value c.in-Some.ensures.asks in
    need_fits c.args.part c.picture.ensures.holds asks

pub fill-requires-clause-name : goal.fill-requires-clause-name
fill-requires-clause-name g c = λ κs within. c.needs.invariant.2

pub needs-preserved : goal.needs-preserved
needs-preserved g c =
    let asks = subst (λ (p : PictureFacts). AsksOf (needs_of c.args.part) p c.in-Some.need.at c.in-Some.need.len) c.picture.ensures.value c.in-Some.ensures.asks in (
      reads_so_far_more c.needs.invariant.0 (need_filled c.in-Some.need.at c.in-Some.need.len asks c.needs.invariant.1 c.in-Done.ensures.reads),
      c.in-Done.ensures.name ∙ c.needs.invariant.1,
      c.in-Done.ensures.opened,
      passed-more c.in-Done.ensures.reads.less c.in-Done.ensures.keeps
          (subst (λ (p : PictureFacts). HasPassed p c.in-Some.need.next) c.picture.ensures.value c.in-Some.ensures.passed),
    )

pub needs-smaller : goal.needs-smaller
needs-smaller g c =
    let asks = subst (λ (p : PictureFacts). AsksOf (needs_of c.args.part) p c.in-Some.need.at c.in-Some.need.len) c.picture.ensures.value c.in-Some.ensures.asks in
    let rises = c.in-Done.ensures.rises refl asks.gone in
    let sum = ap (λ (p : PictureFacts). sum_of p.pieces) c.picture-in-Done.ensures.value in
    let size = ap (λ (p : PictureFacts). p.size) c.picture-in-Done.ensures.value in
    let sized = c.picture-in-Done.ensures.holds.sized in
    let same = ap (λ (n : NameFacts). n.stamp.size) (c.in-Done.ensures.name ∙ c.needs.invariant.1) in
    omega (arith, rises, c.bytes-known.ensures.value, c.bytes-known.ensures.within, sum, size, sized, same)

pub returns-in_default-clause-name : goal.returns-in_default-clause-name
returns-in_default-clause-name g c = c.needs.invariant.1

pub returns-in_default-clause-file : goal.returns-in_default-clause-file
returns-in_default-clause-file g c = c.needs.invariant.2

pub returns-in_default-clause-fills : goal.returns-in_default-clause-fills
returns-in_default-clause-fills g c =
    whole_filled c.needs.invariant.0 (subst (IsThereWhole (needs_of c.args.part)) c.picture.ensures.value c.in_default.ensures)

pub returns-in-Failed-clause-name : goal.returns-in-Failed-clause-name
returns-in-Failed-clause-name g c = c.in-Failed.ensures.name ∙ c.needs.invariant.1

pub returns-in-Failed-clause-file : goal.returns-in-Failed-clause-file
returns-in-Failed-clause-file g c = c.in-Failed.ensures.opened

pub returns-in-Failed-clause-fills : goal.returns-in-Failed-clause-fills
returns-in-Failed-clause-fills g c =
    let asks = subst (λ (p : PictureFacts). AsksOf (needs_of c.args.part) p c.in-Some.need.at c.in-Some.need.len) c.picture.ensures.value c.in-Some.ensures.asks in
    whole_failed c.needs.invariant.0
    (need_filled c.in-Some.need.at c.in-Some.need.len asks c.needs.invariant.1 c.in-Failed.ensures.reads) (c.in-Failed.ensures.failed refl)

pub returns-in-OutOfMemory-clause-name : goal.returns-in-OutOfMemory-clause-name
returns-in-OutOfMemory-clause-name g c = c.in-OutOfMemory.ensures.name ∙ c.needs.invariant.1

pub returns-in-OutOfMemory-clause-file : goal.returns-in-OutOfMemory-clause-file
returns-in-OutOfMemory-clause-file g c = c.in-OutOfMemory.ensures.opened

pub returns-in-OutOfMemory-clause-fills : goal.returns-in-OutOfMemory-clause-fills
returns-in-OutOfMemory-clause-fills g c =
    let asks = subst (λ (p : PictureFacts). AsksOf (needs_of c.args.part) p c.in-Some.need.at c.in-Some.need.len) c.picture.ensures.value c.in-Some.ensures.asks in
    whole_wanting c.needs.invariant.0
    (need_filled c.in-Some.need.at c.in-Some.need.len asks c.needs.invariant.1 c.in-OutOfMemory.ensures.reads)
