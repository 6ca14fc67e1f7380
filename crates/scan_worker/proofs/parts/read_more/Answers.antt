-- A row needs no read, and a part that is asked for is read.
use Rattle.std.proofs.Common.{◌∙◌, MatchResult, inl, sym, subst}
use Rattle.file_picture.specs.Agrees.{AsksOf}
use Rattle.row_types.specs.Name.{NameFacts}
use Rattle.tree_trait.specs.Opened.{IsPictureOf}
use Rattle.tree_trait.specs.Reader.{IsReadPart}
use Rattle.tree_trait.proofs.FillLemmas.{reads_none}
use Rattle.scan_worker.specs.Parts.{ReadsNextPart, StopsReading}
use Rattle.scan_worker.proofs.PartLemmas.{passes_on}
use Rattle.scan_worker.proofs.parts.read_more.Goals as goal

pub returns-in-Row-clause-step : goal.returns-in-Row-clause-step
returns-in-Row-clause-step g c = record {
  hears = reads_none;
  seen = subst (λ (n : NameFacts). IsPictureOf g.W.Truth.version n c.args.opened.now.picture) c.requires.name c.knows.ensures.holds.seen;
  is = c.in-Row.ensures;
}

pub returns-in-OutOfMemory-clause-step : goal.returns-in-OutOfMemory-clause-step
returns-in-OutOfMemory-clause-step g c = inl reads_none

pub read_part-requires-clause-name : goal.read_part-requires-clause-name
read_part-requires-clause-name g c = λ κs within. c.requires.name ∙ sym c.in-Need.ensures.0

pub read_part-requires-clause-asks : goal.read_part-requires-clause-asks
read_part-requires-clause-asks g c = λ κs within.
    subst (λ (n : NameFacts). AsksOf (IsReadPart n.stamp) c.args.opened.now.picture c.in-Need.at c.in-Need.len)
    (sym c.in-Need.ensures.0) c.in-Need.ensures.1

pub read_part-requires-clause-next : goal.read_part-requires-clause-next
read_part-requires-clause-next g c = λ κs within. c.in-Need.ensures.2

pub read_part-requires-clause-read : goal.read_part-requires-clause-read
read_part-requires-clause-read g c = λ κs within. c.requires.read

pub read_part-requires-clause-file : goal.read_part-requires-clause-file
read_part-requires-clause-file g c = λ κs within. c.requires.file

pub returns-clause-step : goal.returns-clause-step
returns-clause-step g c =
    subst (λ (n : NameFacts). MatchResult c.read_part.result
    (λ given. ReadsNextPart g.T.Tree.told g.W.Truth.version n (g.T.Tree.shows c.args.hand.now) (g.T.Tree.shows c.read_part.new.hand)
    c.args.opened.now.picture c.read_part.new.opened.picture given)
    (λ end. StopsReading g.T.Tree.told g.W.Truth.version n (g.T.Tree.shows c.args.hand.now) (g.T.Tree.shows c.read_part.new.hand)
    c.args.opened.now.picture end)) c.in-Need.ensures.0 c.read_part.ensures.step

pub returns-clause-passed : goal.returns-clause-passed
returns-clause-passed g c =
    passes_on c.args.opened.now.picture c.read_part.new.opened.picture c.read_part.result c.in-Need.next c.read_part.ensures.passed c.in-Need.ensures.3

pub returns-clause-read : goal.returns-clause-read
returns-clause-read g c = c.read_part.ensures.read
