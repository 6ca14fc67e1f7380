-- The pieces that are passed over lie before the bytes, and those that are left behind them.
use Rattle.std.proofs.Common.{arith}
use Rattle.file_picture.proofs.DifferenceLemmas.{agrees_whole, agrees_through, first_differs, ended_before}
use Rattle.file_picture.proofs.difference.first_difference.Goals as goal

pub loop-index-init : goal.loop-index-init
loop-index-init c =
    ended_before c.args.pieces.now c.args.at c.args.bytes.now c.begun-begun_by.result c.saturating_sub-first.result c.requires.apart
    c.begun-begun_by.ensures c.saturating_sub-first.ensures

pub loop-index-preserved : goal.loop-index-preserved
loop-index-preserved c =
    agrees_through c.args.pieces.now c.args.at c.args.bytes.now c.loop-index.index c.index-pieces-index.result
    (omega (arith, c.begun-count.ensures.within, c.loop-index-test.true)) c.index-pieces-index.is c.loop-index.invariant
    c.in_default.ensures

pub returns-in-Some : goal.returns-in-Some
returns-in-Some c =
    first_differs c.args.pieces.now c.args.at c.args.bytes.now c.loop-index.index c.index-pieces-index.result c.in-Some.difference
    c.requires.apart (omega (arith, c.begun-count.ensures.within, c.loop-index-test.true)) c.index-pieces-index.is
    c.loop-index.invariant c.in-Some.ensures

pub returns : goal.returns
returns c =
    agrees_whole c.args.pieces.now c.args.at c.args.bytes.now c.begun-count.result c.loop-index.index c.begun-count.ensures
    (omega (arith, c.loop-index-test.false)) c.loop-index.invariant
