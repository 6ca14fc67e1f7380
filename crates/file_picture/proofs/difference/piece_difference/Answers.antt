-- What differs in the range that both have, and nothing else.
use Rattle.std.proofs.Common.{◌∙◌, ◌-◌, ap, refl, max, length, arith}
use Rattle.file_picture.proofs.DifferenceLemmas.{agrees_apart, agrees_same, differs_first, known_there, shared_range}
use Rattle.file_picture.proofs.difference.piece_difference.Goals as goal

pub returns-then-to-from : goal.returns-then-to-from
returns-then-to-from c =
    agrees_apart c.args.piece.now c.args.at c.args.bytes.now c.max-from.result c.min-to.result
    (c.max-from.ensures ∙ ap (λ n. max n c.args.at) c.at-begin.ensures)
    (omega (arith, c.min-to.ensures, c.end.ensures.value)) c.if-to-from.true

pub stretch-known-requires : goal.stretch-known-requires
stretch-known-requires c =
    let own = ap length c.bytes.ensures in
    omega (arith, own, c.at-begin.ensures, c.max-from.ensures, c.end.ensures.value, c.min-to.ensures, c.if-to-from.false)

pub stretch-seen-requires : goal.stretch-seen-requires
stretch-seen-requires c = omega (arith, c.max-from.ensures, c.min-to.ensures, c.if-to-from.false)

pub overflow_add-place : goal.overflow_add-place
overflow_add-place c =
    omega (arith, c.in-Some.ensures.inside, c.stretch-known.ensures.long, c.if-to-from.false, c.min-to.ensures, c.requires)

pub returns-in-Some : goal.returns-in-Some
returns-in-Some c =
    differs_first c.args.piece.now c.args.at c.args.bytes.now c.max-from.result (c.min-to.result - c.max-from.result)
    c.stretch-known.result.now c.stretch-seen.result.now
    (shared_range c.args.piece.now c.args.at (length c.args.bytes.now) c.at-begin.result c.max-from.result c.end.result c.min-to.result
    c.at-begin.ensures c.max-from.ensures c.end.ensures.value c.min-to.ensures c.if-to-from.false)
    (known_there c.args.piece.now c.at-begin.result c.max-from.result (c.min-to.result - c.max-from.result) c.bytes.result.now
    c.stretch-known.result.now c.at-begin.ensures c.bytes.ensures c.stretch-known.ensures.value)
    c.stretch-seen.ensures.value _ c.in-Some.index c.in-Some.ensures refl refl refl

pub returns-in-None : goal.returns-in-None
returns-in-None c =
    agrees_same c.args.piece.now c.args.at c.args.bytes.now c.max-from.result (c.min-to.result - c.max-from.result)
    c.stretch-known.result.now c.stretch-seen.result.now
    (shared_range c.args.piece.now c.args.at (length c.args.bytes.now) c.at-begin.result c.max-from.result c.end.result c.min-to.result
    c.at-begin.ensures c.max-from.ensures c.end.ensures.value c.min-to.ensures c.if-to-from.false)
    (known_there c.args.piece.now c.at-begin.result c.max-from.result (c.min-to.result - c.max-from.result) c.bytes.result.now
    c.stretch-known.result.now c.at-begin.ensures c.bytes.ensures c.stretch-known.ensures.value)
    c.stretch-seen.ensures.value c.in-None.ensures
