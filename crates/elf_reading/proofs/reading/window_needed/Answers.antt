-- What is known and the window are counted.
use Rattle.std.proofs.Common.{arith}
use Rattle.elf_reading.proofs.ViewLemmas.{window_fits, window_next, window_seen}
use Rattle.elf_reading.proofs.reading.window_needed.Goals as goal

pub known_with-requires : goal.known_with-requires
known_with-requires c = window_fits c.args.picture.now c.args.at c.args.len c.size-size.ensures.holds c.requires.asks

pub returns-then-known_with-limit : goal.returns-then-known_with-limit
returns-then-known_with-limit c =
    window_seen c.args.limit c.args.picture.now c.size-size.ensures.holds c.requires.read c.args.at c.args.len c.requires.asks
    (omega (arith, c.if-known_with-limit.true, c.known_with.ensures))

pub returns : goal.returns
returns c =
    let next = window_next c.args.limit c.args.picture.now c.size-size.ensures.holds c.requires.read c.args.at c.args.len c.requires.asks
    (omega (arith, c.if-known_with-limit.false, c.known_with.ensures)) in
    (next.0, next.1, c.requires.passed)
