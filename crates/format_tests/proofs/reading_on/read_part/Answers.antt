use Rattle.format_tests.proofs.ReadOn.{part_fits, passes_on, read_keeps}
use Rattle.format_tests.proofs.reading_on.read_part.Goals as goal

pub put_range-requires : goal.put_range-requires
put_range-requires g c = part_fits c.args.picture.now c.args.part.0 c.args.part.1 c.size-size.ensures.holds c.requires.asks

pub returns-clause-passed : goal.returns-clause-passed
returns-clause-passed g c =
    passes_on c.args.picture.now c.put_range.new.picture c.args.part.0 c.args.part.1 c.args.next c.put_range.ensures c.requires.passed

pub returns-clause-read : goal.returns-clause-read
returns-clause-read g c =
    read_keeps c.args.limit c.args.picture.now c.put_range.new.picture c.args.part.0 c.args.part.1 c.requires.read c.requires.asks c.requires.may
    c.put_range.ensures
