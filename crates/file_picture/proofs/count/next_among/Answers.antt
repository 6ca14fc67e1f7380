-- One range more.
use Rattle.std.proofs.Common.{rules}
use Rattle.file_picture.proofs.AmongLemmas.{run_more}
use Rattle.file_picture.proofs.count.next_among.Goals as goal

pub loop-range-preserved : goal.loop-range-preserved
loop-range-preserved c =
    run_more c.args.ranges.now c.loop-range.range-index _ c.args.place c.earlier-first.result (search rules)
    (c.earlier-first.ensures _ _ c.args.place c.loop-range.invariant c.run_from.ensures)
