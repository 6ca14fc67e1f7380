-- The next run is counted.
use Rattle.std.proofs.Common.{◌∙◌, arith}
use Rattle.file_picture.specs.Counts.{is_among, IsRun}
use Rattle.file_picture.proofs.AmongLemmas.{none_yet, run_counts, run_fits, some_counted}
use Rattle.file_picture.proofs.count.known_with_all.Goals as goal

pub loop-from-init : goal.loop-from-init
loop-from-init c = (omega arith, c.bytes-sum.ensures.value ∙ none_yet c.args.picture.now c.args.ranges.now)

pub unknown_in-sum-requires : goal.unknown_in-sum-requires
unknown_in-sum-requires c =
    let run : IsRun (is_among c.args.ranges.now) c.loop-from.place c.in-Some.from c.in-Some.end = c.in-Some.ensures in
    let fits = run_fits c.args.ranges.now c.args.picture.now.size c.loop-from.place c.in-Some.from c.in-Some.end c.requires run in
    let some = run.some in
    omega (arith, fits, some)

pub overflow_add-sum : goal.overflow_add-sum
overflow_add-sum c =
    let run : IsRun (is_among c.args.ranges.now) c.loop-from.place c.in-Some.from c.in-Some.end = c.in-Some.ensures in
    let fits = run_fits c.args.ranges.now c.args.picture.now.size c.loop-from.place c.in-Some.from c.in-Some.end c.requires run in
    let counts = run_counts c.args.picture.now c.args.ranges.now c.loop-from.place c.in-Some.from c.in-Some.end run in
    let most = some_counted c.args.picture.now c.args.ranges.now c.in-Some.end c.size-size.ensures.holds fits in
    omega (arith, counts, most, c.loop-from.invariant.1, c.unknown_in-sum.ensures.value, c.size-size.ensures.value)

pub loop-from-smaller : goal.loop-from-smaller
loop-from-smaller c =
    let run : IsRun (is_among c.args.ranges.now) c.loop-from.place c.in-Some.from c.in-Some.end = c.in-Some.ensures in
    let fits = run_fits c.args.ranges.now c.args.picture.now.size c.loop-from.place c.in-Some.from c.in-Some.end c.requires run in
    let above = run.above in
    let some = run.some in
    omega (arith, fits, above, some)

pub loop-from-preserved : goal.loop-from-preserved
loop-from-preserved c =
    let run : IsRun (is_among c.args.ranges.now) c.loop-from.place c.in-Some.from c.in-Some.end = c.in-Some.ensures in
    let fits = run_fits c.args.ranges.now c.args.picture.now.size c.loop-from.place c.in-Some.from c.in-Some.end c.requires run in
    let counts = run_counts c.args.picture.now c.args.ranges.now c.loop-from.place c.in-Some.from c.in-Some.end run in
    (fits, omega (arith, counts, c.loop-from.invariant.1, c.unknown_in-sum.ensures.value))
