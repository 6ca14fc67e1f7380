use Rattle.std.proofs.Common.{◌+◌, ◌≤◌, sym, subst}
use Rattle.format_tests.proofs.ReadOn.{on_none}
use Rattle.format_tests.proofs.reading_on.put_range.Goals as goal

pub loop-init : goal.loop-init
loop-init g c = on_none c.args.picture.now c.args.at c.args.len c.size-size.ensures.holds

pub put_first-requires : goal.put_first-requires
put_first-requires g c = subst (λ n. c.args.at + c.args.len ≤ n) (sym c.loop.invariant.size) c.requires

pub loop-preserved : goal.loop-preserved
loop-preserved g c = c.put_first.ensures c.args.picture.now c.loop.invariant
