use Rattle.std.specs.Ordering.{nat_cmp}
use Rattle.source_paths.proofs.KeyLemmas.{fixed-more}
use Rattle.source_paths.proofs.tables.keep_fixed.Goals as goal

pub returns-in_ok-insert : goal.returns-in_ok-insert
returns-in_ok-insert c = λ s none all.
    fixed-more s nat_cmp c.args.offset c.args.fixed.now.keys c.in_ok-insert.ensures.keys (none c.if-not-indexed.true) all
