-- An id that goes has no path.
use Rattle.std.proofs.Common.{◌+◌, None, sym, ◌∙◌, ap}
use Rattle.index_rows.specs.Tally.{count_at}
use Rattle.index_rows.specs.Tallies.{one_of}
use Rattle.index_rows.proofs.TalliesLemmas.{stays_same}
use Rattle.index_rows.proofs.tallies.Tallies.take.Goals as goal

pub returns-then-take_path : goal.returns-then-take_path
returns-then-take_path c = λ other_id other.
    ap (λ n. n + one_of c.args.id.now c.args.path.now other_id other)
    (stays_same c.args.id.now None c.take_path.new.self.ids.entries c.remove.new.self.entries c.remove.ensures.updates.0
    (λ path. sym (ap (count_at path) (c.take_path.ensures.empty c.if-take_path.true))) other_id other)
    ∙ c.take_path.ensures.counts other_id other
