-- The path counts once less among the paths of the id.
use Rattle.std.proofs.Common.{Some, refl, ◌∙◌, ap, subst}
use Rattle.std.specs.Prelude.{IsSome}
use Rattle.index_rows.specs.Tally.{count_at}
use Rattle.index_rows.proofs.TalliesLemmas.{counts_less, entries_are}
use Rattle.index_rows.proofs.tallies.Tallies.take_path.Goals as goal

pub returns-clause-counts : goal.returns-clause-counts
returns-clause-counts c =
    counts_less c.args.id.now (Some c.take.new.self) c.args.self.now.ids.entries _
    ((c.get_mut.follows.holds c.take.new.self).3 (subst IsSome c.in-Some.ensures.value refl)).0 c.args.path.now
    (λ other. c.take.ensures other ∙ ap (count_at other) (entries_are c.args.id.now c.args.self.now.ids.entries c.in-Some.tally.now c.in-Some.ensures.value))
