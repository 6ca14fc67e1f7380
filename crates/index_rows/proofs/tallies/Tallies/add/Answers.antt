-- The path counts once more among the paths of the id.
use Rattle.std.proofs.Common.{◌+◌, Some, refl, sym, ◌∙◌, ap, subst, List}
use Rattle.std.specs.Prelude.{IsSome}
use Rattle.index_rows.specs.Tally.{HasPlace, count_at, one}
use Rattle.index_rows.specs.declared.tally.Tallied.{Tallied}
use Rattle.index_rows.proofs.TalliesLemmas.{counts_more, entries_are, stays_room}
use Rattle.index_rows.proofs.tallies.Tallies.add.Goals as goal

pub returns-clause-counts : goal.returns-clause-counts
returns-clause-counts c =
    counts_more c.args.id.now (Some c.add.new.self) c.args.self.now.ids.entries _
    ((c.get_mut.follows.holds c.add.new.self).3 (subst IsSome c.in-Some.ensures.value refl)).0 c.args.path.now
    (λ other. c.add.ensures.counts other
    ∙ ap (λ (l : List Tallied). count_at other l + one c.args.path.now other) (entries_are c.args.id.now c.args.self.now.ids.entries c.in-Some.tally.now c.in-Some.ensures.value))

pub returns-clause-keeps : goal.returns-clause-keeps
returns-clause-keeps c =
    stays_room c.args.id.now (Some c.add.new.self) c.args.self.now.ids.entries _
    ((c.get_mut.follows.holds c.add.new.self).3 (subst IsSome c.in-Some.ensures.value refl)).0
    (λ path has. c.add.ensures.keeps path (subst (HasPlace path) (sym (entries_are c.args.id.now c.args.self.now.ids.entries c.in-Some.tally.now c.in-Some.ensures.value)) has))
