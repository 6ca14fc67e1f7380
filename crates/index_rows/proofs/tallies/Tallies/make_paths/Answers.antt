-- Room is made among the paths of the id.
use Rattle.std.proofs.Common.{Some, refl, sym, ◌∙◌, ap, subst}
use Rattle.std.specs.Prelude.{IsSome}
use Rattle.index_rows.specs.Tally.{HasPlace, count_at}
use Rattle.index_rows.proofs.TalliesLemmas.{entries_are, stays_room, stays_same}
use Rattle.index_rows.proofs.tallies.Tallies.make_paths.Goals as goal

pub returns-clause-same : goal.returns-clause-same
returns-clause-same c =
    stays_same c.args.id.now (Some c.make_rooms.new.self) c.args.self.now.ids.entries _
    ((c.get_mut.follows.holds c.make_rooms.new.self).3 (subst IsSome c.in-Some.ensures.value refl)).0
    (λ path. c.make_rooms.ensures.same path ∙ ap (count_at path) (entries_are c.args.id.now c.args.self.now.ids.entries c.in-Some.tally.now c.in-Some.ensures.value))

pub returns-clause-keeps : goal.returns-clause-keeps
returns-clause-keeps c =
    stays_room c.args.id.now (Some c.make_rooms.new.self) c.args.self.now.ids.entries _
    ((c.get_mut.follows.holds c.make_rooms.new.self).3 (subst IsSome c.in-Some.ensures.value refl)).0
    (λ path has. c.make_rooms.ensures.keeps path (subst (HasPlace path) (sym (entries_are c.args.id.now c.args.self.now.ids.entries c.in-Some.tally.now c.in-Some.ensures.value)) has))
