-- The entries are merged with the paths.
use Rattle.std.proofs.Common.{◌≡◌, List, sym, ◌∙◌, ap, subst}
use Rattle.std.specs.List.{All}
use Rattle.row_types.specs.Ascends.{AscendsBy}
use Rattle.index_rows.specs.Tally.{HasPlace, count_at, merged, tallied_path}
use Rattle.index_rows.specs.declared.tally.Tallied.{Tallied}
use Rattle.index_rows.proofs.MergeLemmas.{merged_ascends, merged_counts, merged_keeps, merged_places}
use Rattle.index_rows.proofs.tally.Tally.make_rooms.Goals as goal

pub invariant_of-self : goal.invariant_of-self
invariant_of-self c =
    let is : c.in_ok-self-inside.field-0.items ≡ merged c.self.inside.entries.items c.args.paths.now = c.in_ok-self-inside.ensures ∙ ap (λ (l : List Tallied). merged l c.args.paths.now) c.as_slice-then-not-have_places.ensures.value in
    subst (AscendsBy tallied_path) (sym is) (merged_ascends c.self.inside.entries.items c.args.paths.now c.self.invariant c.requires)

pub returns-in_ok-self-inside-clause-ok : goal.returns-in_ok-self-inside-clause-ok
returns-in_ok-self-inside-clause-ok c =
    let is : c.in_ok-self-inside.field-0.items ≡ merged c.self.inside.entries.items c.args.paths.now = c.in_ok-self-inside.ensures ∙ ap (λ (l : List Tallied). merged l c.args.paths.now) c.as_slice-then-not-have_places.ensures.value in
    subst (λ (l : List Tallied). All (λ path. HasPlace path l) c.args.paths.now) (sym is) (merged_places c.self.inside.entries.items c.args.paths.now)

pub returns-in_ok-self-inside-clause-same : goal.returns-in_ok-self-inside-clause-same
returns-in_ok-self-inside-clause-same c = λ other.
    let is : c.in_ok-self-inside.field-0.items ≡ merged c.self.inside.entries.items c.args.paths.now = c.in_ok-self-inside.ensures ∙ ap (λ (l : List Tallied). merged l c.args.paths.now) c.as_slice-then-not-have_places.ensures.value in
    ap (count_at other) is ∙ merged_counts c.self.inside.entries.items c.args.paths.now other c.self.invariant ∙ ap (count_at other) c.self.view_is

pub returns-in_ok-self-inside-clause-keeps : goal.returns-in_ok-self-inside-clause-keeps
returns-in_ok-self-inside-clause-keeps c = λ other has.
    let is : c.in_ok-self-inside.field-0.items ≡ merged c.self.inside.entries.items c.args.paths.now = c.in_ok-self-inside.ensures ∙ ap (λ (l : List Tallied). merged l c.args.paths.now) c.as_slice-then-not-have_places.ensures.value in
    subst (λ (l : List Tallied). HasPlace other l) (sym is) (merged_keeps c.self.inside.entries.items c.args.paths.now other (subst (λ (l : List Tallied). HasPlace other l) (sym c.self.view_is) has))
