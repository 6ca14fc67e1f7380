-- The path's number is set to one more.
use Rattle.std.proofs.Common.{◌+◌, List, sym, ◌∙◌, ap, subst, arith}
use Rattle.index_rows.specs.Tally.{HasPlace, count_at, one}
use Rattle.index_rows.specs.declared.tally.Tallied.{Tallied}
use Rattle.index_rows.proofs.TallyLemmas.{belongs_in, count_is, no_place, one_more, set_keeps, set_ascends, stands_in}
use Rattle.index_rows.proofs.tally.Tally.add.Goals as goal

pub overflow_add-count : goal.overflow_add-count
overflow_add-count c =
    let is = count_is c.args.path.now c.as_slice-entries.result.now c.args.self.now c.in-Ok.place (c.as_slice-entries.ensures.value ∙ c.self.view_is) c.in-Ok.ensures c.count_there-count.result c.count_there-count.ensures in
    omega (arith, is, c.requires.fits)

pub unreachable-requires : goal.unreachable-requires
unreachable-requires c =
    no_place c.args.path.now c.args.self.now c.args.self.now c.in-Err.field-0
    (belongs_in c.args.path.now c.as_slice-entries.result.now c.args.self.now c.in-Err.field-0 (c.as_slice-entries.ensures.value ∙ c.self.view_is) c.in-Err.ensures)
    c.requires.room

pub returns-clause-counts : goal.returns-clause-counts
returns-clause-counts c = λ other.
    let is = count_is c.args.path.now c.as_slice-entries.result.now c.self.inside.entries.items c.in-Ok.place c.as_slice-entries.ensures.value c.in-Ok.ensures c.count_there-count.result c.count_there-count.ensures in
    one_more c.args.path.now c.self.inside.entries.items c.set_count.new.entries.items c.in-Ok.place (c.count_there-count.result + 1) (record { path = c.args.path.now; count = 0; number = 0 })
    (stands_in c.args.path.now c.as_slice-entries.result.now c.self.inside.entries.items c.in-Ok.place c.as_slice-entries.ensures.value c.in-Ok.ensures)
    c.set_count.ensures (omega (arith, is)) other
    ∙ ap (λ (l : List Tallied). count_at other l + one c.args.path.now other) c.self.view_is

pub returns-clause-keeps : goal.returns-clause-keeps
returns-clause-keeps c = λ other has.
    set_keeps c.args.path.now c.self.inside.entries.items c.set_count.new.entries.items c.in-Ok.place (c.count_there-count.result + 1) (record { path = c.args.path.now; count = 0; number = 0 })
    (stands_in c.args.path.now c.as_slice-entries.result.now c.self.inside.entries.items c.in-Ok.place c.as_slice-entries.ensures.value c.in-Ok.ensures)
    c.set_count.ensures other (subst (HasPlace other) (sym c.self.view_is) has)

pub invariant_of-self : goal.invariant_of-self
invariant_of-self c =
    set_ascends c.args.path.now c.self.inside.entries.items c.set_count.new.entries.items c.in-Ok.place (c.count_there-count.result + 1) (record { path = c.args.path.now; count = 0; number = 0 })
    (stands_in c.args.path.now c.as_slice-entries.result.now c.self.inside.entries.items c.in-Ok.place c.as_slice-entries.ensures.value c.in-Ok.ensures)
    c.set_count.ensures c.self.invariant
