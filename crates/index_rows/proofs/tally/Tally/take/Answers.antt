-- The path's number is set to one less, or the path goes.
use Rattle.std.proofs.Common.{◌-◌, ◌∙◌, ap, arith}
use Rattle.index_rows.specs.Tally.{count_at}
use Rattle.index_rows.proofs.TallyLemmas.{belongs_in, count_is, counts_none, gone_counts, one_less, set_ascends, stands_in}
use Rattle.index_rows.proofs.tally.Tally.take.Goals as goal

pub overflow_sub-count : goal.overflow_sub-count
overflow_sub-count c =
    let is = count_is c.args.path.now c.as_slice-entries.result.now c.args.self.now c.in-Ok.place (c.as_slice-entries.ensures.value ∙ c.self.view_is) c.in-Ok.ensures c.count_there-count.result c.count_there-count.ensures in
    omega (arith, is, c.requires)

pub unreachable-requires : goal.unreachable-requires
unreachable-requires c =
    let none = counts_none c.args.path.now c.args.self.now c.args.self.now c.in-Err.field-0
    (belongs_in c.args.path.now c.as_slice-entries.result.now c.args.self.now c.in-Err.field-0 (c.as_slice-entries.ensures.value ∙ c.self.view_is) c.in-Err.ensures) in
    absurd (omega (arith, none, c.requires))

pub returns-then-count-eq0 : goal.returns-then-count-eq0
returns-then-count-eq0 c = λ other.
    let is = count_is c.args.path.now c.as_slice-entries.result.now c.self.inside.entries.items c.in-Ok.place c.as_slice-entries.ensures.value c.in-Ok.ensures c.count_there-count.result c.count_there-count.ensures in
    let some = ap (count_at c.args.path.now) c.self.view_is in
    gone_counts c.args.path.now c.self.inside.entries.items c.remove.new.self.items c.in-Ok.place (record { path = c.args.path.now; count = 0; number = 0 })
    (stands_in c.args.path.now c.as_slice-entries.result.now c.self.inside.entries.items c.in-Ok.place c.as_slice-entries.ensures.value c.in-Ok.ensures)
    (omega (arith, is, some, c.requires, c.if-count-eq0.true)) c.remove.ensures.items other
    ∙ ap (count_at other) c.self.view_is

pub returns-else-count-eq0 : goal.returns-else-count-eq0
returns-else-count-eq0 c = λ other.
    let is = count_is c.args.path.now c.as_slice-entries.result.now c.self.inside.entries.items c.in-Ok.place c.as_slice-entries.ensures.value c.in-Ok.ensures c.count_there-count.result c.count_there-count.ensures in
    let some = ap (count_at c.args.path.now) c.self.view_is in
    one_less c.args.path.now c.self.inside.entries.items c.set_count.new.entries.items c.in-Ok.place (c.count_there-count.result - 1) (record { path = c.args.path.now; count = 0; number = 0 })
    (stands_in c.args.path.now c.as_slice-entries.result.now c.self.inside.entries.items c.in-Ok.place c.as_slice-entries.ensures.value c.in-Ok.ensures)
    c.set_count.ensures (omega (arith, is, some, c.requires)) other
    ∙ ap (count_at other) c.self.view_is

pub invariant_of-self-else-count-eq0 : goal.invariant_of-self-else-count-eq0
invariant_of-self-else-count-eq0 c =
    set_ascends c.args.path.now c.self.inside.entries.items c.set_count.new.entries.items c.in-Ok.place (c.count_there-count.result - 1) (record { path = c.args.path.now; count = 0; number = 0 })
    (stands_in c.args.path.now c.as_slice-entries.result.now c.self.inside.entries.items c.in-Ok.place c.as_slice-entries.ensures.value c.in-Ok.ensures)
    c.set_count.ensures c.self.invariant
