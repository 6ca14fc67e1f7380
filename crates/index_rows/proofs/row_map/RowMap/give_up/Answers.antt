-- A slot is taken in which nothing was.
use Rattle.std.proofs.Common.{◌≡◌, Option, None, Some, sym, ◌∙◌, ap, subst, length}
use Rattle.std.specs.Prelude.{IsSome}
use Rattle.row_types.specs.Row.{RowFacts}
use Rattle.index_rows.specs.Slots.{HasSlot, rows_in_slots, path_slot}
use Rattle.index_rows.proofs.SlotRows.{given_up, not_taken}
use Rattle.index_rows.proofs.row_map.RowMap.give_up.Goals as goal

pub invariant_of-self : goal.invariant_of-self
invariant_of-self c =
    let e : path_slot c.args.path.now c.self.inside.slots ≡ Some None = sym c.in-Some-None.ensures ∙ ap Some c.in-Some-None.field-0-is in
    let done = given_up c.args.path.now c.self.invariant.0 e c.take.ensures.new in
    (record { ascend = c.take.ensures.ascend; own = done.1 }, c.self.invariant.1 ∙ ap length (sym done.0))

pub returns-in-Some-None-clause-others : goal.returns-in-Some-None-clause-others
returns-in-Some-None-clause-others c = λ other differs has.
    let P : Option (Option RowFacts) → Type 0 = IsSome in
    subst P (sym (ap (path_slot other) c.take.ensures.new ∙ not_taken c.args.path.now other differs c.self.inside.slots)) (subst (HasSlot other) (sym c.self.view_is) has)

pub returns-in-Some-None-clause-rows : goal.returns-in-Some-None-clause-rows
returns-in-Some-None-clause-rows c =
    let e : path_slot c.args.path.now c.self.inside.slots ≡ Some None = sym c.in-Some-None.ensures ∙ ap Some c.in-Some-None.field-0-is in
    (given_up c.args.path.now c.self.invariant.0 e c.take.ensures.new).0 ∙ ap rows_in_slots c.self.view_is

pub returns-in-Some-None-clause-gone : goal.returns-in-Some-None-clause-gone
returns-in-Some-None-clause-gone c = λ some.
    let e : path_slot c.args.path.now c.self.inside.slots ≡ Some None = sym c.in-Some-None.ensures ∙ ap Some c.in-Some-None.field-0-is in
    absurd (let k = sym (given_up c.args.path.now c.self.invariant.0 e c.take.ensures.new).2 ∙ some in cc)
