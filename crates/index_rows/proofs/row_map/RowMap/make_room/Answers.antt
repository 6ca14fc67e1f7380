-- The slot that is made has nothing in it.
use Rattle.std.proofs.Common.{◌≡◌, None, rules, refl, sym, ◌∙◌, ap, length}
use Rattle.index_rows.specs.Slots.{rows_in_slots, path_slot}
use Rattle.index_rows.proofs.SlotRows.{slot_made}
use Rattle.index_rows.proofs.row_map.RowMap.make_room.Goals as goal

pub invariant_of-self-2 : goal.invariant_of-self-2
invariant_of-self-2 c =
    let none : path_slot c.args.path.now c.self.inside.slots ≡ None = search rules in
    let done = slot_made c.args.path.now c.self.invariant.0 none refl c.in_ok-number.ensures.ok in
    (record { ascend = c.in_ok-number.ensures.ascend; own = done.1 }, c.self.invariant.1 ∙ ap length (sym done.0))

pub returns-clause-rows : goal.returns-clause-rows
returns-clause-rows c =
    let none : path_slot c.args.path.now c.self.inside.slots ≡ None = search rules in
    (slot_made c.args.path.now c.self.invariant.0 none refl c.in_ok-number.ensures.ok).0 ∙ ap rows_in_slots c.self.view_is
