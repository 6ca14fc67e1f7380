-- A path has a number exactly where it has a slot.
use Rattle.std.proofs.Common.{List, sym, ◌∙◌, ap, subst}
use Rattle.index_rows.specs.Slots.{HasSlot, Slot, path_slot}
use Rattle.index_rows.proofs.ShelfLemmas.{slot_none, slot_some}
use Rattle.index_rows.proofs.shelf.Shelf.number.Goals as goal

pub returns-in-Some-clause-some : goal.returns-in-Some-clause-some
returns-in-Some-clause-some c =
    subst (λ (s : List Slot). HasSlot c.args.path.now s) c.self.view_is
    (slot_some c.self.inside.held c.self.inside.numbers.entries c.args.path.now c.in-Some.number.now c.in-Some.ensures.value)

pub returns-in-None-clause-none : goal.returns-in-None-clause-none
returns-in-None-clause-none c =
    sym (ap (λ (s : List Slot). path_slot c.args.path.now s) c.self.view_is)
    ∙ slot_none c.self.inside.held c.self.inside.numbers.entries c.args.path.now c.in-None.ensures.value
