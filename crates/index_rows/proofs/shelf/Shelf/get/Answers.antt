-- What is kept under the path's number is in its slot.
use Rattle.std.proofs.Common.{List, sym, ◌∙◌, ap}
use Rattle.index_rows.specs.Slots.{Slot, path_slot}
use Rattle.index_rows.proofs.ShelfLemmas.{slot_none, slot_there}
use Rattle.index_rows.proofs.shelf.Shelf.get.Goals as goal

pub returns-in-Some : goal.returns-in-Some
returns-in-Some c =
    c.get-in-Some.ensures
    ∙ slot_there c.self.inside.held c.self.inside.numbers.entries c.args.path.now c.in-Some.number.now c.self.invariant c.in-Some.ensures.value
    ∙ ap (λ (s : List Slot). path_slot c.args.path.now s) c.self.view_is

pub returns-in-None : goal.returns-in-None
returns-in-None c =
    sym (slot_none c.self.inside.held c.self.inside.numbers.entries c.args.path.now c.in-None.ensures.value)
    ∙ ap (λ (s : List Slot). path_slot c.args.path.now s) c.self.view_is
