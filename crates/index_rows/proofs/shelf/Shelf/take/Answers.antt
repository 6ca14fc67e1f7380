-- The number goes with what was kept under it.
use Rattle.std.proofs.Common.{◌≡◌, List, None, Some, sym, ◌∙◌, ap, subst}
use Rattle.std.specs.BTreeMap.{is_at}
use Rattle.std.specs.Cmp.Lexicographic.{slice_cmp}
use Rattle.std.specs.Map.{remove_entry}
use Rattle.std.specs.Ordering.{nat_cmp}
use Rattle.index_rows.specs.Slots.{Slot, path_slot}
use Rattle.index_rows.proofs.ShelfLemmas.{none_taken, shelved_ascend, slot_none, slot_there, taken_numbered, taken_slots}
use Rattle.index_rows.proofs.shelf.Shelf.take.Goals as goal

pub invariant_of-self : goal.invariant_of-self
invariant_of-self c =
    taken_numbered c.self.inside.held c.remove-in-Some.new.self c.self.inside.numbers.entries c.remove.new.self.entries c.args.path.now c.in-Some.number
    c.self.invariant c.in-Some.ensures.value c.remove-in-Some.ensures.updates c.remove.ensures.entries c.remove.ensures.updates.0 c.remove.ensures.ordered

pub returns-in-Some-clause-old : goal.returns-in-Some-clause-old
returns-in-Some-clause-old c =
    sym c.remove-in-Some.ensures.value
    ∙ slot_there c.self.inside.held c.self.inside.numbers.entries c.args.path.now c.in-Some.number c.self.invariant c.in-Some.ensures.value
    ∙ ap (λ (s : List Slot). path_slot c.args.path.now s) c.self.view_is

pub returns-in-Some-clause-new : goal.returns-in-Some-clause-new
returns-in-Some-clause-new c =
    taken_slots c.self.inside.held c.remove-in-Some.new.self c.self.inside.numbers.entries c.remove.new.self.entries c.args.path.now c.in-Some.number
    c.self.invariant c.in-Some.ensures.value c.remove-in-Some.ensures.updates c.remove.ensures.entries c.remove.ensures.updates.0 c.remove.ensures.ordered
    ∙ ap (remove_entry (is_at (slice_cmp nat_cmp c.args.path.now))) c.self.view_is

pub returns-in-Some-clause-ascend : goal.returns-in-Some-clause-ascend
returns-in-Some-clause-ascend c = shelved_ascend c.remove-in-Some.new.self c.remove.new.self.entries c.remove.ensures.ordered

pub returns-in-None-clause-old : goal.returns-in-None-clause-old
returns-in-None-clause-old c =
    sym (slot_none c.self.inside.held c.self.inside.numbers.entries c.args.path.now c.in-None.ensures.value)
    ∙ ap (λ (s : List Slot). path_slot c.args.path.now s) c.self.view_is

pub returns-in-None-clause-new : goal.returns-in-None-clause-new
returns-in-None-clause-new c =
    none_taken c.self.inside.held c.self.inside.numbers.entries c.remove.new.self.entries c.args.path.now c.remove.ensures.entries
    ∙ ap (remove_entry (is_at (slice_cmp nat_cmp c.args.path.now))) c.self.view_is

pub returns-in-None-clause-ascend : goal.returns-in-None-clause-ascend
returns-in-None-clause-ascend c = shelved_ascend c.self.inside.held c.remove.new.self.entries c.remove.ensures.ordered
