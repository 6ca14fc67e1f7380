-- The path gets the number under which nothing is kept yet.
use Rattle.std.proofs.Common.{List, None, sym, ◌∙◌, ap, subst}
use Rattle.std.specs.BTreeMap.{insert_entry}
use Rattle.std.specs.Cmp.Lexicographic.{slice_cmp}
use Rattle.std.specs.Ordering.{nat_cmp}
use Rattle.index_rows.specs.Slots.{HasSlot, Slot, path_slot}
use Rattle.index_rows.proofs.ShelfLemmas.{make_done, shelved_ascend}
use Rattle.index_rows.proofs.shelf.Shelf.make.Goals as goal

pub invariant_of-self-2 : goal.invariant_of-self-2
invariant_of-self-2 c =
    (make_done c.self.inside.held c.reserve.new.self c.insert_reserved.new.self c.self.inside.numbers.entries c.insert.new.self.entries c.args.path.now c.in_ok-path.path c.vacant_key-number.result c.insert_reserved.result
    c.self.invariant c.reserve.ensures.rest_kept (ap (λ (s : List Slot). path_slot c.args.path.now s) c.self.view_is ∙ c.requires) c.in_ok-path.ensures
    c.vacant_key-number.ensures.vacant (c.insert_reserved.ensures.key ∙ sym c.vacant_key-number.ensures.value) c.insert_reserved.ensures.updates
    c.in_ok-insert.ensures.entries c.in_ok-insert.ensures.updates.0 c.insert.ensures.ordered).0

pub returns-clause-ok : goal.returns-clause-ok
returns-clause-ok c =
    (make_done c.self.inside.held c.reserve.new.self c.insert_reserved.new.self c.self.inside.numbers.entries c.insert.new.self.entries c.args.path.now c.in_ok-path.path c.vacant_key-number.result c.insert_reserved.result
    c.self.invariant c.reserve.ensures.rest_kept (ap (λ (s : List Slot). path_slot c.args.path.now s) c.self.view_is ∙ c.requires) c.in_ok-path.ensures
    c.vacant_key-number.ensures.vacant (c.insert_reserved.ensures.key ∙ sym c.vacant_key-number.ensures.value) c.insert_reserved.ensures.updates
    c.in_ok-insert.ensures.entries c.in_ok-insert.ensures.updates.0 c.insert.ensures.ordered).1
    ∙ ap (λ (s : List Slot). insert_entry (slice_cmp nat_cmp) s c.args.path.now None) c.self.view_is

pub returns-clause-has : goal.returns-clause-has
returns-clause-has c =
    (make_done c.self.inside.held c.reserve.new.self c.insert_reserved.new.self c.self.inside.numbers.entries c.insert.new.self.entries c.args.path.now c.in_ok-path.path c.vacant_key-number.result c.insert_reserved.result
    c.self.invariant c.reserve.ensures.rest_kept (ap (λ (s : List Slot). path_slot c.args.path.now s) c.self.view_is ∙ c.requires) c.in_ok-path.ensures
    c.vacant_key-number.ensures.vacant (c.insert_reserved.ensures.key ∙ sym c.vacant_key-number.ensures.value) c.insert_reserved.ensures.updates
    c.in_ok-insert.ensures.entries c.in_ok-insert.ensures.updates.0 c.insert.ensures.ordered).2

pub returns-clause-keeps : goal.returns-clause-keeps
returns-clause-keeps c = λ other has.
    (make_done c.self.inside.held c.reserve.new.self c.insert_reserved.new.self c.self.inside.numbers.entries c.insert.new.self.entries c.args.path.now c.in_ok-path.path c.vacant_key-number.result c.insert_reserved.result
    c.self.invariant c.reserve.ensures.rest_kept (ap (λ (s : List Slot). path_slot c.args.path.now s) c.self.view_is ∙ c.requires) c.in_ok-path.ensures
    c.vacant_key-number.ensures.vacant (c.insert_reserved.ensures.key ∙ sym c.vacant_key-number.ensures.value) c.insert_reserved.ensures.updates
    c.in_ok-insert.ensures.entries c.in_ok-insert.ensures.updates.0 c.insert.ensures.ordered).3 other
    (subst (λ (s : List Slot). HasSlot other s) (sym c.self.view_is) has)

pub returns-clause-ascend : goal.returns-clause-ascend
returns-clause-ascend c = shelved_ascend c.insert_reserved.new.self c.insert.new.self.entries c.insert.ensures.ordered
