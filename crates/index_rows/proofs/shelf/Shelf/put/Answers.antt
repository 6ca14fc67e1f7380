-- The row is put under its path's number.
use Rattle.std.proofs.Common.{◌≡◌, List, Some, sym, ◌∙◌, ap, subst}
use Rattle.std.specs.BTreeMap.{is_at}
use Rattle.std.specs.Cmp.Lexicographic.{slice_cmp}
use Rattle.std.specs.Map.{set_value}
use Rattle.std.specs.Ordering.{nat_cmp}
use Rattle.row_types.specs.Row.{RowFacts}
use Rattle.index_rows.specs.Rows.{row_path}
use Rattle.index_rows.specs.Shelf.{path_number}
use Rattle.index_rows.specs.Slots.{HasSlot, Slot, path_slot}
use Rattle.index_rows.proofs.ShelfLemmas.{has_number, put_numbered, put_slots, shelved_ascend, slot_there}
use Rattle.index_rows.proofs.shelf.Shelf.put.Goals as goal

pub unreachable-requires : goal.unreachable-requires
unreachable-requires c =
    has_number c.self.inside.held c.self.inside.numbers.entries c.args.row.name.path
    (subst (λ (s : List Slot). HasSlot c.args.row.name.path s) (sym c.self.view_is) c.requires)
    (c.in-None.ensures.value ∙ ap (λ (r : RowFacts). path_number (row_path r) c.self.inside.numbers.entries) c.row.view_is)

pub returns-clause-old : goal.returns-clause-old
returns-clause-old c =
    sym (ap (λ (s : List Slot). path_slot c.args.row.name.path s) c.self.view_is)
    ∙ sym (slot_there c.self.inside.held c.self.inside.numbers.entries c.args.row.name.path c.in-Some.number.now c.self.invariant
    (c.in-Some.ensures.value ∙ ap (λ (r : RowFacts). path_number (row_path r) c.self.inside.numbers.entries) c.row.view_is))
    ∙ c.put_under.ensures.old

pub returns-clause-new : goal.returns-clause-new
returns-clause-new c =
    put_slots c.self.inside.held c.put_under.new.held c.self.inside.numbers.entries c.args.row.name.path c.in-Some.number.now (Some c.args.row) c.self.invariant
    (c.in-Some.ensures.value ∙ ap (λ (r : RowFacts). path_number (row_path r) c.self.inside.numbers.entries) c.row.view_is) c.put_under.ensures.new
    ∙ ap (λ (s : List Slot). set_value (is_at (slice_cmp nat_cmp c.args.row.name.path)) s (Some c.args.row)) c.self.view_is

pub returns-clause-ascend : goal.returns-clause-ascend
returns-clause-ascend c = shelved_ascend c.put_under.new.held c.self.inside.numbers.entries c.self.invariant.ascend
