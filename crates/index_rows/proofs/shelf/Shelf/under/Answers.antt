-- What is kept under a number is in some path's slot.
use Rattle.std.proofs.Common.{List, subst}
use Rattle.std.specs.Prelude.{IfSome}
use Rattle.index_rows.specs.Shelf.{IsInSlot}
use Rattle.index_rows.specs.Slots.{Slot}
use Rattle.index_rows.proofs.ShelfLemmas.{under_is}
use Rattle.index_rows.proofs.shelf.Shelf.under.Goals as goal

pub returns : goal.returns
returns c =
    subst (λ (s : List Slot). IfSome c.get.result (λ slot. IsInSlot slot.now s)) c.self.view_is
    (under_is c.self.inside.held c.self.inside.numbers.entries c.args.number c.get.result c.self.invariant c.get.ensures)
