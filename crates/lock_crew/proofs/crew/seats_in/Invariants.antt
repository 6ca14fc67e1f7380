-- The places so far are those of the slots so far, whose tokens had seen what the one token has; the others are filled.
use Rattle.std.proofs.Common.{◌≡◌, ◌+◌, ◌≤◌, ◌++◌, All, length, vec_capacity, vec_len}
use Rattle.std.specs.List.{AllZip}
use Rattle.std.specs.Vec.Iter.{into_iter_items, into_iter_len}
use Rattle.index_lock.specs.Tokens.{IsLater}
use Rattle.lock_crew.specs.Runs.{BringsBack, SlotHas}
use Rattle.lock_crew.specs.declared.crew.Slot.{Slot}
use Rattle.lock_crew.proofs.crew.seats_in.Given as goal

abbrev pub invariant-loop-slot : goal.invariant-loop-slot
invariant-loop-slot g l =
    (l.yielded ++ into_iter_items l.slot-iterator ≡ into_iter_items l.initial.slot-iterator)
    × (into_iter_len l.slot-iterator ≡ length (into_iter_items l.slot-iterator))
    × All (SlotHas {C = Slot g.row.S.Denot g.row.P.Denot g.row.S-Entry.Denot g.row.S-Origin.Denot}
    (λ slot. slot.seat.lock ≡ l.fn.seat.lock)) (into_iter_items l.slot-iterator)
    × IsLater l.fn.seat l.seat
    × (vec_len l.places + into_iter_len l.slot-iterator ≡ vec_len l.fn.slots)
    × (vec_len l.places + into_iter_len l.slot-iterator ≤ vec_capacity l.places)
    × AllZip (BringsBack {C = Slot g.row.S.Denot g.row.P.Denot g.row.S-Entry.Denot g.row.S-Origin.Denot}
    (λ slot. slot.seat) (λ slot. slot.place) l.seat) l.yielded l.places.items
