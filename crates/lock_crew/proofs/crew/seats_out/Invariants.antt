-- The slots so far hold the places so far, and there is room for the others.
use Rattle.std.proofs.Common.{◌≡◌, ◌+◌, ◌≤◌, ◌++◌, length, vec_capacity, vec_len}
use Rattle.std.specs.List.{AllZip}
use Rattle.std.specs.Vec.Iter.{into_iter_items, into_iter_len}
use Rattle.lock_crew.specs.Runs.{IsSlotReady}
use Rattle.lock_crew.specs.declared.crew.Slot.{Slot}
use Rattle.lock_crew.proofs.crew.seats_out.Given as goal

abbrev pub invariant-loop-place : goal.invariant-loop-place
invariant-loop-place g l =
    (l.yielded ++ into_iter_items l.place-iterator ≡ into_iter_items l.initial.place-iterator)
    × (into_iter_len l.place-iterator ≡ length (into_iter_items l.place-iterator))
    × (l.seat ≡ l.fn.seat)
    × (vec_len l.slots + into_iter_len l.place-iterator ≡ vec_len l.fn.places)
    × (vec_len l.slots + into_iter_len l.place-iterator ≤ vec_capacity l.slots)
    × AllZip (IsSlotReady {C = Slot g.row.S.Denot g.row.P.Denot g.row.S-Entry.Denot g.row.S-Origin.Denot}
    (λ slot. slot.seat) (λ slot. slot.place) l.fn.seat) l.yielded l.slots.items
