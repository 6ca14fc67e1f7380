-- One more token is joined, and its place comes back.
use Rattle.std.proofs.Common.{◌≡◌, [], ◌∷◌, ◌++◌, length, refl, sym, ap, subst, ◌∙◌, append_assoc, arith}
use Rattle.std.specs.List.{AllZip}
use Rattle.std.specs.Vec.Iter.{into_iter_items}
use Rattle.std.proofs.lemmas.List.Elements.{All-tail}
use Rattle.std.proofs.lemmas.Slice.Zip.{all_zipped_more}
use Rattle.index_lock.proofs.Later.{later_trans}
use Rattle.lock_crew.specs.Runs.{BringsBack, SlotHas}
use Rattle.lock_crew.specs.declared.crew.Slot.{Slot}
use Rattle.lock_crew.proofs.Slots.{all_later}
use Rattle.lock_crew.proofs.crew.seats_in.Goals as goal

pub loop-slot-preserved : goal.loop-slot-preserved
loop-slot-preserved g c =
    let at = c.loop-slot in
    let x = c.in-Some.slot in
    let steps : into_iter_items at.slot-iterator ≡ x ∷ into_iter_items c.next.new.self = c.in-Some.ensures.steps.0 in
    let gone = c.in-Some.ensures.steps.1 in
    let short = ap length steps in
    let was = at.invariant.1 in
    let count = at.invariant.4 in
    let room = at.invariant.5 in
    let joined = c.join-seat.ensures in
    let pushed = c.push_reserved.ensures in (
      append_assoc at.yielded (x ∷ []) _ ∙ rw (← steps) at.invariant.0,
      omega arith,
      All-tail (SlotHas {C = Slot g.row.S.Denot g.row.P.Denot g.row.S-Entry.Denot g.row.S-Origin.Denot}
          (λ slot. slot.seat.lock ≡ c.args.seat.lock)) x (into_iter_items c.next.new.self) (rw steps at at.invariant.2),
      later_trans at.invariant.3 (record { lock = joined.lock; log = joined.first; origin = joined.origin.0 }),
      omega (arith, pushed.len, count),
      omega (arith, pushed.len, pushed.capacity),
      subst (AllZip (BringsBack {C = Slot g.row.S.Denot g.row.P.Denot g.row.S-Entry.Denot g.row.S-Origin.Denot}
          (λ slot. slot.seat) (λ slot. slot.place) c.join-seat.result) (at.yielded ++ x ∷ [])) (sym pushed.items)
          (all_zipped_more (BringsBack {C = Slot g.row.S.Denot g.row.P.Denot g.row.S-Entry.Denot g.row.S-Origin.Denot}
          (λ slot. slot.seat) (λ slot. slot.place) c.join-seat.result) at.yielded at.places.items x c.in-Some-slot.field-0.place
          (all_later (λ slot. slot.seat) (λ slot. slot.place) at.seat c.join-seat.result joined.first
          at.yielded at.places.items at.invariant.6)
          (subst (λ s. BringsBack {C = Slot g.row.S.Denot g.row.P.Denot g.row.S-Entry.Denot g.row.S-Origin.Denot}
          (λ slot. slot.seat) (λ slot. slot.place) c.join-seat.result s c.in-Some-slot.field-0.place)
          (sym c.in-Some-slot.is) (joined.second, refl))),
    )
