-- A slot is filled for the next place; in the end no place is left.
use Rattle.std.proofs.Common.{◌≡◌, List, [], ◌∷◌, ◌++◌, All, length, refl, sym, ap, subst, ◌∙◌, append_assoc, append-nil, arith}
use Rattle.std.specs.List.{AllZip}
use Rattle.std.specs.Vec.Iter.{into_iter_items}
use Rattle.std.proofs.lemmas.Slice.Zip.{all_zipped_more}
use Rattle.lock_crew.specs.Runs.{IsSlotReady, SlotHas}
use Rattle.lock_crew.specs.declared.crew.Slot.{Slot}
use Rattle.lock_crew.proofs.Slots.{ready_locks}
use Rattle.lock_crew.proofs.Zips.{none_left}
use Rattle.lock_crew.proofs.crew.seats_out.Goals as goal

pub loop-place-preserved : goal.loop-place-preserved
loop-place-preserved g c =
    let at = c.loop-place in
    let x = c.in-Some.place in
    let steps : into_iter_items at.place-iterator ≡ x ∷ into_iter_items c.next.new.self = c.in-Some.ensures.steps.0 in
    let gone = c.in-Some.ensures.steps.1 in
    let short = ap length steps in
    let was = at.invariant.1 in
    let room = at.invariant.4 in
    let all = at.invariant.3 in
    let pushed = c.push_reserved.ensures in (
      append_assoc at.yielded (x ∷ []) _ ∙ rw (← steps) at.invariant.0,
      omega arith,
      c.in-Two.ensures.0 ∙ at.invariant.2,
      omega (arith, pushed.len),
      omega (arith, pushed.len, pushed.capacity),
      subst (λ ys. AllZip (IsSlotReady (λ slot. slot.seat) (λ slot. slot.place) c.args.seat) (at.yielded ++ x ∷ []) ys) (sym pushed.items)
          (all_zipped_more _ at.yielded at.slots.items x _ at.invariant.5 (c.in-Two.ensures.1 ∙ at.invariant.2, refl)),
    )

pub returns : goal.returns
returns g c =
    let at = c.loop-place in
    let none = c.in-None.ensures.steps.0 in
    let empty : into_iter_items at.place-iterator ≡ [] = none_left _ (sym at.invariant.1 ∙ none) in
    let all = sym (append-nil at.yielded) ∙ rw empty at at.invariant.0 ∙ c.into_iter-place-iterator.ensures.into_iter_gives.0 in
    let ready = subst (λ (xs : List g.row.P.Denot).
    AllZip (IsSlotReady {C = Slot g.row.S.Denot g.row.P.Denot g.row.S-Entry.Denot g.row.S-Origin.Denot}
    (λ slot. slot.seat) (λ slot. slot.place) c.args.seat) xs at.slots.items) all at.invariant.5 in
    let count = at.invariant.3 in record {
      same = at.invariant.2;
      slots = ready;
      locks = subst (λ l. All (SlotHas {C = Slot g.row.S.Denot g.row.P.Denot g.row.S-Entry.Denot g.row.S-Origin.Denot}
          (λ slot. slot.seat.lock ≡ l)) at.slots.items) c.requires.lock
          (ready_locks (λ slot. slot.seat) (λ slot. slot.place) c.args.seat _ _ ready);
      count = omega (arith, none);
    }
