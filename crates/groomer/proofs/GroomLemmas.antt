-- The work of a groomer, step by step.
use Rattle.std.proofs.Common.{◌≡◌, Bool, Option, Some, refl, subst, arith}
use Rattle.index_lock.proofs.Later.{later_self, later_trans}
use Rattle.index_lock.specs.Tokens.{IsLater, SeatFacts}
use Rattle.index_rows.specs.declared.change.Change.{Change}
use Rattle.index_state.specs.State.{Origin}
use Rattle.tree_trait.specs.Found.{Versions}
use Rattle.tree_trait.specs.Shown.{ShownTree}
use Rattle.index_desk.proofs.Shown.{drops_grow}
use Rattle.index_desk.specs.Ends.{EndsShow}
use Rattle.groomer.specs.Grooms.{Grooms, GroomsOn}
use Rattle.groomer.specs.Looks.{HandLooks}
use Rattle.groomer.specs.declared.report.Tally.{Tally}
use Rattle.index_desk.specs.declared.work_end.WorkEnd.{WorkEnd}
use Rattle.groomer.proofs.HandLemmas.{looks_none, looks_then}

module _ {told : Bool} {version : Versions} where
  -- no row was dropped
  pub grooms_by : {seat later_seat : SeatFacts Change Origin} {before after : ShownTree} {tally later_tally : Tally}
      → IsLater seat later_seat → later_tally.dropped ≡ tally.dropped
      → HandLooks told version before after tally.missed later_tally.missed
      → GroomsOn told version seat before tally later_seat after later_tally
  grooms_by {seat} {later_seat} later same hand =
      let grows = drops_grow seat.seen later_seat.seen later.log in
      record { later = later; dropped = omega (arith, same, grows); hand = hand }

  -- nothing was done
  pub grooms_none : {seat : SeatFacts Change Origin} {hand : ShownTree} {tally : Tally}
      → GroomsOn told version seat hand tally seat hand tally
  grooms_none {seat} = record { later = later_self seat; dropped = omega arith; hand = looks_none refl }

  -- the lock was taken and left
  pub grooms_empty : {seat later_seat : SeatFacts Change Origin} {hand : ShownTree} {tally : Tally}
      → IsLater seat later_seat → GroomsOn told version seat hand tally later_seat hand tally
  grooms_empty later = grooms_by later refl (looks_none refl)

  -- one after the other
  pub grooms_then : {seat middle last : SeatFacts Change Origin} {before mid after : ShownTree} {first second third : Tally}
      → GroomsOn told version seat before first middle mid second
      → GroomsOn told version middle mid second last after third
      → GroomsOn told version seat before first last after third
  grooms_then p q = record {
    later = later_trans p.later q.later;
    dropped = omega (arith, p.dropped, q.dropped);
    hand = looks_then p.hand q.hand;
  }

  -- all of it
  pub grooms_whole : {seat later_seat : SeatFacts Change Origin} {before after : ShownTree} {tally : Tally}
      {said : Option WorkEnd} (end : WorkEnd) → said ≡ Some end → EndsShow said later_seat.seen
      → GroomsOn told version seat before (record { dropped = 0; missed = 0 }) later_seat after tally
      → Grooms told version seat before later_seat after (record { dropped = tally.dropped; missed = tally.missed; end = end })
  grooms_whole {later_seat = later_seat} end is ends on = record {
    later = on.later;
    dropped = omega (arith, on.dropped);
    hand = on.hand;
    ends = subst (λ (e : Option WorkEnd). EndsShow e later_seat.seen) is ends;
  }
