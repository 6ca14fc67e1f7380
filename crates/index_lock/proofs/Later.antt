-- A later token is one of the same lock: to be later goes on from call to call.
use Rattle.std.proofs.Common.{refl, ◌∙◌}
use Rattle.index_lock.specs.Tokens.{IsLater, SeatFacts}
use Rattle.index_lock.proofs.Prefixes.{prefix_self, prefix_trans}

module _ {E O : Type 0} where
  -- a token has seen what it has seen
  pub later_self : (seat : SeatFacts E O) → IsLater seat seat
  later_self seat = record { lock = refl; log = prefix_self seat.seen; origin = refl }

  -- what is later than a later one is later
  pub later_trans : {first middle last : SeatFacts E O} → IsLater first middle → IsLater middle last
      → IsLater first last
  later_trans {first} {middle} {last} one other = record {
    lock = other.lock ∙ one.lock;
    log = prefix_trans first.seen middle.seen last.seen one.log other.log;
    origin = other.origin ∙ one.origin;
  }
