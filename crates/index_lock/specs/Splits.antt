-- What a split of a token gives (this project's rule).
use Rattle.std.specs.Prelude.{◌≡◌}
use Rattle.index_lock.specs.Tokens.{SeatFacts}
use Rattle.index_lock.specs.declared.seat.Split.{Split}
use Rattle.index_lock.specs.declared.seat.Split.TheVariants.{Two, OutOfMemory}

-- two tokens come of one, and each knows what the one knew; it takes no memory, so the other answer
-- never comes
abbrev pub SplitsToken : {S E O : Type 0} → SeatFacts E O → Split S E O → Type 0
SplitsToken seat (Two first second) = (first ≡ seat) × (second ≡ seat)
SplitsToken seat (OutOfMemory back) = ⊥
