-- What a count does to the numbers of a share (this project's rule).
use Rattle.std.specs.Prelude.{◌≡◌, ℕ, ◌+◌, ◌^◌, List, Bool, true, false, ◌&&◌, nat_lt}
use Rattle.dbgd_metrics.specs.declared.number.Number.{Number}
use Rattle.dbgd_metrics.specs.declared.number.Number.TheVariants.{Requests, Bytes, Added, Replaced, Dropped, Passes}
use Rattle.dbgd_metrics.specs.declared.count.Count.{Count}
use Rattle.dbgd_metrics.specs.declared.count.Count.TheVariants.{Request, Pass}
use Rattle.dbgd_metrics.specs.declared.count.Counted.{Counted}
use Rattle.dbgd_metrics.specs.declared.count.Counted.TheVariants.{Done, Full}
use Rattle.dbgd_metrics.specs.Numbers.{IsCountedStatus, number_of_row, grown}
use Rattle.dbgd_metrics.specs.Shares.{ShareFacts}

-- a request's status is one of a reply
abbrev pub HasReplyStatus : Count → Type 0
HasReplyStatus (Request route status bytes) = IsCountedStatus status
HasReplyStatus (Pass added replaced dropped) = Unit {0}

-- the number may grow by so much
abbrev pub has_room : List ℕ → Number → ℕ → Bool
has_room numbers number k = nat_lt (number_of_row numbers number + k) (2 ^ 64)

-- each number that the count makes grow stays below 2^64
abbrev pub fits : List ℕ → Count → Bool
fits numbers (Request route status bytes) = has_room numbers (Requests route status) 1 && has_room numbers Bytes bytes
fits numbers (Pass added replaced dropped) =
    has_room numbers Added added && has_room numbers Replaced replaced && has_room numbers Dropped dropped && has_room numbers Passes 1

-- the numbers after the count
abbrev pub numbers_after : List ℕ → Count → List ℕ
numbers_after numbers (Request route status bytes) = grown (grown numbers (Requests route status) 1) Bytes bytes
numbers_after numbers (Pass added replaced dropped) = grown (grown (grown (grown numbers Added added) Replaced replaced) Dropped dropped) Passes 1

-- the count fits and the share's numbers grew by it, or it doesn't fit and the share is as it was but for its mark
abbrev pub Counts : Count → ShareFacts → ShareFacts → Counted → Type 0
Counts what old new Done = (fits old.numbers what ≡ true) × (new ≡ record old { numbers = numbers_after old.numbers what })
Counts what old new Full = (fits old.numbers what ≡ false) × (new ≡ record old { marked = true })
