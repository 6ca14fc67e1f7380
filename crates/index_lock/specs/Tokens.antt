-- What contracts see of the tokens of a lock (this project's rule).
use Rattle.std.specs.Prelude.{◌≡◌, List, length, nat_lt, if◌then◌else◌}
use mathlib.Core.List.{IsPrefix}
use Rattle.atomic_table.specs.Seated.{TableId}

-- which lock a token is of, the log that it has seen, and the lock's origin
pub record SeatFacts (E O : Type 0) : Type 0 where
  pub lock : TableId
  pub seen : List E
  pub origin : O

-- which lock is held, the value, and the log and the origin that the value had at enter
pub record HeldLockFacts (S E O : Type 0) : Type 0 where
  pub lock : TableId
  pub value : S
  pub seen : List E
  pub origin : O

-- the longer of two logs, and the first of two that are as long
abbrev pub longer : {E : Type 0} → List E → List E → List E
longer first second = if nat_lt (length first) (length second) then second else first

-- a later token of the same lock: it has seen what the first one had seen, and maybe more, and the origin is the same
pub record IsLater {E O : Type 0} (before after : SeatFacts E O) : Type 0 where
  pub lock : after.lock ≡ before.lock
  pub log : IsPrefix before.seen after.seen
  pub origin : after.origin ≡ before.origin
