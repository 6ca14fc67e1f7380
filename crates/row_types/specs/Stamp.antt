-- Stamps (this project's rule): by a file's size and time of change it is known again.
use Rattle.std.specs.Prelude.{ℕ, ℤ, ◌==◌, ◌&&◌, Bool}
use Rattle.std.specs.Ordering.{int_eq}

-- a file's size in bytes and when it changed last, in seconds since 1970 and nanoseconds above them
pub record StampFacts : Type 0 where
  pub size : ℕ
  pub secs : ℤ
  pub nanos : ℕ

-- whether two stamps are one
abbrev pub same_stamp : StampFacts → StampFacts → Bool
same_stamp a b = (a.size == b.size) && int_eq a.secs b.secs && (a.nanos == b.nanos)
