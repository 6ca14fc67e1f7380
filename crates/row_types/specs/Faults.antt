-- Counts of faults (this project's rule): each object of the outside counts its faults, and answers that
-- it failed only in a call in which the count rose.
use Rattle.std.specs.Prelude.{ℕ, ◌+◌, ◌-◌, ◌^◌, ◌≤◌, min}

-- one more, up to the largest `u64`
abbrev pub raised : ℕ → ℕ
raised count = min (count + 1) (2 ^ 64 - 1)

-- the sum of two counts, up to the largest `u64`
abbrev pub summed : ℕ → ℕ → ℕ
summed count more = min (count + more) (2 ^ 64 - 1)

-- the count rose, or stands at the largest `u64`
abbrev pub Rose : ℕ → ℕ → Type 0
Rose before now = raised before ≤ now

-- the count never falls, and the call fails only where it rose
pub record HasCause (before now : ℕ) (Fails : Type 0) : Type 0 where
  pub later : before ≤ now
  pub rose : Fails → Rose before now
