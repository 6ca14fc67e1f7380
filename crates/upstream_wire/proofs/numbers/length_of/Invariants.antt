use Rattle.std.proofs.Common.{◌≡◌, ◌-◌, ◌<◌, ◌≤◌, ◌+◌, ◌*◌, ℕ, List, drop, length}
use Rattle.std.specs.Char.{is_ascii_digit}
use Rattle.std.specs.List.{list_all}
use Rattle.std.specs.Str.Parse.{digits_value, digits_value_after}
use Rattle.upstream_wire.specs.declared.limits.TheConstants.{BODY_LIMIT}
use Rattle.upstream_wire.proofs.numbers.length_of.Given as goal

-- the number so far, and what is left of the digits
pub record IsNumberSoFar (value : List ℕ) (at number : ℕ) : Type 0 where
  pub some : 0 < length value
  pub inside : at ≤ length value
  pub few : number ≤ 10 * BODY_LIMIT + 9
  pub digits : list_all is_ascii_digit (drop at value) ≡ list_all is_ascii_digit value
  pub number_is : digits_value_after 10 number (drop at value) ≡ digits_value 10 value

abbrev pub invariant-loop-at : goal.invariant-loop-at
invariant-loop-at l = IsNumberSoFar l.value l.at l.number

abbrev pub decreases-loop-at : goal.decreases-loop-at
decreases-loop-at l = length l.value - l.at
