-- The row of a share, and the word of one of its numbers.
use Rattle.std.proofs.Common.{◌≡◌, ℕ, suc, ◌+◌, ◌-◌, ◌<◌, ◌≤◌, List, [], ◌∷◌, length, Bool, true, false, refl, subst, arith, Option, Some, None, leb, ltb, eqb, if◌then◌else◌}
use Rattle.std.specs.Prelude.{IsSome, IfSome, ◌^◌}
use Rattle.std.proofs.lemmas.Bool.Decides.{nat_tests}
use Rattle.dbgd_metrics.specs.Numbers.{place_in, number_place, route_place, statuses}
use Rattle.dbgd_metrics.specs.Rule.{word_at}
use Rattle.dbgd_metrics.specs.declared.number.Number.{Number}
use Rattle.dbgd_metrics.specs.declared.number.Number.TheVariants.{Requests, Bytes, Added, Replaced, Dropped, Passes}
use Rattle.dbgd_metrics.specs.declared.number.RouteName.{RouteName}
use Rattle.dbgd_metrics.specs.declared.number.RouteName.TheVariants.{Debuginfo, Executable, Source, Section, Metrics, Other}

-- false isn't true
abbrev IsFalse : Bool → Type 0
IsFalse true = ⊥
IsFalse false = Unit {0}

-- None is no row
pub no_row : IsSome {T = ℕ} None → ⊥
no_row there = subst IsFalse there tt

-- a share's row, and the word that was found for one of its places
pub own_row : (o : Option ℕ) (word place : ℕ) → IsSome o → IfSome o (λ row. word ≡ word_at row place) → (row : ℕ) × (o ≡ Some row) × (word ≡ word_at row place)
own_row None word place there is = absurd (no_row there)
own_row (Some row) word place there is = (row, refl, is)

step_bound : (b : Bool) (p n : ℕ) → p ≤ n → (if b then 0 else 1 + p) ≤ suc n
step_bound true p n h = omega arith
step_bound false p n h = omega arith

place_in_bound : (xs : List ℕ) (n : ℕ) → place_in xs n ≤ length xs
place_in_bound [] n = omega arith
place_in_bound (x ∷ xs) n = step_bound (eqb n x) (place_in xs n) (length xs) (place_in_bound xs n)

route_bound : (route : RouteName) → route_place route < 6
route_bound Debuginfo = omega arith
route_bound Executable = omega arith
route_bound Source = omega arith
route_bound Section = omega arith
route_bound Metrics = omega arith
route_bound Other = omega arith

-- each number has a place in a row
pub place_bound : (number : Number) → number_place number < 53
place_bound (Requests route status) = omega (arith, route_bound route, place_in_bound statuses status)
place_bound Bytes = omega arith
place_bound Added = omega arith
place_bound Replaced = omega arith
place_bound Dropped = omega arith
place_bound Passes = omega arith

-- two ways to ask whether a sum stays below 2^64
pub room_same : (k n : ℕ) → n < 2 ^ 64 → leb k (18446744073709551615 - n) ≡ ltb (n + k) (2 ^ 64)
room_same k n small = grind (arith, nat_tests)

pub below_limit : (n : ℕ) → ltb n (2 ^ 64) ≡ true → n < 2 ^ 64
below_limit n h = grind (arith, nat_tests)
