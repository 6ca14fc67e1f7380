-- Numbers never fall with more digits.
use Rattle.std.proofs.Common.{◌≡◌, ℕ, ◌+◌, ◌*◌, ◌<◌, ◌≤◌, Bool, true, false, ◌&&◌, Some, None, if◌then◌else◌, List, [], ◌∷◌, refl, ap, ◌∙◌, arith}
use Rattle.std.specs.Prelude.{nat_le}
use Rattle.std.proofs.lemmas.Bool.Decides.{nat_tests}
use Rattle.upstream_wire.specs.Framing.{is_digits, length_of}
use Rattle.std.specs.Char.{digit_value}
use Rattle.std.specs.Str.Parse.{digits_value, digits_value_after}

pub never_less : (n : ℕ) (ds : List ℕ) → n ≤ digits_value_after 10 n ds
never_less n [] = omega arith
never_less n (d ∷ ds) = let more = never_less (n * 10 + digit_value d) ds in omega arith

and_false : (b : Bool) → (b && false) ≡ false
and_false true = refl
and_false false = refl

larger : (n : ℕ) → 1073741824 < n → nat_le n 1073741824 ≡ false
larger n more = grind (arith, nat_tests)

-- a number past the limit is no length
pub too_long : (value : List ℕ) (n : ℕ) (ds : List ℕ) → 1073741824 < n → digits_value_after 10 n ds ≡ digits_value 10 value
    → length_of value ≡ None
too_long value n ds more same =
    let less = never_less n ds in
    let large : 1073741824 < digits_value 10 value = omega arith in
    let test : (is_digits value && nat_le (digits_value 10 value) 1073741824) ≡ false =
    ap (λ b. is_digits value && b) (larger (digits_value 10 value) large) ∙ and_false (is_digits value) in
    ap (λ (b : Bool). if b then Some (digits_value 10 value) else None) test
