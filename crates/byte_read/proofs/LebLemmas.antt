-- An LEB128 number is the sum of its septets, taken one after another.
use Rattle.std.proofs.Common.{◌≡◌, ℕ, ◌+◌, ◌*◌, ◌-◌, ◌^◌, ◌%◌, ◌/◌, ◌<◌, Bool, true, false, List, [], ◌∷◌, ◌++◌, length, take, map, get_or, lt-ltb, Some, None, refl, sym, ap, ◌∙◌, subst, arith, add-one, pos, negsuc, ℤ, ◌-ℤ◌, ◌==◌, if◌then◌else◌, nat_lt}
use Rattle.std.specs.List.{position_or_len}
use Rattle.std.proofs.lemmas.List.Sums.{position_or_len_is}
use Rattle.std.proofs.lemmas.List.{take_more, length-take-le, length-map, map-append, get_or-take}
use Rattle.std.proofs.lemmas.Int.{ints}
use Rattle.std.proofs.Math.Nat.{pow-suc, mul_assoc, mul_comm}
use Rattle.file_formats.specs.Leb128.{continued, septets, signed_septets}
use Rattle.byte_read.specs.declared.leb.Septets.{Septets}
use Rattle.byte_read.specs.Reads.{fits_u64}
use Rattle.byte_read.specs.Septets.{sum_with, flipped, digit_of, fitting, leb_of, turned, unsigned}

higher : (y p : ℕ) → y * (p * 128) ≡ 128 * (y * p)
higher y p = sym (mul_assoc y p 128) ∙ mul_comm (y * p) 128

septets_push : (xs : List ℕ) (y : ℕ)
    → septets (xs ++ y ∷ []) ≡ septets xs + y % 128 * 128 ^ length xs
unfolding septets
septets_push [] y = grind arith
septets_push (x ∷ xs) y =
    let rest = septets_push xs y in
    let up = higher (y % 128) (128 ^ length xs) in
    rw pow-suc (omega arith)

length-turned : (negative : Bool) (xs : List ℕ) → length (turned negative xs) ≡ length xs
length-turned false xs = refl
length-turned true xs = length-map xs flipped

turned_push : (negative : Bool) (xs : List ℕ) (y : ℕ)
    → septets (turned negative (xs ++ y ∷ []))
    ≡ septets (turned negative xs) + digit_of negative y * 128 ^ length xs
turned_push false xs y = septets_push xs y
turned_push true xs y =
    let small : flipped y % 128 ≡ flipped y = omega arith in
    ap septets (map-append flipped xs (y ∷ [])) ∙ septets_push (map flipped xs) (flipped y)
    ∙ ap (λ n. septets (map flipped xs) + n * 128 ^ length (map flipped xs)) small
    ∙ ap (λ n. septets (map flipped xs) + flipped y * 128 ^ n) (length-map xs flipped)

pub turned_none : (negative : Bool) → septets (turned negative []) ≡ 0
unfolding septets
turned_none false = refl
turned_none true = refl

-- one byte more is worth 128 to the power of how many stand before it
turned_more : (negative : Bool) (bytes : List ℕ) (i : ℕ) → i < length bytes
    → septets (turned negative (take (i + 1) bytes))
    ≡ septets (turned negative (take i bytes)) + digit_of negative (get_or bytes i 0) * 128 ^ i
turned_more negative bytes i within =
    let x = get_or bytes i 0 in
    ap (λ xs. septets (turned negative xs)) (take_more bytes i 0 within)
    ∙ turned_push negative (take i bytes) x
    ∙ ap (λ n. septets (turned negative (take i bytes)) + digit_of negative x * 128 ^ n)
    (length-take-le i bytes (omega arith))

-- what a call of add says
abbrev pub AddsSeptet : ℕ → Septets → Septets → Type 0
AddsSeptet septet old new =
    (sum worth : ℕ) → old ≡ sum_with sum worth → new ≡ sum_with (sum + septet * worth) (worth * 128)

-- a turn of the loop
pub sum_more : {old new : Septets} (negative : Bool) (bytes : List ℕ) (i : ℕ) → i < length bytes
    → old ≡ sum_with (septets (turned negative (take i bytes))) (128 ^ i)
    → AddsSeptet (digit_of negative (get_or bytes i 0)) old new
    → new ≡ sum_with (septets (turned negative (take (i + 1) bytes))) (128 ^ (i + 1))
sum_more negative bytes i within is adds =
    let worth : 128 ^ i * 128 ≡ 128 ^ (i + 1) = rw (add-one, pow-suc) in
    rw (turned_more negative bytes i within, ← worth) (adds _ _ is)

-- the septets and the septets turned over make all ones
septets-flipped : (xs : List ℕ) → septets xs + septets (map flipped xs) + 1 ≡ 128 ^ length xs
unfolding septets
septets-flipped [] = refl
septets-flipped (x ∷ xs) =
    let rest = septets-flipped xs in
    let turned : flipped x % 128 ≡ 127 - x % 128 = omega arith in
    rw (pow-suc, turned) (omega arith)

-- the number of a sum, by its sign
abbrev pub signed_as : Bool → ℕ → ℤ
signed_as negative n = if negative then negsuc n else pos n

-- the number by the sign of its last byte
pub signed_by : (negative : Bool) (bytes : List ℕ) (m : ℕ) → m < length bytes
    → (get_or bytes m 0 / 64 % 2 == 1) ≡ negative
    → signed_septets (take (m + 1) bytes) m
    ≡ signed_as negative (septets (turned negative (take (m + 1) bytes)))
signed_by negative bytes m within sign =
    let here : get_or (take (m + 1) bytes) m 0 ≡ get_or bytes m 0 =
    get_or-take (m + 1) bytes m 0 (omega arith) in
    rw (here, sign) (by_sign negative)
  where
    by_sign : (negative : Bool)
        → (if negative
        then pos (septets (take (m + 1) bytes)) -ℤ pos (128 ^ (m + 1))
        else pos (septets (take (m + 1) bytes)))
        ≡ signed_as negative (septets (turned negative (take (m + 1) bytes)))
    by_sign false = refl
    by_sign true =
        let all = take (m + 1) bytes in
        let ones : septets all + septets (map flipped all) + 1 ≡ 128 ^ (m + 1) =
        septets-flipped all ∙ ap (λ n. 128 ^ n) (length-take-le (m + 1) bytes (omega arith)) in
        omega (arith, ints)

-- a number of one byte is the byte
one_low : (x : ℕ) → x < 128 → septets (x ∷ []) ≡ x
unfolding septets
one_low x small = omega (arith, small)

fits_small : (x : ℕ) → x < 128 → fitting fits_u64 x ≡ Some x
fits_small x small =
    ap (λ (v : Bool). if v then Some x else None) (lt-ltb x (2 ^ 64) (omega (arith, small)))

one_septet : (x : ℕ) → x < 128 → fitting fits_u64 (septets (x ∷ [])) ≡ Some x
one_septet x small =
    subst (λ n. fitting fits_u64 n ≡ Some x) (sym (one_low x small)) (fits_small x small)

-- the first byte is the last one where its top bit isn't set
first_last : (x : ℕ) (xs : List ℕ) → x < 128 → continued (x ∷ xs) 0 ≡ Some 0
first_last x xs small =
    let first : position_or_len (λ y. nat_lt y 128) (x ∷ xs) ≡ 0 =
    position_or_len_is (λ y. nat_lt y 128) (x ∷ xs) 0 0 (omega arith)
    (λ k below. absurd (omega (arith, below))) (λ _. lt-ltb x 128 small) in
    rw (first, lt-ltb 0 (length (x ∷ xs)) (omega arith))

-- a first byte whose top bit isn't set is a number by itself
pub one_first : (bytes : List ℕ) (d : ℕ) {n : ℕ} → 0 < length bytes → get_or bytes 0 d < 128
    → n ≡ get_or bytes 0 d
    → Some (record { number = Some n; size = 1 }) ≡ leb_of fits_u64 unsigned bytes
one_first [] d there small e = absurd (omega (arith, there))
one_first (x ∷ xs) d {n} there small e =
    rw (first_last x xs small)
    (ap (λ v. Some (record { number = v; size = 1 })) (ap Some e ∙ sym (one_septet x small)))
