-- The words of std's calls on the bytes of a number are number encodings.
use Rattle.std.proofs.Common.{◌≡◌, ℕ, zero, suc, ◌+◌, ◌*◌, ◌-◌, ◌^◌, ◌<◌, List, [], ◌∷◌, ◌++◌, length, take, get_or, refl, sym, ap, ◌∙◌, arith, add-one, take_all}
use Rattle.std.proofs.lemmas.List.{take_more, length-take-le, length_push}
use Rattle.std.proofs.Math.Nat.{pow-suc, mul_assoc, mul_comm, add-mul}
use Rattle.std.specs.Int.{Width, byte_len, byte_worth, sum_through, from_le_bytes, from_be_bytes}
use Rattle.file_formats.specs.declared.encoding.Order.{Order}
use Rattle.file_formats.specs.declared.encoding.Order.TheVariants.{Little, Big}
use Rattle.file_formats.specs.Numbers.{little, big, number}

byte_worth_is : (i b : ℕ) → byte_worth i b ≡ b * 256 ^ i
byte_worth_is zero b = grind arith
byte_worth_is (suc i) b = refl

higher : (y p : ℕ) → y * (p * 256) ≡ 256 * (y * p)
higher y p = sym (mul_assoc y p 256) ∙ mul_comm (y * p) 256

shifted : (sum worth high y p more : ℕ) → sum ≡ high * (p * 256) → worth ≡ y * p
    → more ≡ 256 * high + y → sum + worth ≡ more * p
shifted sum worth high y p more e f g =
    let up = higher high p in
    let joined = mul_assoc 256 high p in
    rw (g, add-mul) (omega arith)

-- one more byte at the end is the highest in little order
pub little_push : (xs : List ℕ) (y : ℕ) → little (xs ++ y ∷ []) ≡ little xs + y * 256 ^ length xs
unfolding little
little_push [] y = grind arith
little_push (x ∷ xs) y =
    let rest = little_push xs y in
    let up = higher y (256 ^ length xs) in
    rw pow-suc (omega arith)

-- and the lowest in big order
pub big_push : (xs : List ℕ) (y : ℕ) → big (xs ++ y ∷ []) ≡ 256 * big xs + y
unfolding big
big_push [] y = grind arith
big_push (x ∷ xs) y =
    let rest = big_push xs y in
    let long : length (xs ++ y ∷ []) ≡ suc (length xs) = omega (arith, length_push xs y) in
    let up = higher x (256 ^ length xs) in
    rw long (rw pow-suc (omega arith))

module _ (bytes : List ℕ) (k : ℕ) (within : k < length bytes) where
  first_more : take (suc k) bytes ≡ take k bytes ++ get_or bytes k 0 ∷ []
  first_more = rw (← add-one) (take_more bytes k 0 within)

  length_first : length (take k bytes) ≡ k
  length_first = length-take-le k bytes (omega arith)

  little_more : little (take (suc k) bytes) ≡ little (take k bytes) + get_or bytes k 0 * 256 ^ k
  little_more =
      ap little first_more ∙ little_push (take k bytes) (get_or bytes k 0)
      ∙ ap (λ n. little (take k bytes) + get_or bytes k 0 * 256 ^ n) length_first

  big_more : big (take (suc k) bytes) ≡ 256 * big (take k bytes) + get_or bytes k 0
  big_more = ap big first_more ∙ big_push (take k bytes) (get_or bytes k 0)

-- the number of the first k + 1 bytes as a sum of what they are worth
le_sum : (bytes : List ℕ) (k : ℕ) → k < length bytes
    → sum_through (λ i. byte_worth i (get_or bytes i 0)) k ≡ little (take (suc k) bytes)
unfolding little
le_sum bytes zero h = sym (little_more bytes 0 h ∙ grind arith)
le_sum bytes (suc k) h =
    let before = le_sum bytes k (omega arith) in
    let more = little_more bytes (suc k) h in
    omega arith

be_sum : (bytes : List ℕ) (top k j : ℕ) → k + j ≡ top → k < length bytes
    → sum_through (λ i. byte_worth (top - i) (get_or bytes i 0)) k
    ≡ big (take (suc k) bytes) * 256 ^ j
unfolding big
be_sum bytes top zero j e h =
    let here : top - 0 ≡ j = omega arith in
    rw here
    (byte_worth_is j (get_or bytes 0 0)
    ∙ ap (λ n. n * 256 ^ j) (sym (big_more bytes 0 h ∙ grind arith)))
be_sum bytes top (suc k) j e h =
    let here : top - suc k ≡ j = omega arith in
    let before = be_sum bytes top k (suc j) (omega arith) (omega arith) in
    rw here
    (shifted _ _ (big (take (suc k) bytes)) (get_or bytes (suc k) 0) (256 ^ j) _
    (before ∙ ap (λ n. big (take (suc k) bytes) * n) (pow-suc 256 j))
    (byte_worth_is j (get_or bytes (suc k) 0)) (big_more bytes (suc k) h))

-- std's calls on a whole number's bytes give the number that the bytes spell
module _
    (w : Width) (bytes : List ℕ) (long : length bytes ≡ byte_len w) (some : 0 < byte_len w) where
  pub le_number : from_le_bytes w bytes ≡ number Little bytes
  le_number =
      let all : take (suc (byte_len w - 1)) bytes ≡ bytes =
      take_all (suc (byte_len w - 1)) bytes (omega arith) in
      le_sum bytes (byte_len w - 1) (omega arith) ∙ ap little all

  pub be_number : from_be_bytes w bytes ≡ number Big bytes
  be_number =
      let all : take (suc (byte_len w - 1)) bytes ≡ bytes =
      take_all (suc (byte_len w - 1)) bytes (omega arith) in
      be_sum bytes (byte_len w - 1) (byte_len w - 1) 0 (omega arith) (omega arith)
      ∙ rw all (grind arith)

-- a byte of 0 in the highest place changes nothing
pub little_zero : (xs : List ℕ) → little (xs ++ 0 ∷ []) ≡ little xs
little_zero xs = little_push xs 0 ∙ grind arith

pub big_zero : (xs : List ℕ) → big (0 ∷ xs) ≡ big xs
unfolding big
big_zero xs = grind arith

-- a byte is its own number
pub number_one : (order : Order) (x : ℕ) → number order (x ∷ []) ≡ x
unfolding little big
number_one Little x = grind arith
number_one Big x = grind arith

-- three bytes, written out
pub three : (xs : List ℕ) → length xs ≡ 3 → xs ≡ get_or xs 0 0 ∷ get_or xs 1 0 ∷ get_or xs 2 0 ∷ []
three [] h = cc
three (a ∷ []) h = absurd (omega arith)
three (a ∷ b ∷ []) h = absurd (omega arith)
three (a ∷ b ∷ c ∷ []) h = refl
three (a ∷ b ∷ c ∷ d ∷ xs) h = absurd (omega arith)

-- one byte, written out
pub one : (xs : List ℕ) → length xs ≡ 1 → xs ≡ get_or xs 0 0 ∷ []
one [] h = cc
one (a ∷ []) h = refl
one (a ∷ b ∷ xs) h = absurd (omega arith)
