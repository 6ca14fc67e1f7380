-- The parts of row bytes, read back from where they were written, and written where they were read.
use Rattle.std.proofs.Common.{◌≡◌, ℕ, zero, suc, ◌<◌, ◌^◌, ◌++◌, ◌⊎◌, inl, inr, Bool, true, false, cond, List, [], ◌∷◌, length, take, drop, get_or, refl, sym, ◌∙◌, ap, subst, arith, append_assoc, length-append}
use Rattle.std.specs.Prelude.{Result, Ok, Err, nat_lt}
use Rattle.std.specs.Int.{w32, w64, from_le_bytes, to_le_bytes}
use Rattle.std.proofs.Math.Seq.{take-append_seam, drop-append_seam}
use Rattle.std.proofs.lemmas.Bool.{le-ltb, ltb-false}
use Rattle.std.proofs.lemmas.List.{length-take-le, take-append-drop}
use Rattle.std.proofs.lemmas.Nat.{from_le_bytes-to_le_bytes_4, from_le_bytes-to_le_bytes_8, le_bytes_4, le_bytes_8}
use Rattle.row_codec.specs.Read.{and_then, one_byte, some_bytes, eight_at, four_at, tested, text_in_front}
use Rattle.row_codec.specs.RowBytes.{eight_bytes, four_bytes, spelled_text}
use Rattle.row_codec.specs.declared.fault.CodecFault.{CodecFault}
use Rattle.row_codec.specs.declared.fault.CodecFault.TheVariants.{Short}

-- the numbers are bytes
abbrev pub AreBytes : List ℕ → Type 0
AreBytes bytes = (i : ℕ) → get_or bytes i 0 < 256

pub behind_bytes : (xs ys : List ℕ) → AreBytes (xs ++ ys) → AreBytes ys
behind_bytes [] ys h = h
behind_bytes (x ∷ xs) ys h = behind_bytes xs ys (λ i. h (suc i))

front_bytes : (xs ys : List ℕ) → AreBytes (xs ++ ys) → (i : ℕ) → get_or xs i 0 < 256
front_bytes [] ys h i = omega arith
front_bytes (x ∷ xs) ys h zero = h zero
front_bytes (x ∷ xs) ys h (suc i) = front_bytes xs ys (λ k. h (suc k)) i

-- what a part with what follows it gives, is given by what follows the part
pub record Led {X Y : Type 0} (front : Result (X × List ℕ) CodecFault) (next : X → List ℕ → Result Y CodecFault) (y : Y) : Type 0 where
  pub part : X
  pub rest : List ℕ
  pub read : front ≡ Ok (part, rest)
  pub then : next part rest ≡ Ok y

pub led : {X Y : Type 0} (front : Result (X × List ℕ) CodecFault) (next : X → List ℕ → Result Y CodecFault) (y : Y) → and_then front next ≡ Ok y → Led front next y
unfolding and_then
led (Ok part) next y h = record { part = part.0; rest = part.1; read = refl; then = h }
led (Err fault) next y h =
    let none : ⊥ = cc in absurd none

-- the same, handed on: the part and the rest are then plain variables
pub by_led : {X Y : Type 0} (front : Result (X × List ℕ) CodecFault) (next : X → List ℕ → Result Y CodecFault) (y : Y) (C : Type 0) → and_then front next ≡ Ok y → ((part : X) (rest : List ℕ) → front ≡ Ok (part, rest) → next part rest ≡ Ok y → C) → C
by_led front next y C e says =
    let one = led front next y e in says one.part one.rest one.read one.then

-- a part and the bytes behind it
abbrev pub given : {X : Type 0} → X → List ℕ → Result (X × List ℕ) CodecFault
given part rest = Ok (part, rest)

-- and the other way round
pub leads : {X Y : Type 0} (front : Result (X × List ℕ) CodecFault) (next : X → List ℕ → Result Y CodecFault) (x : X) (rest : List ℕ) (y : Result Y CodecFault) → front ≡ Ok (x, rest) → next x rest ≡ y → and_then front next ≡ y
unfolding and_then
leads front next x rest y e h = rw e h

pub fails : {X Y : Type 0} (front : Result (X × List ℕ) CodecFault) (next : X → List ℕ → Result Y CodecFault) (fault : CodecFault) → front ≡ Err fault → and_then front next ≡ Err fault
unfolding and_then
fails front next fault e = rw e refl

-- the same, where memory may be wanting
pub fails_or : {X Y : Type 0} {M : Type 0} (front : Result (X × List ℕ) CodecFault) (next : X → List ℕ → Result Y CodecFault) (fault : CodecFault) → (front ≡ Err fault) ⊎ M → (and_then front next ≡ Err fault) ⊎ M
fails_or front next fault (inl e) = inl (fails front next fault e)
fails_or front next fault (inr m) = inr m

pub leads_or : {X Y : Type 0} {M : Type 0} (front : Result (X × List ℕ) CodecFault) (next : X → List ℕ → Result Y CodecFault) (x : X) (rest : List ℕ) (y : Result Y CodecFault) → front ≡ Ok (x, rest) → (next x rest ≡ y) ⊎ M → (and_then front next ≡ y) ⊎ M
leads_or front next x rest y e (inl h) = inl (leads front next x rest y e h)
leads_or front next x rest y e (inr m) = inr m

-- a part that is read passed its test
pub test_passed : {X : Type 0} (passes : Bool) (x y : X) (xs ys : List ℕ) (fault : CodecFault) → tested passes x xs fault ≡ Ok (y, ys) → (passes ≡ true) × (x ≡ y) × (xs ≡ ys)
test_passed {X} true x y xs ys fault h =
    let same : (x, xs) ≡ (y, ys) = cc in (refl, ap (λ (p : X × List ℕ). p.0) same, ap (λ (p : X × List ℕ). p.1) same)
test_passed false x y xs ys fault h =
    let none : ⊥ = cc in absurd none

pub passes_test : {X : Type 0} (passes : Bool) (x : X) (xs : List ℕ) (fault : CodecFault) → passes ≡ true → tested passes x xs fault ≡ Ok (x, xs)
passes_test true x xs fault h = refl
passes_test false x xs fault h =
    let none : ⊥ = cc in absurd none

pub test_failed : {X : Type 0} (passes : Bool) (x : X) (xs : List ℕ) (fault : CodecFault) → passes ≡ false → tested passes x xs fault ≡ Err fault
test_failed true x xs fault h =
    let none : ⊥ = cc in absurd none
test_failed false x xs fault h = refl

-- a byte
pub byte_written : (bytes : List ℕ) (b : ℕ) (rest : List ℕ) → one_byte bytes ≡ Ok (b, rest) → bytes ≡ b ∷ rest
unfolding one_byte
byte_written [] b rest h = cc
byte_written (a ∷ bytes) b rest h =
    let same : (a, bytes) ≡ (b, rest) = cc in ap (λ (p : ℕ × List ℕ). p.0 ∷ p.1) same

-- numbers
pub record Numbered (spelled : ℕ → List ℕ) (bound : ℕ) (bytes : List ℕ) (n : ℕ) (rest : List ℕ) : Type 0 where
  pub below : n < bound
  pub written : bytes ≡ spelled n ++ rest

pub four_written : (bytes : List ℕ) (n : ℕ) (rest : List ℕ) → AreBytes bytes → four_at bytes ≡ Ok (n, rest) → Numbered four_bytes (2 ^ 32) bytes n rest
unfolding four_at four_bytes
four_written (a ∷ b ∷ c ∷ d ∷ bytes) n rest h e =
    let xs : List ℕ = a ∷ b ∷ c ∷ d ∷ [] in
    let m : ℕ = from_le_bytes w32 xs in
    let same : (m, bytes) ≡ (n, rest) = cc in
    let small : m < 2 ^ 32 = let p = h 0 in let q = h 1 in let r = h 2 in let s = h 3 in omega arith in
    let back : to_le_bytes w32 m ≡ xs = le_bytes_4 xs m refl (front_bytes xs bytes h) refl in
    subst (λ (p : ℕ × List ℕ). Numbered (to_le_bytes w32) (2 ^ 32) (a ∷ b ∷ c ∷ d ∷ bytes) p.0 p.1) same
    (record { below = small; written = ap (λ (ys : List ℕ). ys ++ bytes) (sym back) })
four_written _ n rest h e =
    let none : ⊥ = cc in absurd none

pub four_read : (n : ℕ) (rest : List ℕ) → n < 2 ^ 32 → four_at (four_bytes n ++ rest) ≡ Ok (n, rest)
unfolding four_at four_bytes
four_read n rest h = ap (λ (m : ℕ). Ok (m, rest)) (from_le_bytes-to_le_bytes_4 n h)

pub eight_written : (bytes : List ℕ) (n : ℕ) (rest : List ℕ) → AreBytes bytes → eight_at bytes ≡ Ok (n, rest) → Numbered eight_bytes (2 ^ 64) bytes n rest
unfolding eight_at eight_bytes
eight_written (a ∷ b ∷ c ∷ d ∷ e ∷ f ∷ g ∷ i ∷ bytes) n rest h k =
    let xs : List ℕ = a ∷ b ∷ c ∷ d ∷ e ∷ f ∷ g ∷ i ∷ [] in
    let m : ℕ = from_le_bytes w64 xs in
    let same : (m, bytes) ≡ (n, rest) = cc in
    let small : m < 2 ^ 64 = let p = h 0 in let q = h 1 in let r = h 2 in let s = h 3 in let t = h 4 in let u = h 5 in let v = h 6 in let w = h 7 in omega arith in
    let back : to_le_bytes w64 m ≡ xs = le_bytes_8 xs m refl (front_bytes xs bytes h) refl in
    subst (λ (p : ℕ × List ℕ). Numbered (to_le_bytes w64) (2 ^ 64) (a ∷ b ∷ c ∷ d ∷ e ∷ f ∷ g ∷ i ∷ bytes) p.0 p.1) same
    (record { below = small; written = ap (λ (ys : List ℕ). ys ++ bytes) (sym back) })
eight_written _ n rest h k =
    let none : ⊥ = cc in absurd none

pub eight_read : (n : ℕ) (rest : List ℕ) → n < 2 ^ 64 → eight_at (eight_bytes n ++ rest) ≡ Ok (n, rest)
unfolding eight_at eight_bytes
eight_read n rest h = ap (λ (m : ℕ). Ok (m, rest)) (from_le_bytes-to_le_bytes_8 n h)

-- so many bytes
pub bytes_written : (count : ℕ) (bytes x rest : List ℕ) → some_bytes count bytes ≡ Ok (x, rest) → (length x ≡ count) × (bytes ≡ x ++ rest)
unfolding some_bytes
bytes_written count bytes x rest h = by_test (nat_lt (length bytes) count) refl h
  where
    by_test : (short : Bool) → nat_lt (length bytes) count ≡ short → cond short (Err Short) (given (take count bytes) (drop count bytes)) ≡ given x rest → (length x ≡ count) × (bytes ≡ x ++ rest)
    by_test true s h =
        let none : ⊥ = cc in absurd none
    by_test false s h =
        let same : (take count bytes, drop count bytes) ≡ (x, rest) = cc in
        subst (λ (p : List ℕ × List ℕ). (length p.0 ≡ count) × (bytes ≡ p.0 ++ p.1)) same
        (length-take-le count bytes (ltb-false (length bytes) count s), sym (take-append-drop count bytes))

pub bytes_read : (x rest : List ℕ) → some_bytes (length x) (x ++ rest) ≡ Ok (x, rest)
unfolding some_bytes
bytes_read x rest =
    ap (λ (short : Bool). cond short (Err Short) (given (take (length x) (x ++ rest)) (drop (length x) (x ++ rest)))) (le-ltb (length (x ++ rest)) (length x) (simp length-append (omega arith)))
    ∙ ap (λ (front : List ℕ). given front (drop (length x) (x ++ rest))) (take-append_seam x rest) ∙ ap (given x) (drop-append_seam x rest)

-- texts
pub text_written : (bytes x rest : List ℕ) → AreBytes bytes → text_in_front bytes ≡ Ok (x, rest) → bytes ≡ spelled_text x ++ rest
unfolding text_in_front
text_written bytes x rest h e =
    let first = led _ _ _ e in
    let number = four_written bytes first.part first.rest h first.read in
    let parts = bytes_written first.part first.rest x rest first.then in
    number.written ∙ ap (λ (n : ℕ). four_bytes n ++ first.rest) (sym parts.0) ∙ ap (λ (ys : List ℕ). four_bytes (length x) ++ ys) parts.1
    ∙ sym (append_assoc (four_bytes (length x)) x rest)

pub text_read : (x rest : List ℕ) → length x < 2 ^ 32 → text_in_front (spelled_text x ++ rest) ≡ Ok (x, rest)
unfolding text_in_front
text_read x rest h =
    ap text_in_front (append_assoc (four_bytes (length x)) x rest) ∙ leads _ _ _ _ _ (four_read (length x) (x ++ rest) h) (bytes_read x rest)
