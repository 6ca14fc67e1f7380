-- Texts that end with a 0, and the bytes that they begin with.
use Rattle.std.proofs.Common.{◌≡◌, sym, ◌∙◌, ap, subst, refl, ℕ, ◌+◌, ◌-◌, ◌<◌, ◌≤◌, Bool, true, false, not, ◌&&◌, List, [], ◌∷◌, length, get_or, take, drop, ◌==◌, Option, Some, None, arith, length-drop}
use Rattle.std.specs.Prelude.{nat_eq, nat_lt, if◌then◌else◌}
use Rattle.std.specs.List.{position, prefix_len, starts_with, take_while, list_any}
use Rattle.std.specs.Option.{option_map, option_map_or}
use Rattle.std.specs.Cmp.Lexicographic.{same_text}
use Rattle.std.proofs.lemmas.Bool.{eqb-true, eq-eqb, lt-ltb, le-ltb, ltb-true}
use Rattle.std.proofs.lemmas.List.{get_or-drop, get_or-take, length-take-le}
use Rattle.std.proofs.lemmas.List.Folds.{list_any_at}
use Rattle.std.proofs.lemmas.List.Sums.{prefix_len_is, prefix_len_passes, prefix_len_stops, take_while-cons}
use Rattle.std.proofs.lemmas.Slice.Eq.{bytes_eq-Decides}
use Rattle.file_formats.specs.Sections.{text_at}
use Rattle.elf_file.specs.Texts.{IsTextsEnd, has_no_zero, is_text_first, is_zero_at}

-- ---- tests

-- the parts of a test of two
both_true : {a b : Bool} → (a && b) ≡ true → (a ≡ true) × (b ≡ true)
both_true {a = true} {b = true} e = (refl, refl)
both_true {a = true} {b = false} e = cc
both_true {a = false} e = cc

both_so : {a b : Bool} → a ≡ true → b ≡ true → (a && b) ≡ true
both_so {a = true} e f = f
both_so {a = false} e f = e

not_true : {b : Bool} → not b ≡ true → b ≡ false
not_true {b = true} e = sym e
not_true {b = false} e = refl

not_false : {b : Bool} → not b ≡ false → b ≡ true
not_false {b = true} e = refl
not_false {b = false} e = sym e

never_not : {b : Bool} → not b ≡ true → b ≡ true → ⊥
never_not {b = true} e h = cc
never_not {b = false} e h = cc

not_so : {b : Bool} → (b ≡ true → ⊥) → not b ≡ true
not_so {b = true} f = absurd (f refl)
not_so {b = false} f = refl

-- ---- the bytes before the first 0

-- the byte isn't 0
abbrev pub isnt_zero : ℕ → Bool
isnt_zero x = not (x == 0)

-- how many bytes stand before the first 0
abbrev zero_place : List ℕ → ℕ
zero_place xs = prefix_len isnt_zero xs

-- the bytes before it
abbrev front : List ℕ → List ℕ
front xs = take_while isnt_zero xs

-- a 0 stands there, where there is one
zero_at : (xs : List ℕ) → zero_place xs < length xs → (get_or xs (zero_place xs) 0 == 0) ≡ true
zero_at xs inside = not_false (prefix_len_stops isnt_zero xs 0 inside)

-- a 0 is found where one is
found_zero : (xs : List ℕ) (k : ℕ) → k < length xs → get_or xs k 0 ≡ 0 → zero_place xs < length xs
found_zero xs k inside zero =
    let most : k < zero_place xs → ⊥ = λ (h : k < zero_place xs).
    never_not (prefix_len_passes isnt_zero xs k 0 h) (eq-eqb (get_or xs k 0) 0 zero) in
    omega (arith, most)

-- what a prefix's first byte says of a byte that is 0, or isn't
agree : (x q : ℕ) (xs qs : List ℕ) (b : Bool) → (x == 0) ≡ b → (q == 0) ≡ false
    → starts_with nat_eq (front xs) qs ≡ starts_with nat_eq xs qs
    → starts_with nat_eq (front (x ∷ xs)) (q ∷ qs) ≡ starts_with nat_eq (x ∷ xs) (q ∷ qs)
agree x q xs qs true e f rest =
    let zero : x ≡ 0 = eqb-true x 0 e in
    let other : nat_eq q x ≡ false = rw zero f in
    rw (take_while-cons isnt_zero x xs, e, other)
agree x q xs qs false e f rest =
    rw (take_while-cons isnt_zero x xs) (rw e (ap (λ b. nat_eq q x && b) rest))

-- a prefix with no 0 ends before the first 0
pub starts-before_zero : (xs qs : List ℕ) → has_no_zero qs ≡ true
    → starts_with nat_eq (front xs) qs ≡ starts_with nat_eq xs qs
starts-before_zero xs [] h = refl
starts-before_zero [] (q ∷ qs) h = refl
starts-before_zero (x ∷ xs) (q ∷ qs) h =
    let parts : (not (q == 0) ≡ true) × (has_no_zero qs ≡ true) = both_true h in
    agree x q xs qs (x == 0) refl (not_true parts.0) (starts-before_zero xs qs parts.1)

-- ---- before the last 0, and behind it

-- before the last 0 a text begins as its bytes do
pub text-begins : {s : List ℕ} {end p : ℕ} (qs : List ℕ)
    → IsTextsEnd s end → has_no_zero qs ≡ true → p < end
    → starts_with nat_eq (drop p s) qs
    ≡ option_map_or (λ text. starts_with nat_eq text qs) (text_at s p) false
text-begins {s} {end} {p} qs ends none before =
    let last : p + (end - 1 - p) ≡ end - 1 = omega arith in
    let zero : get_or (drop p s) (end - 1 - p) 0 ≡ 0 =
    get_or-drop p s (end - 1 - p) 0 ∙ ap (λ k. get_or s k 0) last
    ∙ ends.zero_before (end - 1) (omega arith) in
    let inside : end ≤ length s = ends.inside in
    let there : zero_place (drop p s) < length (drop p s) =
    found_zero (drop p s) (end - 1 - p) (omega (arith, length-drop {A = ℕ})) zero in
    rw (lt-ltb _ _ there) (sym (starts-before_zero (drop p s) qs none))

-- behind it none stands
pub no_text : {s : List ℕ} {end p : ℕ} → IsTextsEnd s end → end ≤ p → text_at s p ≡ None
no_text {s} {end} {p} ends behind =
    let r = drop p s in
    let nowhere : zero_place r < length r → ⊥ = λ (h : zero_place r < length r).
    ends.none_after (p + zero_place r) (omega arith) (omega (arith, length-drop {A = ℕ}))
    (sym (get_or-drop p s (zero_place r) 0) ∙ eqb-true _ 0 (zero_at r h)) in
    rw (le-ltb (zero_place r) (length r) (omega (arith, nowhere)))

-- ---- a text that stands first

-- the bytes before the first 0, where there is one
abbrev first_text : List ℕ → Option (List ℕ)
first_text r = option_map (λ n. take n r) (position (λ x. x == 0) r)

-- a byte of a text with no 0 isn't 0
text_other : (text : List ℕ) (k : ℕ) → list_any (λ x. x == 0) text ≡ false → k < length text
    → isnt_zero (get_or text k 0) ≡ true
text_other text k none below =
    not_so (λ zero.
    let found : list_any (λ x. x == 0) text ≡ true =
    list_any_at (λ x. x == 0) text k 0 below zero in
    let both : false ≡ true = sym none ∙ found in cc)

-- a text with no 0 that a 0 follows is the one before the first 0
first_if : (r text : List ℕ) → is_text_first r text ≡ true → first_text r ≡ Some text
first_if r text h =
    let parts = both_true h in
    let begins = both_true parts.0 in
    let zero = both_true begins.1 in
    let same : text ≡ take (length text) r = same_text text (take (length text) r) (sym begins.0) in
    let inside : length text < length r = ltb-true (length text) (length r) zero.0 in
    let other : (k : ℕ) → k < length text → isnt_zero (get_or r k 0) ≡ true = λ k below.
    let byte : get_or text k 0 ≡ get_or r k 0 =
    ap (λ xs. get_or xs k 0) same ∙ get_or-take (length text) r k 0 below in
    rw (← byte) (text_other text k (not_true parts.1) below) in
    let size : zero_place r ≡ length text =
    prefix_len_is isnt_zero r (length text) 0 (omega arith) other (λ _. rw zero.1 refl) in
    rw size (rw (lt-ltb (length text) (length r) inside) (ap (λ xs. Some xs) (sym same)))

-- where a text is before the first 0, that 0 is there
there : (r text : List ℕ) (b : Bool) → nat_lt (zero_place r) (length r) ≡ b
    → option_map (λ n. take n r) (if b then Some (zero_place r) else None) ≡ Some text
    → (zero_place r < length r) × (front r ≡ text)
there r text true e h = (ltb-true (zero_place r) (length r) e, cc)
there r text false e h = absurd (cc)

-- no 0 stands before the first
none_before : (r : List ℕ) → list_any (λ x. x == 0) (front r) ≡ false
none_before [] = refl
none_before (x ∷ r) = one_before (x == 0) refl (none_before r)
  where
    one_before : (b : Bool) → (x == 0) ≡ b → list_any (λ y. y == 0) (front r) ≡ false
        → list_any (λ y. y == 0) (front (x ∷ r)) ≡ false
    one_before true e rest = rw (take_while-cons isnt_zero x r, e)
    one_before false e rest = rw (take_while-cons isnt_zero x r) (rw e (rw e rest))

-- the bytes before the first 0 are a text that stands first
first_is : (r : List ℕ) → zero_place r < length r → is_text_first r (front r) ≡ true
first_is r inside =
    let size : length (front r) ≡ zero_place r = length-take-le (zero_place r) r (omega arith) in
    let begins : starts_with nat_eq r (front r) ≡ true =
    rw size ((bytes_eq-Decides (front r) (front r)).1 refl) in
    let ends : is_zero_at r (length (front r)) ≡ true =
    rw size (both_so (lt-ltb (zero_place r) (length r) inside) (zero_at r inside)) in
    let none : not (list_any (λ x. x == 0) (front r)) ≡ true = rw (none_before r) refl in
    both_so (both_so begins ends) none

-- a text stands at a place exactly where the bytes from there begin with it
pub text-is : (s : List ℕ) (p : ℕ) (text : List ℕ)
    → (is_text_first (drop p s) text ≡ true → text_at s p ≡ Some text)
    × (text_at s p ≡ Some text → is_text_first (drop p s) text ≡ true)
text-is s p text = (
  first_if (drop p s) text,
  λ h.
      let found =
      there (drop p s) text (nat_lt (zero_place (drop p s)) (length (drop p s))) refl h in
      let P : List ℕ → Type 0 = λ xs. is_text_first (drop p s) xs ≡ true in
      subst P found.1 (first_is (drop p s) found.0),
)
