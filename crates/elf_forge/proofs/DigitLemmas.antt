-- Six digits tell a number below 1,000,000, and none is a slash or a full stop.
use Rattle.std.proofs.Common.{◌≡◌, ◌≢◌, ℕ, ◌+◌, ◌-◌, ◌*◌, ◌/◌, ◌%◌, ◌<◌, ◌&&◌, ◌||◌, true, false, not, List, [], ◌∷◌, ◌++◌}
use Rattle.std.proofs.Common.{refl, sym, ◌∙◌, ap, subst, arith}
use Rattle.std.specs.Prelude.{◌==◌, codes}
use Rattle.std.specs.Str.{bytes_eq}
use Rattle.std.proofs.Math.Nat.{div-div-eq-div-mul, div-eq_of_lt}
use Rattle.std.proofs.lemmas.Nat.{div-add-mod'}
use Rattle.std.proofs.lemmas.Bool.{and_from, ne_eqb, false≢true}
use Rattle.std.proofs.lemmas.List.Folds.{list_all-append}
use Rattle.row_types.specs.Canon.{stays}
use Rattle.row_types.proofs.CanonLemmas.{right_true}
use Rattle.tree_trait.specs.Entry.{has_no_slash, is_entry_name}
use Rattle.elf_forge.specs.Forge.{last_digit, six_digits}
use Rattle.elf_forge.specs.Place.{forged_path, forged_number_in}

-- a number divided once more, with the digit between
tens : (k m : ℕ) → k / (m * 10) * 10 + k / m % 10 ≡ k / m
tens k m = ap (λ q. q * 10 + k / m % 10) (sym (div-div-eq-div-mul k m 10)) ∙ div-add-mod' (k / m) 10

summed : (a b c d e f k q1 q2 q3 q4 q5 : ℕ) → q1 * 10 + f ≡ k → q2 * 10 + e ≡ q1 → q3 * 10 + d ≡ q2 → q4 * 10 + c ≡ q3
    → q5 * 10 + b ≡ q4 → 0 * 10 + a ≡ q5
    → (48 + a - 48) * 100000 + (48 + b - 48) * 10000 + (48 + c - 48) * 1000 + (48 + d - 48) * 100 + (48 + e - 48) * 10
    + (48 + f - 48) ≡ k
summed a b c d e f k q1 q2 q3 q4 q5 e1 e2 e3 e4 e5 e6 = omega arith

-- a file's path tells its number
pub number_of_path : (k : ℕ) → k < 1000000 → forged_number_in (forged_path k) ≡ k
number_of_path k small =
    summed (k / 100000 % 10) (k / 10000 % 10) (k / 1000 % 10) (k / 100 % 10) (k / 10 % 10) (k % 10) k (k / 10) (k / 100)
    (k / 1000) (k / 10000) (k / 100000) (div-add-mod' k 10) (tens k 10) (tens k 100) (tens k 1000) (tens k 10000)
    (subst (λ q. q * 10 + k / 100000 % 10 ≡ k / 100000) (div-eq_of_lt small) (tens k 100000))

-- two files of the same path are one
pub same_path : (k j : ℕ) → k < 1000000 → j < 1000000 → forged_path k ≡ forged_path j → k ≡ j
same_path k j small also e = sym (number_of_path k small) ∙ ap forged_number_in e ∙ number_of_path j also

pub same_number : (k j : ℕ) → k < 1000000 → j < 1000000 → six_digits k ≡ six_digits j → k ≡ j
same_number k j small also e = same_path k j small also (ap (λ digits. codes "/t/f/" ++ digits) e)

-- no digit is a slash or a full stop
no_slash : (n : ℕ) → not (last_digit n == 47) ≡ true
no_slash n = ap not (ne_eqb (last_digit n) 47 (λ e. omega (arith, e)))

pub digits_plain : (k : ℕ) → has_no_slash (six_digits k) ≡ true
digits_plain k =
    and_from _ _ (no_slash (k / 100000)) (and_from _ _ (no_slash (k / 10000)) (and_from _ _ (no_slash (k / 1000))
    (and_from _ _ (no_slash (k / 100)) (and_from _ _ (no_slash (k / 10)) (and_from _ _ (no_slash k) refl)))))

stays_from : (a : ℕ) (rest : List ℕ) → (a == 46) ≡ false → stays (a ∷ rest) ≡ true
stays_from a rest e =
    subst (λ b. not (false || (b && bytes_eq rest []) || (b && bytes_eq rest (codes "."))) ≡ true) (sym e) refl

pub digits_stay : (k : ℕ) → stays (six_digits k) ≡ true
digits_stay k =
    stays_from (last_digit (k / 100000))
    (last_digit (k / 10000) ∷ last_digit (k / 1000) ∷ last_digit (k / 100) ∷ last_digit (k / 10) ∷ last_digit k ∷ [])
    (ne_eqb (last_digit (k / 100000)) 46 (λ e. omega (arith, e)))

-- six digits are an entry's name
pub digits_name : (k : ℕ) → is_entry_name (six_digits k) ≡ true
digits_name k = and_from _ _ (digits_stay k) (digits_plain k)

-- no slash stands among the digits
pub no_slash_in : (k : ℕ) (before after : List ℕ) → six_digits k ≢ before ++ 47 ∷ after
no_slash_in k before after e =
    let whole : has_no_slash (before ++ 47 ∷ after) ≡ true = subst (λ t. has_no_slash t ≡ true) e (digits_plain k) in
    false≢true (right_true (has_no_slash before) _ (sym (list_all-append (λ b. not (b == 47)) before (47 ∷ after)) ∙ whole))
