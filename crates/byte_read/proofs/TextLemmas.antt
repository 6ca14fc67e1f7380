-- What a search of a 0 finds is the first place of one.
use Rattle.std.proofs.Common.{◌≡◌, ℕ, ◌<◌, List, length, Option, Some, None, arith, eqb}
use Rattle.std.proofs.lemmas.List.Sums.{position_or_len_is}
use Rattle.std.proofs.lemmas.Bool.{lt-ltb, le-ltb, ne_eqb, eq-eqb}
use Rattle.std.specs.List.{position, position_or_len}
use Rattle.memchr.specs.Find.{IsFirstByte, is_byte}

pub first_is_position : (byte : ℕ) (bytes : List ℕ) (found : Option ℕ)
    → IsFirstByte (is_byte byte) bytes found → found ≡ position (λ x. eqb x byte) bytes
first_is_position byte bytes None nowhere =
    let first : position_or_len (λ x. eqb x byte) bytes ≡ length bytes =
    position_or_len_is (λ x. eqb x byte) bytes (length bytes) 0 (omega arith)
    (λ k below. ne_eqb _ _ (λ e. nowhere k (omega arith) below (eq-eqb _ _ e)))
    (λ past. absurd (omega arith)) in
    rw (first, le-ltb (length bytes) (length bytes) (omega arith))
first_is_position byte bytes (Some k) h =
    let within : k < length bytes = h.0.high in
    let first : position_or_len (λ x. eqb x byte) bytes ≡ k =
    position_or_len_is (λ x. eqb x byte) bytes k 0 (omega arith)
    (λ j below. ne_eqb _ _ (λ e. h.0.before j (omega arith) below (eq-eqb _ _ e)))
    (λ _. h.1) in
    rw (first, lt-ltb k (length bytes) within)
