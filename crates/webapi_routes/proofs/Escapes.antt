-- The set of the code escapes the bytes of the definition, and what is escaped reads back.
use Rattle.std.proofs.Common.{◌≡◌, ◌≢◌, ℕ, ◌<◌, ◌/◌, ◌%◌, List, [], ◌∷◌, ◌++◌, Bool, true, false, not, refl, ap, ◌∙◌, arith, All, length, get_or, ⊎_elim}
use Rattle.std.specs.Prelude.{if◌then◌else◌, ◌==◌}
use Rattle.std.specs.Char.{is_ascii_hexdigit}
use Rattle.std.specs.Fmt.{digit_glyph}
use Rattle.std.specs.List.{position_or_len}
use Rattle.std.proofs.lemmas.Bool.{agree_below_at, and_from, cases_Bool}
use Rattle.std.proofs.lemmas.Bool.Decides.{nat_tests}
use Rattle.std.proofs.lemmas.List.{take_all}
use Rattle.std.proofs.lemmas.List.Elements.{All-head, All-tail}
use Rattle.std.proofs.lemmas.List.Sums.{position_or_len_is}
use Rattle.percent_encoding.specs.Percent.{percent_encode, percent_encode_byte, encode_byte}
use Rattle.percent_encoding.specs.AsciiSet.{should_percent_encode}
use Rattle.percent_encoding.proofs.PercentLemmas.{All-percent_encode, IsEscapeByte, percent_encode-nil, percent_encode_escaped, percent_encode_kept}
use Rattle.webapi_routes.specs.Printed.{escaped_target, is_plain_byte}
use Rattle.webapi_routes.specs.Path.{begins_with_digits, has_whole_escapes, before_query}
use Rattle.webapi_routes.specs.declared.printing.TheConstants.{ESCAPED}

-- a byte is escaped where it doesn't stand for itself
escapes : (b : ℕ) → b < 256 → should_percent_encode ESCAPED b ≡ not (is_plain_byte b)
unfolding should_percent_encode
escapes b small = agree_below_at (should_percent_encode ESCAPED) (λ n. not (is_plain_byte n)) 256 b refl small

chosen : (kept : Bool) (a b : List ℕ) → if not kept then a else b ≡ if kept then b else a
chosen true a b = refl
chosen false a b = refl

pub escaped_is : (bytes : List ℕ) → All (λ b. b < 256) bytes → percent_encode ESCAPED bytes ≡ escaped_target bytes
unfolding percent_encode escaped_target
escaped_is [] small = refl
escaped_is (b ∷ bytes) small =
    let here = escapes b (All-head (λ n. n < 256) b bytes small) in
    let rest = escaped_is bytes (All-tail (λ n. n < 256) b bytes small) in
    let one : encode_byte ESCAPED b ≡ (if is_plain_byte b then b ∷ [] else percent_encode_byte b) =
    rw here (chosen (is_plain_byte b) (percent_encode_byte b) (b ∷ [])) in
    ap (λ tail. encode_byte ESCAPED b ++ tail) rest ∙ ap (λ front. front ++ escaped_target bytes) one

-- the question mark and the percent sign are escaped
mark_escaped : should_percent_encode ESCAPED 63 ≡ true
unfolding should_percent_encode
mark_escaped = refl

sign_escaped : should_percent_encode ESCAPED 37 ≡ true
unfolding should_percent_encode
sign_escaped = refl

no_mark_kept : (b : ℕ) → should_percent_encode ESCAPED b ≡ false → b ≢ 63
no_mark_kept b kept e = absurd (cc (mark_escaped, ap (should_percent_encode ESCAPED) e))

no_mark_digit : (b : ℕ) → IsEscapeByte b → b ≢ 63
no_mark_digit b h e = grind arith

-- nothing in the output begins a query
pub no_query : (bytes : List ℕ) → All (λ b. b ≢ 63) (percent_encode ESCAPED bytes)
no_query bytes = All-percent_encode (λ b. b ≢ 63) ESCAPED bytes no_mark_kept no_mark_digit

-- a number that isn't another
pub not_same : (b n : ℕ) → b ≢ n → (b == n) ≡ false
not_same b n ne = grind (arith, nat_tests)

-- the path of bytes without a question mark is all of them
pub all_path : (bytes : List ℕ) → All (λ b. b ≢ 63) bytes → before_query bytes ≡ bytes
all_path bytes none =
    let end : position_or_len (λ b. b == 63) bytes ≡ length bytes =
    position_or_len_is (λ b. b == 63) bytes (length bytes) 0 (omega arith) (λ k within. not_same (get_or bytes k 0) 63 (none k 0 within)) (λ within. absurd (omega arith)) in
    take_all (position_or_len (λ b. b == 63) bytes) bytes (omega (arith, end))

-- digits of escapes
digit_hex : (d : ℕ) → d < 16 → is_ascii_hexdigit (digit_glyph true d) ≡ true
digit_hex d small = agree_below_at (λ n. is_ascii_hexdigit (digit_glyph true n)) (λ _. true) 16 d refl small

digit_no_sign : (d : ℕ) → d < 16 → (digit_glyph true d == 37) ≡ false
digit_no_sign d small = agree_below_at (λ n. digit_glyph true n == 37) (λ _. false) 16 d refl small

-- bytes go on behind one that is no percent sign
whole_kept : (b : ℕ) (rest : List ℕ) → (b == 37) ≡ false → has_whole_escapes rest ≡ true → has_whole_escapes (b ∷ rest) ≡ true
whole_kept b rest other whole = rw (other, whole) refl

-- an escape is whole
whole_escape : (b : ℕ) (rest : List ℕ) → has_whole_escapes rest ≡ true → has_whole_escapes (percent_encode_byte b ++ rest) ≡ true
unfolding percent_encode_byte
whole_escape b rest whole =
    let high : ℕ = digit_glyph true (b / 16 % 16) in
    let low : ℕ = digit_glyph true (b % 16) in
    let behind : has_whole_escapes (high ∷ low ∷ rest) ≡ true =
    whole_kept high (low ∷ rest) (digit_no_sign (b / 16 % 16) (omega arith)) (whole_kept low rest (digit_no_sign (b % 16) (omega arith)) whole) in
    let digits : begins_with_digits (high ∷ low ∷ rest) ≡ true =
    and_from _ _ (digit_hex (b / 16 % 16) (omega arith)) (digit_hex (b % 16) (omega arith)) in
    and_from _ _ digits behind

-- the escapes of the output are whole
pub escapes_whole : (bytes : List ℕ) → has_whole_escapes (percent_encode ESCAPED bytes) ≡ true
escapes_whole [] = ap has_whole_escapes (percent_encode-nil ESCAPED)
escapes_whole (b ∷ bytes) =
    let rest = escapes_whole bytes in
    ⊎_elim
    (λ e. ap has_whole_escapes (percent_encode_escaped ESCAPED b bytes e) ∙ whole_escape b (percent_encode ESCAPED bytes) rest)
    (λ e. ap has_whole_escapes (percent_encode_kept ESCAPED b bytes e) ∙ whole_kept b (percent_encode ESCAPED bytes) (not_same b 37 (λ s. absurd (cc (e, sign_escaped, ap (should_percent_encode ESCAPED) s)))) rest)
    (cases_Bool (should_percent_encode ESCAPED b))
