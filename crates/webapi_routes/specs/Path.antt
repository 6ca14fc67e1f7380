-- The path of a request's target (RFC 3986, sections 2.1, 3.3 and 3.4): what stands before the query, and the text that it
-- spells. That this text holds no zero is this project's rule.
use Rattle.std.specs.Prelude.{◌≡◌, ℕ, ◌==◌, ◌&&◌, ◌||◌, Bool, true, false, not, List, [], ◌∷◌}
use Rattle.std.specs.Char.{is_ascii_hexdigit}
use Rattle.std.specs.List.{before_first, list_any}
use Rattle.std.specs.Str.{IsUtf8}
use Rattle.percent_encoding.specs.Percent.{percent_decode, percent_sign}

-- the bytes before the first `?`, and all of them where there is none
abbrev pub before_query : List ℕ → List ℕ
before_query target = before_first (λ b. b == 63) target

-- whether two hexadecimal digits stand in front
abbrev pub begins_with_digits : List ℕ → Bool
begins_with_digits (high ∷ low ∷ rest) = is_ascii_hexdigit high && is_ascii_hexdigit low
begins_with_digits _ = false

-- whether two hexadecimal digits stand behind each percent sign
abbrev pub has_whole_escapes : List ℕ → Bool
has_whole_escapes [] = true
has_whole_escapes (b ∷ rest) = (not (b == percent_sign) || begins_with_digits rest) && has_whole_escapes rest

-- whether a zero is among the bytes
abbrev pub holds_zero : List ℕ → Bool
holds_zero bytes = list_any (λ b. b == 0) bytes

-- a path spells a text: its escapes are whole, and what they leave is UTF-8 without a zero
pub record SpellsText (path : List ℕ) : Type 0 where
  pub escapes : has_whole_escapes path ≡ true
  pub utf8 : IsUtf8 (percent_decode path)
  pub no_zero : holds_zero (percent_decode path) ≡ false
