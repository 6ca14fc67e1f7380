-- Numbers of a command line (this project's rule): 1 to 20 decimal digits without a sign. Leading zeros are fine.
use Rattle.std.specs.Prelude.{ℕ, Bool, ◌&&◌, nat_le, List, length, Option, Some, None, if◌then◌else◌}
use Rattle.std.specs.List.{list_all}
use Rattle.std.specs.Char.{is_ascii_digit}
use Rattle.std.specs.Str.Parse.{digits_value}
use Rattle.dbgd_words.specs.declared.number.TheConstants.{MOST_DIGITS}

-- whether a text is a number
abbrev pub is_number : List ℕ → Bool
is_number text = nat_le 1 (length text) && (nat_le (length text) MOST_DIGITS && list_all is_ascii_digit text)

-- whether a number is one of these, the ends among them
abbrev pub is_between : ℕ → ℕ → ℕ → Bool
is_between least most number = nat_le least number && nat_le number most

-- the number that a text spells, where it is one of these
abbrev pub spelled_number : ℕ → ℕ → List ℕ → Option ℕ
spelled_number least most text =
    if is_number text && is_between least most (digits_value 10 text)
    then Some (digits_value 10 text) else None
