-- What is read at a place of DWARF's bytes, and where what follows begins (DWARF 5, section 7.5.5, "Classes and Forms",
-- and section 7.6, "Variable Length Data").
use Rattle.std.specs.Prelude.{ℕ, ◌+◌, ◌^◌, List, Bool, Option, Some, None, Result, Ok, Err, nat_le, nat_lt, if◌then◌else◌, length, drop, ◌==◌, ℤ, pos, negsuc}
use Rattle.std.specs.List.{position}
use Rattle.file_formats.specs.declared.encoding.Order.{Order}
use Rattle.file_formats.specs.declared.dwarf_forms.Width.{Width}
use Rattle.file_formats.specs.declared.dwarf_forms.Width.TheVariants.{One, Two, Three, Four, Eight, Offset, Leb}
use Rattle.file_formats.specs.Numbers.{bytes_at, number}
use Rattle.file_formats.specs.Leb128.{continued, uleb_at, sleb_at}

-- the bytes that values stand in, their order, whether their format is the 64-bit one, the size of an address, and the version of the
-- unit or table
pub record Input : Type 0 where
  pub bytes : List ℕ
  pub order : Order
  pub wide : Bool
  pub address_size : ℕ
  pub version : ℕ

-- a value, and the place where what follows it begins
pub record At (A : Type 0) : Type 0 where
  pub value : A
  pub next : ℕ

-- why no value stands at a place: the bytes end before it does, 64 bits don't hold a LEB128 number, or the form isn't known
pub data ReadFault : Type 0 where
  is_short : ReadFault
  is_wide : ReadFault
  is_unknown_form : ℕ → ReadFault

-- what is read at a place: a value, or the first fault
abbrev pub Read : Type 0 → Type 0
Read A = Result (At A) ReadFault

infixl 10 ◌>>=◌
-- what is read with the value, unless there is a fault
abbrev pub ◌>>=◌ : {A B : Type 0} → Read A → (At A → Read B) → Read B
(Ok x) >>= f = f x
(Err e) >>= f = Err e

-- the size of a place in a section: 4 bytes, or 8 in the 64-bit format
abbrev pub offset_size : Bool → ℕ
offset_size wide = if wide then 8 else 4

-- what the next n bytes mean, where they are there
abbrev pub fixed_at : {A : Type 0} → Input → ℕ → ℕ → (List ℕ → A) → Read A
fixed_at s n p meaning =
    if nat_le (p + n) (length s.bytes) then Ok (record { value = meaning (bytes_at s.bytes p n); next = p + n })
    else Err is_short

-- 64 bits hold the unsigned number
abbrev pub is_u64 : ℕ → Bool
is_u64 n = nat_lt n (2 ^ 64)

-- 64 bits hold the signed number; negsuc n is -1 - n
abbrev pub is_i64 : ℤ → Bool
is_i64 (pos n) = nat_lt n (2 ^ 63)
is_i64 (negsuc n) = nat_lt n (2 ^ 63)

-- a LEB128 number at place p with m bytes before its last one: short where no last one is there, wide where 64 bits don't hold it
abbrev pub leb_ending : {N : Type 0} → (N → Bool) → ℕ → Option N → Option ℕ → Read N
leb_ending fits p (Some n) (Some m) = if fits n then Ok (record { value = n; next = p + (m + 1) }) else Err is_wide
leb_ending fits p (Some n) None = Err is_short
leb_ending fits p None m = Err is_short

-- the unsigned LEB128 number at the place
abbrev pub unsigned_at : Input → ℕ → Read ℕ
unsigned_at s p = leb_ending is_u64 p (uleb_at s.bytes p) (continued s.bytes p)

-- the signed LEB128 number at the place
abbrev pub signed_at : Input → ℕ → Read ℤ
signed_at s p = leb_ending is_i64 p (sleb_at s.bytes p) (continued s.bytes p)

-- the number of a width at the place
abbrev pub number_at : Input → Width → ℕ → Read ℕ
number_at s One p = fixed_at s 1 p (number s.order)
number_at s Two p = fixed_at s 2 p (number s.order)
number_at s Three p = fixed_at s 3 p (number s.order)
number_at s Four p = fixed_at s 4 p (number s.order)
number_at s Eight p = fixed_at s 8 p (number s.order)
number_at s Offset p = fixed_at s (offset_size s.wide) p (number s.order)
number_at s Leb p = unsigned_at s p

-- the bytes of a text of n bytes, and the place behind its 0
abbrev pub ending_text : Input → ℕ → Option ℕ → Read (List ℕ)
ending_text s p (Some n) = Ok (record { value = bytes_at s.bytes p n; next = p + (n + 1) })
ending_text s p None = Err is_short

-- the bytes from the place to the next 0
abbrev pub string_at : Input → ℕ → Read (List ℕ)
string_at s p = ending_text s p (position (λ x. x == 0) (drop p s.bytes))
