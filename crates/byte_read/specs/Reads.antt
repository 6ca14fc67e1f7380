-- What a cursor's calls give, and when they refuse: one word for each family (number encodings of
-- the ELF gABI, chapter 4, "Data Representation"; LEB128 of DWARF 5, section 7.6).
use Rattle.std.specs.Prelude.{◌≡◌, ℕ, ◌+◌, ◌<◌, ◌≤◌, ◌^◌, ◌==◌, List, Option, Some, None, Result, Bool, nat_lt, if◌then◌else◌, length, ℤ, pos, negsuc, MatchResult}
use Rattle.std.specs.Option.{option_map}
use Rattle.std.specs.List.{position}
use Rattle.std.specs.Borrow.{Bor}
use Rattle.file_formats.specs.Numbers.{bytes_at, number}
use Rattle.file_formats.specs.Leb128.{continued}
use Rattle.file_formats.specs.Sections.{text_at}
use Rattle.byte_read.specs.declared.fault.Fault.{Fault}
use Rattle.byte_read.specs.declared.fault.Fault.TheVariants.{Short, Wide}
use Rattle.byte_read.specs.View.{View, left_of, passed}

-- the next n bytes, where they are there
abbrev pub bytes_here : View → ℕ → List ℕ
bytes_here v n = bytes_at v.bytes v.place n

-- the number that they spell in the cursor's order
abbrev pub number_here : View → ℕ → ℕ
number_here v n = number v.order (bytes_here v n)

-- n bytes are there: the value made of them, and the cursor behind them
pub record GivesValue {A : Type 0} (value_here : View → ℕ → A) (n : ℕ) (old new : View) (answer : A)
    : Type 0 where
  pub there : old.place + n ≤ length old.bytes
  pub value : answer ≡ value_here old n
  pub place : new ≡ passed old n

-- the bytes end before n more, and the cursor is as it was
pub record FallsShort (n : ℕ) (old new : View) (fault : Fault) : Type 0 where
  pub ends : length old.bytes < old.place + n
  pub cause : fault ≡ Short old.place
  pub stays : new ≡ old

-- a read of n bytes gives their number, or falls short
abbrev pub ReadsNumber : ℕ → View → View → Result ℕ Fault → Type 0
ReadsNumber n old new result = MatchResult result (GivesValue number_here n old new) (FallsShort n old new)

-- a taking of n bytes gives them, or falls short
abbrev pub TakesBytes : ℕ → View → View → Result (Bor (List ℕ)) Fault → Type 0
TakesBytes n old new result =
    MatchResult result (λ bytes. GivesValue bytes_here n old new bytes.now) (FallsShort n old new)

-- the cursor behind the LEB128 number at its place, none where the number's last byte isn't there
abbrev pub behind_leb : View → Option View
behind_leb v = option_map (λ m. passed v (m + 1)) (continued v.bytes v.place)

-- an unsigned number of 64 bits has this value
abbrev pub fits_u64 : ℕ → Bool
fits_u64 n = nat_lt n (2 ^ 64)

-- a signed number of 64 bits has this value; negsuc n is -1 - n
abbrev pub fits_i64 : ℤ → Bool
fits_i64 (pos n) = nat_lt n (2 ^ 63)
fits_i64 (negsuc n) = nat_lt n (2 ^ 63)

-- the fault of a number that begins at the place, none where it is there and fits
abbrev pub leb_fault : {N : Type 0} → (N → Bool) → Option N → ℕ → Option Fault
leb_fault fits None place = Some (Short place)
leb_fault fits (Some number) place = if fits number then None else Some (Wide place)

-- the value is there, and the cursor is behind it
pub record GivesWhole {A : Type 0}
    (here : Option A) (behind : Option View) (new : View) (answer : A) : Type 0 where
  pub value : here ≡ Some answer
  pub place : behind ≡ Some new

-- the number has this fault, and the cursor is as it was
pub record FailsLeb {N : Type 0}
    (fits : N → Bool) (number : Option N) (old new : View) (fault : Fault) : Type 0 where
  pub cause : leb_fault fits number old.place ≡ Some fault
  pub stays : new ≡ old

-- a read of an LEB128 number gives it, or has its fault
abbrev pub ReadsLeb : {N : Type 0} → (N → Bool) → (List ℕ → ℕ → Option N) → View → View
    → Result N Fault → Type 0
ReadsLeb fits number_at old new result =
    let number = number_at old.bytes old.place in
    MatchResult result (GivesWhole number (behind_leb old) new) (FailsLeb fits number old new)

-- the cursor behind the next 0, none where no 0 follows
abbrev pub behind_text : View → Option View
behind_text v = option_map (λ n. passed v (n + 1)) (position (λ x. x == 0) (left_of v))

-- no 0 follows, and the cursor is as it was
pub record LacksEnd (old new : View) (fault : Fault) : Type 0 where
  pub ends : text_at old.bytes old.place ≡ None
  pub cause : fault ≡ Short old.place
  pub stays : new ≡ old

-- a read of a text gives the bytes before the next 0 and passes it, or finds no 0
abbrev pub ReadsText : View → View → Result (Bor (List ℕ)) Fault → Type 0
ReadsText old new result =
    MatchResult result
    (λ text. GivesWhole (text_at old.bytes old.place) (behind_text old) new text.now)
    (LacksEnd old new)
