-- How an LEB128 number at the front of some bytes is summed up (DWARF 5, section 7.6, "Variable
-- Length Data").
use Rattle.std.specs.Prelude.{◌≡◌, ℕ, ◌+◌, ◌-◌, ◌%◌, List, Option, Some, None, Result, Ok, Err, Bool, true, false, if◌then◌else◌, map, take}
use Rattle.std.specs.Option.{option_map}
use Rattle.file_formats.specs.Leb128.{continued, septets}
use Rattle.file_formats.specs.declared.leb.TheConstants.{SEPTET_VALUES}
use Rattle.byte_read.specs.declared.fault.Fault.{Fault}
use Rattle.byte_read.specs.declared.fault.Fault.TheVariants.{Short, Wide}
use Rattle.byte_read.specs.declared.leb.Leb.{Leb}
use Rattle.byte_read.specs.declared.leb.Septets.{Septets}
use Rattle.byte_read.specs.View.{View, passed}
use Rattle.byte_read.specs.Reads.{fits_u64}

-- the number, none where its type doesn't have it
abbrev pub fitting : {N : Type 0} → (N → Bool) → N → Option N
fitting fits number = if fits number then Some number else None

-- a sum, and what the next septet is worth
abbrev pub sum_with : ℕ → ℕ → Septets
sum_with sum worth = record { sum = fitting fits_u64 sum; worth = fitting fits_u64 worth }

-- the low seven bits, each turned over
abbrev pub flipped : ℕ → ℕ
flipped byte = SEPTET_VALUES - 1 - byte % SEPTET_VALUES

-- what a byte adds, by whether the number is negative
abbrev pub digit_of : Bool → ℕ → ℕ
digit_of false byte = byte % SEPTET_VALUES
digit_of true byte = flipped byte

-- the bytes whose septets are summed, by whether the number is negative
abbrev pub turned : Bool → List ℕ → List ℕ
turned false bytes = bytes
turned true bytes = map flipped bytes

-- the number of m + 1 bytes at the front, none where its last byte isn't there
abbrev pub leb_of : {N : Type 0} → (N → Bool) → (List ℕ → ℕ → N) → List ℕ → Option (Leb N)
leb_of fits value bytes =
    option_map
    (λ m. record { number = fitting fits (value (take (m + 1) bytes) m); size = m + 1 })
    (continued bytes 0)

-- the unsigned number of the bytes
abbrev pub unsigned : List ℕ → ℕ → ℕ
unsigned bytes m = septets bytes

-- the answer where the number's last byte is there, by its size and its value
abbrev pub PassesNumber : {N : Type 0} → Option N → ℕ → View → View → Result N Fault → Type 0
PassesNumber None size old new result = (result ≡ Err (Wide old.place)) × (new ≡ old)
PassesNumber (Some number) size old new result = (result ≡ Ok number) × (new ≡ passed old size)

-- the answer of a read of the number
abbrev pub PassesLeb : {N : Type 0} → Option (Leb N) → View → View → Result N Fault → Type 0
PassesLeb None old new result = (result ≡ Err (Short old.place)) × (new ≡ old)
PassesLeb (Some leb) old new result = PassesNumber leb.number leb.size old new result
