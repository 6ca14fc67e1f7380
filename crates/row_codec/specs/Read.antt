-- Row bytes read (this project's rule): from left to right, part by part. Each part is tested before what stands
-- behind it is looked at, so the first fault is the answer.
use Rattle.std.specs.Prelude.{ℕ, suc, zero, ◌==◌, ◌&&◌, Bool, true, false, not, if◌then◌else◌, List, [], ◌∷◌, Option, Some, None, Result, Ok, Err, IsOk, length, take, drop, nat_lt}
use Rattle.std.specs.Int.{w32, w64, from_le_bytes, cast_signed}
use Rattle.std.specs.Str.{is_utf8}
use Rattle.file_formats.specs.Identity.{Identity}
use Rattle.file_formats.specs.declared.fault.Why.{Why}
use Rattle.file_formats.specs.declared.fault.Why.TheVariants.{NotElf, BadElf, NoSections, Core, NoBuildId, TooLarge}
use Rattle.row_types.specs.Ascends.{is_before}
use Rattle.row_types.specs.Canon.{is_canonical}
use Rattle.row_types.specs.Row.{RowFacts}
use Rattle.row_types.specs.Stamp.{StampFacts}
use Rattle.row_types.specs.declared.build_id.TheConstants.{SHORTEST_ID, LONGEST_ID}
use Rattle.row_types.specs.declared.limits.TheConstants.{PATH_LIMIT}
use Rattle.row_types.specs.declared.reading.Reading.{Reading}
use Rattle.row_types.specs.declared.reading.Reading.TheVariants.{Plain, Elf}
use Rattle.row_types.specs.declared.stamp.TheConstants.{NANOS_PER_SECOND}
use Rattle.row_codec.specs.RowBytes.{flags_byte, why_byte}
use Rattle.row_codec.specs.declared.codes.TheConstants.{PLAIN_TAG, ELF_TAG}
use Rattle.row_codec.specs.declared.parts.Flags.{Flags}
use Rattle.row_codec.specs.declared.fault.CodecFault.{CodecFault}
use Rattle.row_codec.specs.declared.fault.CodecFault.TheVariants.{Short, BadTag, BadText, BadOrder, Trailing}

-- a part in front of bytes with the bytes behind it leads to what follows; its fault is the answer
unfoldable pub and_then : {X Y : Type 0} → Result (X × List ℕ) CodecFault → (X → List ℕ → Result Y CodecFault) → Result Y CodecFault
and_then (Ok part) next = next part.0 part.1
and_then (Err fault) next = Err fault

-- a part, where it passes its test
abbrev pub tested : {X : Type 0} → Bool → X → List ℕ → CodecFault → Result (X × List ℕ) CodecFault
tested passes part rest fault = if passes then Ok (part, rest) else Err fault

-- what a number stands for, where it stands for anything
abbrev pub known : {X : Type 0} → Option X → List ℕ → Result (X × List ℕ) CodecFault
known None rest = Err BadTag
known (Some part) rest = Ok (part, rest)

-- a byte
unfoldable pub one_byte : List ℕ → Result (ℕ × List ℕ) CodecFault
one_byte [] = Err Short
one_byte (b ∷ rest) = Ok (b, rest)

-- a number in four bytes
unfoldable pub four_at : List ℕ → Result (ℕ × List ℕ) CodecFault
four_at (a ∷ b ∷ c ∷ d ∷ rest) = Ok (from_le_bytes w32 (a ∷ b ∷ c ∷ d ∷ []), rest)
four_at _ = Err Short

-- a number in eight bytes
unfoldable pub eight_at : List ℕ → Result (ℕ × List ℕ) CodecFault
eight_at (a ∷ b ∷ c ∷ d ∷ e ∷ f ∷ g ∷ h ∷ rest) =
    Ok (from_le_bytes w64 (a ∷ b ∷ c ∷ d ∷ e ∷ f ∷ g ∷ h ∷ []), rest)
eight_at _ = Err Short

-- so many bytes
unfoldable pub some_bytes : ℕ → List ℕ → Result (List ℕ × List ℕ) CodecFault
some_bytes count bytes = if nat_lt (length bytes) count then Err Short else Ok (take count bytes, drop count bytes)

-- an edition
unfoldable pub edition_at : List ℕ → Result (ℕ × List ℕ) CodecFault
edition_at bytes = and_then (one_byte bytes) (λ edition rest. tested (nat_lt 0 edition) edition rest BadTag)

-- a text: its length, and so many bytes
unfoldable pub text_in_front : List ℕ → Result (List ℕ × List ℕ) CodecFault
text_in_front bytes = and_then (four_at bytes) (λ count rest. some_bytes count rest)

-- whether a text is that of a path that is kept
abbrev pub is_path_text : List ℕ → Bool
is_path_text text = is_utf8 text && is_canonical text && not (nat_lt PATH_LIMIT (length text))

-- a path
unfoldable pub path_at : List ℕ → Result (List ℕ × List ℕ) CodecFault
path_at bytes = and_then (text_in_front bytes) (λ text rest. tested (is_path_text text) text rest BadText)

-- a stamp
unfoldable pub stamp_in_front : List ℕ → Result (StampFacts × List ℕ) CodecFault
stamp_in_front bytes =
    and_then (eight_at bytes) (λ size rest.
    and_then (eight_at rest) (λ secs rest.
    and_then (four_at rest) (λ nanos rest.
    tested (nat_lt nanos NANOS_PER_SECOND) (record { size = size; secs = cast_signed w64 secs; nanos = nanos }) rest BadTag)))

-- the reason that has the number
unfoldable pub why_of_number : ℕ → Option Why
why_of_number n =
    if n == why_byte NotElf then Some NotElf
    else if n == why_byte BadElf then Some BadElf
    else if n == why_byte NoSections then Some NoSections
    else if n == why_byte Core then Some Core
    else if n == why_byte NoBuildId then Some NoBuildId
    else if n == why_byte TooLarge then Some TooLarge
    else None

-- why a file has no identity
unfoldable pub why_at : List ℕ → Result (Why × List ℕ) CodecFault
why_at bytes = and_then (one_byte bytes) (λ number rest. known (why_of_number number) rest)

-- the flags that have the sum
unfoldable pub flags_of : ℕ → Option Flags
flags_of n =
    if n == flags_byte false false then Some (record { exec = false; debug = false })
    else if n == flags_byte true false then Some (record { exec = true; debug = false })
    else if n == flags_byte false true then Some (record { exec = false; debug = true })
    else if n == flags_byte true true then Some (record { exec = true; debug = true })
    else None

-- whether an id may have so many bytes
abbrev pub is_id_length : ℕ → Bool
is_id_length count = not (nat_lt count SHORTEST_ID) && not (nat_lt LONGEST_ID count)

-- an id: its length, and so many bytes
unfoldable pub id_at : List ℕ → Result (List ℕ × List ℕ) CodecFault
id_at bytes =
    and_then (one_byte bytes) (λ count rest.
    and_then (tested (is_id_length count) count rest BadTag) (λ count rest. some_bytes count rest))

-- an identity: its flags and its id
unfoldable pub ident_at : List ℕ → Result (Identity × List ℕ) CodecFault
ident_at bytes =
    and_then (one_byte bytes) (λ sum rest.
    and_then (known (flags_of sum) rest) (λ flags rest.
    and_then (id_at rest) (λ id rest. Ok (record { id = id; exec = flags.exec; debug = flags.debug }, rest))))

-- whether a path stands behind the one before it, if there is one
abbrev pub is_above : Option (List ℕ) → List ℕ → Bool
is_above None path = true
is_above (Some last) path = is_before last path

-- so many paths, each behind the one before it
unfoldable pub paths_at : ℕ → Option (List ℕ) → List ℕ → Result (List (List ℕ) × List ℕ) CodecFault
paths_at zero last bytes = Ok ([], bytes)
paths_at (suc count) last bytes =
    and_then (path_at bytes) (λ path rest.
    and_then (tested (is_above last path) path rest BadOrder) (λ path rest.
    and_then (paths_at count (Some path) rest) (λ paths rest. Ok (path ∷ paths, rest))))

-- sources: their number, and so many paths
unfoldable pub sources_at : List ℕ → Result (List (List ℕ) × List ℕ) CodecFault
sources_at bytes = and_then (four_at bytes) (λ count rest. paths_at count None rest)

-- what stands behind a tag
unfoldable pub tagged_at : ℕ → List ℕ → Result (Reading × List ℕ) CodecFault
tagged_at tag bytes =
    if tag == PLAIN_TAG then and_then (why_at bytes) (λ why rest. Ok (Plain why, rest))
    else if tag == ELF_TAG then
    and_then (ident_at bytes) (λ ident rest. and_then (sources_at rest) (λ sources rest. Ok (Elf ident sources, rest)))
    else Err BadTag

-- a reading: its tag, and what stands behind it
unfoldable pub reading_at : List ℕ → Result (Reading × List ℕ) CodecFault
reading_at bytes = and_then (one_byte bytes) (λ tag rest. tagged_at tag rest)

-- a row, behind which nothing stands
abbrev pub row_at_end : RowFacts → List ℕ → Result RowFacts CodecFault
row_at_end row [] = Ok row
row_at_end row (b ∷ rest) = Err Trailing

-- the row of the bytes, or their first fault
unfoldable pub row_of_bytes : List ℕ → Result RowFacts CodecFault
row_of_bytes bytes =
    and_then (edition_at bytes) (λ edition rest.
    and_then (path_at rest) (λ path rest.
    and_then (stamp_in_front rest) (λ stamp rest.
    and_then (reading_at rest) (λ reading rest.
    row_at_end (record { name = record { path = path; stamp = stamp }; edition = edition; reading = reading }) rest))))

-- an edition and the text of a path stand in front: where these are read, memory may be wanting
unfoldable pub HasPathInFront : List ℕ → Type 0
HasPathInFront bytes = IsOk (and_then (edition_at bytes) (λ edition rest. text_in_front rest))
