-- Generated files (this project's rule): the bytes of the file of a seed and a number below 1,000,000. The ELF files
-- are sample files of a chosen build-id.
use Rattle.std.specs.Prelude.{◌≡◌, ℕ, ◌+◌, ◌-◌, ◌/◌, ◌%◌, ◌==◌, if◌then◌else◌, List, [], ◌∷◌, ◌++◌, take, codes}
use Rattle.std.specs.Int.{w64, to_le_bytes}
use Rattle.sha2.specs.Sha256.{sha256}
use Rattle.sample_files.specs.Samples.{debug_companion_of, dwarf_five_of, executable_of}
use Rattle.elf_forge.specs.declared.digits.TheConstants.{FILES_LIMIT}
use Rattle.elf_forge.specs.declared.kind.Kind.{Kind}
use Rattle.elf_forge.specs.declared.kind.Kind.TheVariants.{Whole, Executable, Companion, Text}

-- so many numbers have files, those of six digits: code and contracts share the constant
abbrev pub IsPinnedFilesLimit : Type 0
IsPinnedFilesLimit = FILES_LIMIT ≡ 1000000

-- the last decimal digit of a number, in ASCII
abbrev pub last_digit : ℕ → ℕ
last_digit n = 48 + n % 10

-- a number below 1,000,000 in six decimal digits
abbrev pub six_digits : ℕ → List ℕ
six_digits k =
    last_digit (k / 100000) ∷ last_digit (k / 10000) ∷ last_digit (k / 1000)
    ∷ last_digit (k / 100) ∷ last_digit (k / 10) ∷ last_digit k ∷ []

-- the build-id of a number: the first 20 bytes of the digest of the seed and the number, each in eight bytes
unfoldable pub forged_id : ℕ → ℕ → List ℕ
forged_id seed k = take 20 (sha256 (to_le_bytes w64 seed ++ to_le_bytes w64 k))

-- the folder in which the unit of a number was compiled
abbrev pub folder_of : ℕ → List ℕ
folder_of k = codes "/t/" ++ six_digits k

-- the text of a number, with a line feed
abbrev pub text_of_number : ℕ → List ℕ
text_of_number k = codes "text " ++ six_digits k ++ 10 ∷ []

-- what the file of a number is, by the number's rest when it is divided by 4
abbrev pub kind_of : ℕ → Kind
kind_of k =
    if k % 4 == 0 then Whole
    else if k % 4 == 1 then Executable
    else if k % 4 == 2 then Companion
    else Text

-- the file of a number, if it is this
abbrev pub forged_file : Kind → ℕ → ℕ → List ℕ
forged_file Whole seed k = dwarf_five_of (forged_id seed k) (folder_of k)
forged_file Executable seed k = executable_of (forged_id seed k)
forged_file Companion seed k = debug_companion_of (forged_id seed (k - 1))
forged_file Text seed k = text_of_number k

-- the file of a seed and a number
unfoldable pub forged : ℕ → ℕ → List ℕ
forged seed k = forged_file (kind_of k) seed k
