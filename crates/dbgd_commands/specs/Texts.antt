-- The program's texts (this project's rule).
use Rattle.std.specs.Prelude.{ℕ, ◌-◌, List, [], ◌∷◌, ◌++◌, Bool, true, false, codes, length}
use Rattle.std.specs.Prelude.{replicate, decimal}
use Rattle.std.specs.Fmt.{signed_decimal}
use Rattle.hex.specs.Hex.{encode_lower}
use Rattle.file_formats.specs.Identity.{Identity}
use Rattle.file_formats.specs.declared.fault.Why.{Why}
use Rattle.file_formats.specs.declared.fault.Why.TheVariants.{NotElf, BadElf, NoSections, Core}
use Rattle.file_formats.specs.declared.fault.Why.TheVariants.{NoBuildId, TooLarge}
use Rattle.row_types.specs.Name.{NameFacts}
use Rattle.row_types.specs.Stamp.{StampFacts}
use Rattle.scan_queue.specs.declared.miss.Seen.{Seen}
use Rattle.scan_queue.specs.declared.miss.Seen.TheVariants.{Gone, File, Other}
use Rattle.pass_runner.specs.declared.summary.Summary.{Summary}

-- a text with its line feed
abbrev pub fed_line : List ℕ → List ℕ
fed_line text = text ++ 10 ∷ []

-- the word for what a file holds: code, debug information, both or none of them
abbrev pub class_word : Bool → Bool → List ℕ
class_word true false = codes "executable"
class_word false true = codes "debuginfo"
class_word true true = codes "both"
class_word false false = codes "none"

-- the line of a file's identity
abbrev pub identity_line : Identity → List ℕ
identity_line i = fed_line (encode_lower i.id ++ codes " " ++ class_word i.exec i.debug)

-- the word for a reason
abbrev pub why_word : Why → List ℕ
why_word NotElf = codes "not-elf"
why_word BadElf = codes "bad-elf"
why_word NoSections = codes "no-sections"
why_word Core = codes "core"
why_word NoBuildId = codes "no-build-id"
why_word TooLarge = codes "too-large"

-- the line of a file without an identity
abbrev pub plain_line : Why → List ℕ
plain_line why = fed_line (codes "plain " ++ why_word why)

-- how the words of each command read
abbrev pub usage_text : List ℕ
usage_text =
    codes "usage: dbgd ident FILE, sources FILE, section FILE NAME, query -d DB ID, "
    ++ codes "scan -d DB DIR, serve -d DB DIR, trial SEED FILES WORKERS"

-- a number in nine digits
abbrev pub nine_digits : ℕ → List ℕ
nine_digits n = replicate (9 - length (decimal n)) 48 ++ decimal n

-- a stamp: size, seconds, and nanoseconds in nine digits
abbrev pub stamp_text : StampFacts → List ℕ
stamp_text stamp =
    decimal stamp.size ++ codes ":" ++ signed_decimal stamp.secs ++ codes ":"
    ++ nine_digits stamp.nanos

-- what stood at a path: a file by its stamp
abbrev pub seen_text : Seen → List ℕ
seen_text Gone = codes "gone"
seen_text (File stamp) = stamp_text stamp
seen_text Other = codes "other"

-- a listed file was another by the time that it was read
abbrev pub altered_text : NameFacts → Seen → List ℕ
altered_text name seen =
    codes "dbgd: altered " ++ name.path ++ codes " listed " ++ stamp_text name.stamp
    ++ codes " seen " ++ seen_text seen

-- the file of a row stands though it isn't listed
abbrev pub appeared_text : NameFacts → List ℕ
appeared_text name =
    codes "dbgd: appeared " ++ name.path ++ codes " " ++ stamp_text name.stamp

-- the line of a scan
abbrev pub summary_line : Summary → List ℕ
summary_line s =
    fed_line (codes "scan: " ++ decimal s.files ++ codes " files, " ++ decimal s.added ++ codes " added, "
    ++ decimal s.replaced ++ codes " replaced, " ++ decimal s.dropped ++ codes " dropped, "
    ++ decimal s.kept ++ codes " kept, " ++ decimal s.executables ++ codes " executables, "
    ++ decimal s.debuginfo ++ codes " debuginfo")
