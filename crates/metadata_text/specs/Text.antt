-- The text that tells of files (RFC 8259, sections 2 to 7, without blanks): the members of an object stand in the order of
-- their names, and of the ways to write a character the shortest is taken. Which members there are is this project's rule.
use Rattle.std.specs.Prelude.{ℕ, ◌==◌, ◌/◌, ◌%◌, Bool, true, false, List, [], ◌∷◌, ◌++◌, Option, Some, None, codes, if◌then◌else◌, nat_lt}
use Rattle.std.specs.Char.{digit_char}
use Rattle.std.specs.List.{flat_map}
use Rattle.metadata_text.specs.declared.found.FileClass.{FileClass}
use Rattle.metadata_text.specs.declared.found.FileClass.TheVariants.{Debuginfo, Executable}

-- what is told of a file: the digits of its build-id, its path, and a class of it
pub record FoundFacts : Type 0 where
  pub build_id : List ℕ
  pub file : List ℕ
  pub class : FileClass

-- the text of a class
abbrev pub class_text : FileClass → List ℕ
class_text Executable = codes "executable"
class_text Debuginfo = codes "debuginfo"

-- the quotation mark, the backslash, backspace, form feed, line feed, carriage return and tab, each with the character that
-- stands for it behind a backslash (RFC 8259, section 7)
abbrev pub short_escapes : List (ℕ × ℕ)
short_escapes = (34, 34) ∷ (92, 92) ∷ (8, 98) ∷ (12, 102) ∷ (10, 110) ∷ (13, 114) ∷ (9, 116) ∷ []

-- what stands beside a number in a list
abbrev pub beside : ℕ → List (ℕ × ℕ) → Option ℕ
beside b [] = None
beside b (entry ∷ rest) = if b == entry.0 then Some entry.1 else beside b rest

-- `\u00` and two hexadecimal digits for a control character, and every other byte for itself (RFC 8259, section 7)
abbrev pub long_escape : ℕ → List ℕ
long_escape b = if nat_lt b 32 then codes "\\u00" ++ (digit_char (b / 16) ∷ digit_char (b % 16) ∷ []) else b ∷ []

-- a byte by what stands for it behind a backslash, if there is something
abbrev pub escaped_by : Option ℕ → ℕ → List ℕ
escaped_by (Some letter) b = codes "\\" ++ (letter ∷ [])
escaped_by None b = long_escape b

-- a byte of a text, as it stands between quotation marks
abbrev pub escaped : ℕ → List ℕ
escaped b = escaped_by (beside b short_escapes) b

-- a text between quotation marks
abbrev pub quoted : List ℕ → List ℕ
quoted text = codes "\"" ++ (flat_map escaped text ++ codes "\"")

-- what is told of a file
abbrev pub file_text : FoundFacts → List ℕ
file_text f =
    codes "{\"buildid\":" ++ (quoted f.build_id
    ++ (codes ",\"file\":" ++ (quoted f.file
    ++ (codes ",\"type\":" ++ (quoted (class_text f.class) ++ codes "}")))))

-- what is told of files, with a comma between two of them
abbrev pub files_text : List FoundFacts → List ℕ
files_text [] = []
files_text (f ∷ []) = file_text f
files_text (f ∷ g ∷ fs) = file_text f ++ (codes "," ++ files_text (g ∷ fs))

-- the text of a truth value
abbrev pub truth_text : Bool → List ℕ
truth_text true = codes "true"
truth_text false = codes "false"

-- whether these files are all, and what is told of each
abbrev pub metadata_text : Bool → List FoundFacts → List ℕ
metadata_text complete found =
    codes "{\"complete\":" ++ (truth_text complete ++ (codes ",\"results\":[" ++ (files_text found ++ codes "]}")))
