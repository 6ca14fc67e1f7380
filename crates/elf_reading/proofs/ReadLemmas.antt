-- Rows of files that were read.
use Rattle.std.proofs.Common.{◌≡◌, inl, ◌≤◌, ◌<◌, Bool, MatchBool, List, ℕ, Ok, Err, length, refl, sym, subst}
use Rattle.std.proofs.lemmas.Bool.{le-ltb, lt-ltb}
use Rattle.file_formats.specs.Cover.{CoverMore}
use Rattle.file_formats.specs.Identity.{Identity, IsIdentity}
use Rattle.file_formats.specs.Parts.{IsSomePart}
use Rattle.file_formats.specs.Windows.{IsSomeWindow}
use Rattle.file_formats.specs.declared.fault.Why.{Why}
use Rattle.file_formats.specs.declared.fault.Why.TheVariants.{TooLarge}
use Rattle.file_formats.proofs.CoverLaws.{cover-within}
use Rattle.file_formats.proofs.PartLaws.{part-inside}
use Rattle.row_types.specs.Name.{NameFacts}
use Rattle.row_types.specs.Reading.{IsReading, IsTrueRow, IsVersionRead, ReadsBytes, no_identity, with_sources}
use Rattle.row_types.specs.Row.{RowFacts, too_large_row}
use Rattle.row_types.specs.Sources.{AreSourcesOf}
use Rattle.row_types.specs.Stamp.{StampFacts}
use Rattle.row_types.specs.declared.limits.TheConstants.{EDITION, FILE_LIMIT, READ_LIMIT}
use Rattle.row_types.specs.declared.reading.Reading.{Reading}
use Rattle.row_types.specs.declared.reading.Reading.TheVariants.{Elf, Plain}
use Rattle.tree_trait.specs.Found.{FoundFacts, IsFound, Versions, found_name}
use Rattle.tree_trait.specs.Reader.{IsRowOf}

-- what the bytes of a file that isn't too large are found to be is its reading
reads_within : (stamp : StampFacts) (bytes : List ℕ) (reading : Reading)
    → stamp.size ≤ FILE_LIMIT → ReadsBytes bytes reading → IsReading stamp bytes reading
reads_within stamp bytes reading small reads =
    subst (λ (b : Bool). MatchBool b (reading ≡ Plain TooLarge) (ReadsBytes bytes reading)) (sym (le-ltb FILE_LIMIT stamp.size small)) reads

-- ranges of a file of no more bytes than may be read cover no more
few_windows : (bytes : List ℕ) → length bytes ≤ READ_LIMIT → CoverMore (IsSomeWindow bytes) READ_LIMIT → ⊥
few_windows bytes small = cover-within (IsSomeWindow bytes) (length bytes) READ_LIMIT (λ r w. part-inside bytes r (inl w)) small

few_parts : (bytes : List ℕ) → length bytes ≤ READ_LIMIT → CoverMore (IsSomePart bytes) READ_LIMIT → ⊥
few_parts bytes small = cover-within (IsSomePart bytes) (length bytes) READ_LIMIT (part-inside bytes) small

-- so they are found to be what their identity says
pub small_plain : (bytes : List ℕ) (why : Why) → length bytes ≤ READ_LIMIT → IsIdentity bytes (Err why) → ReadsBytes bytes (Plain why)
small_plain bytes why small is = no_identity why (few_windows bytes small) is

pub small_elf : (bytes : List ℕ) (ident : Identity) (sources : List (List ℕ)) → length bytes ≤ READ_LIMIT → IsIdentity bytes (Ok ident)
    → AreSourcesOf bytes sources → ReadsBytes bytes (Elf ident sources)
small_elf bytes ident sources small is are = with_sources ident sources (few_windows bytes small) is (few_parts bytes small) are

-- the row of a file of which some version is found to be this is true
pub read_is_true : (version : Versions) (name : NameFacts) (reading : Reading)
    → name.stamp.size ≤ FILE_LIMIT → IsVersionRead version name reading
    → IsTrueRow version (record { name = name; edition = EDITION; reading = reading })
read_is_true version name reading small read = record {
  edition = refl;
  reading =
      subst (λ (b : Bool). MatchBool b (reading ≡ Plain TooLarge) (IsVersionRead version name reading))
      (sym (le-ltb FILE_LIMIT name.stamp.size small)) read;
}

-- so is the version that was found under its name
pub found_is_read : (version : Versions) (name : NameFacts) (found : FoundFacts) (reading : Reading)
    → found_name found ≡ name → IsFound version found → ReadsBytes found.bytes reading → IsVersionRead version name reading
found_is_read version name found reading same known reads = record {
  bytes = found.bytes;
  known = subst (λ (n : NameFacts). version n.path n.stamp found.bytes) same known.known;
  reads = reads;
}

-- the row of this reading says what a file of these bytes is
pub row_says : (name : NameFacts) (bytes : List ℕ) (reading : Reading) (row : RowFacts)
    → row ≡ record { name = name; edition = EDITION; reading = reading }
    → name.stamp.size ≤ FILE_LIMIT → ReadsBytes bytes reading → IsRowOf name bytes row
row_says name bytes reading row e small reads =
    subst (IsRowOf name bytes) (sym e)
    (record { named = refl; edition = refl; reading = reads_within name.stamp bytes reading small reads })

pub ruleset rows_read = (found_is_read, row_says)

-- a row of a file above the limit says what it is, whatever its bytes
pub large_is_read : (name : NameFacts) (bytes : List ℕ) → FILE_LIMIT < name.stamp.size
    → IsRowOf name bytes (too_large_row name)
large_is_read name bytes above = record {
  named = refl;
  edition = refl;
  reading =
      subst (λ (b : Bool). MatchBool b (Plain TooLarge ≡ Plain TooLarge) (ReadsBytes bytes (Plain TooLarge)))
      (sym (lt-ltb FILE_LIMIT name.stamp.size above)) refl;
}
