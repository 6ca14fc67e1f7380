-- What a file is found to be (this project's rule): by its size first, then by how much of it its windows cover, then by its
-- identity, and with it the source paths that its debug information names, unless the parts cover too much.
use Rattle.std.specs.Prelude.{◌≡◌, ◌⊎◌, ℕ, List, [], nat_lt, MatchBool, Ok, Err}
use Rattle.file_formats.specs.Cover.{CoverMore}
use Rattle.file_formats.specs.Identity.{Identity, IsIdentity}
use Rattle.file_formats.specs.Parts.{IsDebugRange, IsSomePart}
use Rattle.file_formats.specs.Windows.{Range, IsSomeWindow}
use Rattle.file_formats.specs.declared.fault.Why.{Why}
use Rattle.file_formats.specs.declared.fault.Why.TheVariants.{TooLarge}
use Rattle.row_types.specs.Name.{NameFacts}
use Rattle.row_types.specs.Row.{RowFacts}
use Rattle.row_types.specs.Sources.{AreSourcesOf}
use Rattle.row_types.specs.Stamp.{StampFacts}
use Rattle.row_types.specs.declared.limits.TheConstants.{EDITION, FILE_LIMIT, READ_LIMIT}
use Rattle.row_types.specs.declared.reading.Reading.{Reading}
use Rattle.row_types.specs.declared.reading.Reading.TheVariants.{Plain, Elf}

-- what bytes are found to be, where at most so many of them may be read: too large where the windows cover more; else plain, for
-- the first reason why there is no identity; else the identity, with the sources, or with none where the parts cover more
pub data ReadsWithin (limit : ℕ) (b : List ℕ) : Reading → Type 0 where
  too_large : CoverMore (IsSomeWindow b) limit → ReadsWithin limit b (Plain TooLarge)
  no_identity : (why : Why) → (CoverMore (IsSomeWindow b) limit → ⊥) → IsIdentity b (Err why) → ReadsWithin limit b (Plain why)
  with_sources : (identity : Identity) (sources : List (List ℕ)) → (CoverMore (IsSomeWindow b) limit → ⊥) → IsIdentity b (Ok identity)
      → (CoverMore (IsSomePart b) limit → ⊥) → AreSourcesOf b sources → ReadsWithin limit b (Elf identity sources)
  without_sources : (identity : Identity) → (CoverMore (IsSomeWindow b) limit → ⊥) → IsIdentity b (Ok identity)
      → CoverMore (IsSomePart b) limit → ReadsWithin limit b (Elf identity [])

-- what bytes are found to be
abbrev pub ReadsBytes : List ℕ → Reading → Type 0
ReadsBytes bytes reading = ReadsWithin READ_LIMIT bytes reading

-- a range on which this rests: a window, where the windows don't cover more, and a debug section, where the parts don't either
pub record RestsOn (limit : ℕ) (b : List ℕ) (r : Range) : Type 0 where
  pub few : CoverMore (IsSomeWindow b) limit → ⊥
  pub part : IsSomeWindow b r ⊎ (IsDebugRange b r × (CoverMore (IsSomePart b) limit → ⊥))

-- what the file of a stamp and its bytes is found to be
abbrev pub IsReading : StampFacts → List ℕ → Reading → Type 0
IsReading stamp bytes reading = MatchBool (nat_lt FILE_LIMIT stamp.size) (reading ≡ Plain TooLarge) (ReadsBytes bytes reading)

-- a version of the name is found to be this
pub record IsVersionRead (version : List ℕ → StampFacts → List ℕ → Type 0) (name : NameFacts) (reading : Reading) : Type 0 where
  pub bytes : List ℕ
  pub known : version name.path name.stamp bytes
  pub reads : ReadsBytes bytes reading

-- what the file of a name is found to be; one that is larger than a file that is read needs no content for it
abbrev pub IsNameReading : (List ℕ → StampFacts → List ℕ → Type 0) → NameFacts → Reading → Type 0
IsNameReading version name reading = MatchBool (nat_lt FILE_LIMIT name.stamp.size) (reading ≡ Plain TooLarge) (IsVersionRead version name reading)

-- the row of a told world: it is of the edition, and says what the file of its name is found to be
pub record IsTrueRow (version : List ℕ → StampFacts → List ℕ → Type 0) (row : RowFacts) : Type 0 where
  pub edition : row.edition ≡ EDITION
  pub reading : IsNameReading version row.name row.reading
