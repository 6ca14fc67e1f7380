-- How the text of a route's path is written (this project's rule): `/metrics` for the counters; else `/buildid/`, the text of an
-- id, a slash, and what is asked of the id.
use Rattle.std.specs.Prelude.{◌≡◌, ◌≢◌, ℕ, ◌<◌, true, All, List, ◌∷◌, ◌++◌, codes, length}
use Rattle.row_types.specs.Absolute.{is_absolute}
use Rattle.row_types.specs.declared.limits.TheConstants.{SEPARATOR}

-- the path of the counters
abbrev pub metrics_path : List ℕ
metrics_path = codes "/metrics"

-- what is asked of an id: a file of a class, a source file, or a section
pub data Wanted : Type 0 where
  debuginfo : Wanted
  executable : Wanted
  source : (path : List ℕ) → Wanted
  section : (name : List ℕ) → Wanted

-- its text
abbrev pub wanted_text : Wanted → List ℕ
wanted_text debuginfo = codes "debuginfo"
wanted_text executable = codes "executable"
wanted_text (source path) = codes "source" ++ path
wanted_text (section name) = codes "section/" ++ name

-- a source's path begins with a slash, and a section has a name
abbrev pub IsWantedValid : Wanted → Type 0
IsWantedValid (source path) = is_absolute path ≡ true
IsWantedValid (section name) = 0 < length name
IsWantedValid _ = Unit {0}

-- the bytes are the text of what is asked of an id
pub record IsWantedText (bytes : List ℕ) (wanted : Wanted) : Type 0 where
  pub text : bytes ≡ wanted_text wanted
  pub valid : IsWantedValid wanted

-- a text is written as the path of an id: the text of the id stands in it, which has no slash, and what is asked of the id
pub record IsWritten (text hex : List ℕ) (wanted : Wanted) : Type 0 where
  pub whole : text ≡ codes "/buildid/" ++ (hex ++ SEPARATOR ∷ wanted_text wanted)
  pub one_piece : All (λ b. b ≢ SEPARATOR) hex
  pub valid : IsWantedValid wanted
