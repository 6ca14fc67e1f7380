-- Filling what isn't known of a range of an open file (this project's rule).
use Rattle.std.specs.Prelude.{◌≡◌, ◌≢◌, ◌⊎◌, ℕ, ◌+◌, ◌-◌, ◌≤◌, Bool, List, [], ◌∷◌, ◌++◌, All, IsTrue, length}
use Rattle.file_formats.specs.Numbers.{bytes_at}
use Rattle.file_formats.specs.Windows.{Range}
use Rattle.file_picture.specs.Agrees.{AgreesWithPicture}
use Rattle.file_picture.specs.Picture.{PictureFacts, IsAdded, IsCovered, IsFirstGap}
use Rattle.row_types.specs.Name.{NameFacts}
use Rattle.tree_trait.specs.Found.{Versions}
use Rattle.tree_trait.specs.Heard.{Heard, read_at, call_failed}
use Rattle.tree_trait.specs.Listens.{ListsAnswers}
use Rattle.tree_trait.specs.Open.{room_filled, room_failed}
use Rattle.tree_trait.specs.Shown.{HandsOn, ShownTree}
use Rattle.tree_trait.specs.declared.filling.FillAnswer.{FillAnswer}
use Rattle.tree_trait.specs.declared.filling.FillAnswer.TheVariants.{Done, Failed, OutOfMemory}

-- the hand read this of open files, and was asked no more; where memory for a line was refused, its questions aren't told from
-- there on
pub record HearsReads (told : Bool) (version : Versions) (before after : ShownTree) (reads : List Heard) : Type 0 where
  pub listed : ListsAnswers before.heard reads after.heard
  pub hand : HandsOn told version before after ⊥ ⊥

-- a run of bytes of a place was read
pub record IsRunRead (name : NameFacts) (place count : ℕ) (reads : List Heard) : Type 0 where
  pub bytes : List ℕ
  pub long : length bytes ≡ count
  pub heard : reads ≡ read_at name place (room_filled bytes) ∷ []

-- the run was read and put into the picture
pub record IsRunPut (name : NameFacts) (place count : ℕ) (old new : PictureFacts) (reads : List Heard) : Type 0 where
  pub read : IsRunRead name place count reads
  pub added : IsAdded old place read.bytes new

-- what the reading of one run leads to; memory is refused before the read or behind it
abbrev pub RunEnds : NameFacts → ℕ → ℕ → PictureFacts → PictureFacts → FillAnswer → List Heard → Type 0
RunEnds name place count old new Done reads = IsRunPut name place count old new reads
RunEnds name place count old new Failed reads =
    (new ≡ old) × (reads ≡ read_at name place (room_failed count) ∷ [])
RunEnds name place count old new OutOfMemory reads = (new ≡ old) × ((reads ≡ []) ⊎ IsRunRead name place count reads)

-- the runs of a range that a picture doesn't know were read in order, each once, and nothing else: all of them, or up to one
-- that failed or met want of memory
pub data AreRunsRead (name : NameFacts) (p : PictureFacts) : ℕ → ℕ → FillAnswer → List Heard → Type 0 where
  none_left : (at to : ℕ) → IsCovered p at (to - at) → AreRunsRead name p at to Done []
  run_read : (at to from : ℕ) (bytes : List ℕ) (end : FillAnswer) (rest : List Heard)
      → IsFirstGap p at (to - at) from (length bytes) → AreRunsRead name p (from + length bytes) to end rest
      → AreRunsRead name p at to end (read_at name from (room_filled bytes) ∷ rest)
  run_failed : (at to from count : ℕ) → IsFirstGap p at (to - at) from count
      → AreRunsRead name p at to Failed (read_at name from (room_failed count) ∷ [])
  no_room : (at to : ℕ) → AreRunsRead name p at to OutOfMemory []
  not_kept : (at to from : ℕ) (bytes : List ℕ) → IsFirstGap p at (to - at) from (length bytes)
      → AreRunsRead name p at to OutOfMemory (read_at name from (room_filled bytes) ∷ [])

-- the file has the bytes that the read found
abbrev pub HasRead : List ℕ → Heard → Type 0
HasRead b (read_at name at (room_filled bytes)) = bytes_at b at (length bytes) ≡ bytes
HasRead b _ = Unit {0}

-- the file has so many bytes, and all that were read
pub record HasReads (size : ℕ) (reads : List Heard) (b : List ℕ) : Type 0 where
  pub sized : length b ≡ size
  pub each : All (HasRead b) reads

-- it was a read of the file of a name
abbrev pub IsReadOfFile : NameFacts → Heard → Type 0
IsReadOfFile name (read_at given at answer) = given ≡ name
IsReadOfFile name _ = ⊥

-- and of bytes within a range
abbrev pub IsReadIn : NameFacts → Range → Heard → Type 0
IsReadIn name r (read_at given at (room_filled bytes)) =
    (given ≡ name) × (r.at ≤ at) × (at + length bytes ≤ r.at + r.len)
IsReadIn name r (read_at given at (room_failed count)) = (given ≡ name) × (r.at ≤ at) × (at + count ≤ r.at + r.len)
IsReadIn name r _ = ⊥

-- and the range is one of these
pub record IsReadAmong (name : NameFacts) (Of : Range → Type 0) (asked : Heard) : Type 0 where
  pub range : Range
  pub among : Of range
  pub within : IsReadIn name range asked

-- the last read failed
pub record HasFailedLast (reads : List Heard) : Type 0 where
  pub front : List Heard
  pub last : Heard
  pub all : reads ≡ front ++ last ∷ []
  pub failed : IsTrue (call_failed last)

-- a filling read these, and no more; a file agrees with the picture that it left where it agreed with the one before and has
-- what was read, and no other file does, but for a read behind which memory was refused
pub record FillsRange (told : Bool) (version : Versions) (before after : ShownTree) (name : NameFacts) (old new : PictureFacts)
    (at to : ℕ) (end : FillAnswer) : Type 0 where
  pub reads : List Heard
  pub hears : HearsReads told version before after reads
  pub runs : AreRunsRead name old at to end reads
  pub more : (b : List ℕ) → AgreesWithPicture b old → All (HasRead b) reads → AgreesWithPicture b new
  pub less : (b : List ℕ) → AgreesWithPicture b new → AgreesWithPicture b old
  pub kept : end ≢ OutOfMemory → (b : List ℕ) → AgreesWithPicture b new → All (HasRead b) reads
