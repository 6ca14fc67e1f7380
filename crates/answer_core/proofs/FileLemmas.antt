-- What the opening of a candidate's file and the reads behind it are of what was heard.
use Rattle.std.proofs.Common.{◌≡◌, ◌≢◌, ◌⊎◌, inl, inr, ℕ, Bool, true, false, List, [], ◌∷◌, ◌++◌, refl, sym, ◌∙◌, ap}
use Rattle.std.proofs.lemmas.Bool.{false≢true, or_left, or_right}
use Rattle.std.proofs.lemmas.List.Elements.{All-head}
use Rattle.std.proofs.lemmas.List.Folds.{list_any-append}
use Rattle.std.specs.List.{list_any}
use Rattle.file_formats.specs.Windows.{Range}
use Rattle.file_parts.specs.AtPath.{AsksFile, FileAnswer, OpeningGives, ReadsRanges, file_read, file_too_large, file_gone}
use Rattle.file_parts.specs.AtPath.{file_failed, file_no_memory}
use Rattle.row_types.specs.Stamp.{StampFacts}
use Rattle.row_types.specs.declared.limits.TheConstants.{FILE_LIMIT}
use Rattle.tree_trait.specs.Asks.{FitsAny, IsAnswerTold}
use Rattle.tree_trait.specs.Fills.{HasFailedLast}
use Rattle.tree_trait.specs.Found.{Versions}
use Rattle.tree_trait.specs.Heard.{Heard, open_file, call_failed}
use Rattle.tree_trait.specs.Listens.{Listens, heard_or_none}
use Rattle.tree_trait.specs.Open.{OpenFacts, was_opened, was_too_large, open_gone, open_failed, open_no_memory}
use Rattle.tree_trait.specs.Shown.{ShownTree}
use Rattle.webapi_routes.specs.declared.route.Route.{Route}
use Rattle.webapi_routes.specs.declared.route.Route.TheVariants.{Debuginfo, Executable, Source, Section, Metrics}
use Rattle.answer_core.specs.Given.{GivenFacts, asks_source, needs_for}
use Rattle.answer_core.specs.Loads.{CandidatePasses, DoesNotPass, Hand, IsFileGiven, IsFileLeft, IsFileMissed, IsLeft, IsOpening, IsSourceGiven}
use Rattle.answer_core.specs.Loads.{IsSourceMissed}
use Rattle.answer_core.specs.declared.candidate.Candidate.{Candidate}

-- ---- by the route

pub source_misses : (hand : Hand) (route : Route) (one : Candidate) (part : List Heard) → asks_source route ≡ true
    → IsSourceMissed hand one part → DoesNotPass hand route one part
source_misses hand (Source id path) one part is m = m
source_misses hand (Debuginfo id) one part is m = absurd (false≢true is)
source_misses hand (Executable id) one part is m = absurd (false≢true is)
source_misses hand (Section id name) one part is m = absurd (false≢true is)
source_misses hand Metrics one part is m = absurd (false≢true is)

pub source_passes : (hand : Hand) (route : Route) (one : Candidate) (given : GivenFacts) (part : List Heard)
    → asks_source route ≡ true → IsSourceGiven hand one given part → CandidatePasses hand route one given part
source_passes hand (Source id path) one given part is p = p
source_passes hand (Debuginfo id) one given part is p = absurd (false≢true is)
source_passes hand (Executable id) one given part is p = absurd (false≢true is)
source_passes hand (Section id name) one given part is p = absurd (false≢true is)
source_passes hand Metrics one given part is p = absurd (false≢true is)

pub file_misses : (hand : Hand) (route : Route) (one : Candidate) (part : List Heard) → asks_source route ≡ false
    → IsFileMissed hand route one part → DoesNotPass hand route one part
file_misses hand (Source id path) one part is m = absurd (false≢true (sym is))
file_misses hand (Debuginfo id) one part is m = m
file_misses hand (Executable id) one part is m = m
file_misses hand (Section id name) one part is m = m
file_misses hand Metrics one part is m = m

pub source_left : (hand : Hand) (route : Route) (one : Candidate) → asks_source route ≡ true → IsLeft hand route one []
source_left hand (Source id path) one is = refl
source_left hand (Debuginfo id) one is = absurd (false≢true is)
source_left hand (Executable id) one is = absurd (false≢true is)
source_left hand (Section id name) one is = absurd (false≢true is)
source_left hand Metrics one is = absurd (false≢true is)

pub file_left : (hand : Hand) (route : Route) (one : Candidate) (part : List Heard) → asks_source route ≡ false
    → (part ≡ []) ⊎ IsFileLeft hand route one part → IsLeft hand route one part
file_left hand (Source id path) one part is l = absurd (false≢true (sym is))
file_left hand (Debuginfo id) one part is l = l
file_left hand (Executable id) one part is l = l
file_left hand (Section id name) one part is l = l
file_left hand Metrics one part is l = l

pub file_passes : (hand : Hand) (route : Route) (one : Candidate) (given : GivenFacts) (part : List Heard)
    → asks_source route ≡ false → IsFileGiven hand route one given part → CandidatePasses hand route one given part
file_passes hand (Source id path) one given part is p = absurd (false≢true (sym is))
file_passes hand (Debuginfo id) one given part is p = p
file_passes hand (Executable id) one given part is p = p
file_passes hand (Section id name) one given part is p = p
file_passes hand Metrics one given part is p = p

-- ---- the calls of a part that failed

pub last_failed : (reads : List Heard) → HasFailedLast reads → list_any call_failed reads ≡ true
last_failed reads h =
    ap (list_any call_failed) h.all ∙ list_any-append call_failed h.front (h.last ∷ [])
    ∙ or_right (list_any call_failed h.front) (list_any call_failed (h.last ∷ [])) (or_left (call_failed h.last) false h.failed)

none_failed : (reads : List Heard) → reads ≡ [] → list_any call_failed reads ≡ false
none_failed reads is = ap (list_any call_failed) is

-- whether an answer says that a call failed
abbrev pub tells_failure : FileAnswer → Bool
tells_failure file_failed = true
tells_failure _ = false

-- ---- a file

-- where memory was refused for the opening nothing else is said
never_without : (version : Versions) (path : List ℕ) (reads : List Heard) (answer : FileAnswer) → answer ≢ file_no_memory
    → OpeningGives version path open_no_memory reads answer → ⊥
never_without version path reads (file_read stamp all) other g = g
never_without version path reads file_too_large other g = g
never_without version path reads file_gone other g = g
never_without version path reads file_failed other g = g
never_without version path reads file_no_memory other g = other refl

-- whether a call of the part failed
fails_so : (version : Versions) (Of : List ℕ → Range → Type 0) (path : List ℕ) (answer : FileAnswer) → answer ≢ file_no_memory
    → (opening : OpenFacts) (reads : List Heard) → ReadsRanges Of path opening reads
    → OpeningGives version path opening reads answer
    → list_any call_failed (heard_or_none (open_file path FILE_LIMIT opening) ++ reads) ≡ tells_failure answer
fails_so version Of path file_no_memory other opening reads ranges gives = absurd (other refl)
fails_so version Of path (file_read stamp all) other (was_opened given) reads ranges gives = gives.3
fails_so version Of path file_failed other (was_opened given) reads ranges gives = last_failed reads gives
fails_so version Of path file_too_large other (was_opened given) reads ranges gives = absurd gives
fails_so version Of path file_gone other (was_opened given) reads ranges gives = absurd gives
fails_so version Of path file_too_large other (was_too_large given) reads ranges gives = none_failed reads ranges
fails_so version Of path (file_read stamp all) other (was_too_large given) reads ranges gives = absurd gives
fails_so version Of path file_failed other (was_too_large given) reads ranges gives = absurd gives
fails_so version Of path file_gone other (was_too_large given) reads ranges gives = absurd gives
fails_so version Of path file_gone other open_gone reads ranges gives = none_failed reads ranges
fails_so version Of path (file_read stamp all) other open_gone reads ranges gives = absurd gives
fails_so version Of path file_too_large other open_gone reads ranges gives = absurd gives
fails_so version Of path file_failed other open_gone reads ranges gives = absurd gives
fails_so version Of path file_failed other open_failed reads ranges gives = refl
fails_so version Of path (file_read stamp all) other open_failed reads ranges gives = absurd gives
fails_so version Of path file_too_large other open_failed reads ranges gives = absurd gives
fails_so version Of path file_gone other open_failed reads ranges gives = absurd gives
fails_so version Of path answer other open_no_memory reads ranges gives = absurd (never_without version path reads answer other gives)

module _ {told : Bool} {version : Versions} {before after : ShownTree} where
  -- a file was opened, and what was heard is that and the reads
  opened_at : (route : Route) (one : Candidate) (answer : FileAnswer) (stamp : StampFacts) (reads : List Heard)
      → Listens told version before after (open_file one.path FILE_LIMIT (was_opened stamp) ∷ reads)
      → ReadsRanges (needs_for route) one.path (was_opened stamp) reads → OpeningGives version one.path (was_opened stamp) reads answer
      → IsOpening (record { told = told; version = version; start = before }) route one answer
      (open_file one.path FILE_LIMIT (was_opened stamp) ∷ reads)
  opened_at route one answer stamp reads l ranges gives = record {
    opening = was_opened stamp;
    reads = reads;
    asked = refl;
    fits = All-head (FitsAny version) (open_file one.path FILE_LIMIT (was_opened stamp)) reads l.fits;
    tells = λ is still.
        All-head (IsAnswerTold before.present) (open_file one.path FILE_LIMIT (was_opened stamp)) reads (l.tells is still);
    ranges = ranges;
    gives = gives;
  }

  -- what was heard is the opening and the reads
  opened_so : (route : Route) (one : Candidate) (answer : FileAnswer) → answer ≢ file_no_memory → (opening : OpenFacts)
      (reads : List Heard)
      → Listens told version before after (heard_or_none (open_file one.path FILE_LIMIT opening) ++ reads)
      → ReadsRanges (needs_for route) one.path opening reads → OpeningGives version one.path opening reads answer
      → IsOpening (record { told = told; version = version; start = before }) route one answer
      (heard_or_none (open_file one.path FILE_LIMIT opening) ++ reads)
  opened_so route one answer other (was_opened stamp) reads l ranges gives = opened_at route one answer stamp reads l ranges gives
  opened_so route one answer other (was_too_large stamp) reads l ranges gives = record {
    opening = was_too_large stamp;
    reads = reads;
    asked = refl;
    fits = All-head (FitsAny version) (open_file one.path FILE_LIMIT (was_too_large stamp)) reads l.fits;
    tells = λ is still.
        All-head (IsAnswerTold before.present) (open_file one.path FILE_LIMIT (was_too_large stamp)) reads (l.tells is still);
    ranges = ranges;
    gives = gives;
  }
  opened_so route one answer other open_gone reads l ranges gives = record {
    opening = open_gone;
    reads = reads;
    asked = refl;
    fits = tt;
    tells = λ is still. All-head (IsAnswerTold before.present) (open_file one.path FILE_LIMIT open_gone) reads (l.tells is still);
    ranges = ranges;
    gives = gives;
  }
  opened_so route one answer other open_failed reads l ranges gives = record {
    opening = open_failed;
    reads = reads;
    asked = refl;
    fits = tt;
    tells = λ is still. tt;
    ranges = ranges;
    gives = gives;
  }
  opened_so route one answer other open_no_memory reads l ranges gives =
      absurd (never_without version one.path reads answer other gives)

  pub is_opening : {route : Route} {one : Candidate} {answer : FileAnswer} → answer ≢ file_no_memory
      → (asks : AsksFile (needs_for route) told version one.path before after answer)
      → IsOpening (record { told = told; version = version; start = before }) route one answer
      (heard_or_none (open_file one.path FILE_LIMIT asks.opening) ++ asks.reads)
  is_opening {route} {one} {answer} other asks =
      opened_so route one answer other asks.opening asks.reads asks.listens asks.ranges asks.gives

  pub has_failed : {Of : List ℕ → Range → Type 0} {path : List ℕ} {answer : FileAnswer} → answer ≢ file_no_memory
      → (asks : AsksFile Of told version path before after answer)
      → list_any call_failed (heard_or_none (open_file path FILE_LIMIT asks.opening) ++ asks.reads) ≡ tells_failure answer
  has_failed {Of} {path} {answer} other asks = fails_so version Of path answer other asks.opening asks.reads asks.ranges asks.gives

  -- memory was refused for the opening, or behind it
  left_so : (route : Route) (one : Candidate) (opening : OpenFacts) (reads : List Heard)
      → Listens told version before after (heard_or_none (open_file one.path FILE_LIMIT opening) ++ reads)
      → ReadsRanges (needs_for route) one.path opening reads → OpeningGives version one.path opening reads file_no_memory
      → (heard_or_none (open_file one.path FILE_LIMIT opening) ++ reads ≡ [])
      ⊎ IsFileLeft (record { told = told; version = version; start = before }) route one
      (heard_or_none (open_file one.path FILE_LIMIT opening) ++ reads)
  unfolding opened_at
  left_so route one (was_opened stamp) reads l ranges gives =
      inr (record { opens = opened_at route one file_no_memory stamp reads l ranges gives; stamp = stamp; there = refl })
  left_so route one open_no_memory reads l ranges gives = inl ranges
  left_so route one (was_too_large stamp) reads l ranges gives = absurd gives
  left_so route one open_gone reads l ranges gives = absurd gives
  left_so route one open_failed reads l ranges gives = absurd gives

  pub is_left : {route : Route} {one : Candidate} (asks : AsksFile (needs_for route) told version one.path before after file_no_memory)
      → (heard_or_none (open_file one.path FILE_LIMIT asks.opening) ++ asks.reads ≡ [])
      ⊎ IsFileLeft (record { told = told; version = version; start = before }) route one
      (heard_or_none (open_file one.path FILE_LIMIT asks.opening) ++ asks.reads)
  is_left {route} {one} asks = left_so route one asks.opening asks.reads asks.listens asks.ranges asks.gives

-- where a file was read, no call failed
none_behind : (version : Versions) (path : List ℕ) (opening : OpenFacts) (reads all : List Heard) (stamp : StampFacts)
    → OpeningGives version path opening reads (file_read stamp all) → OpeningGives version path opening reads file_no_memory
none_behind version path (was_opened given) reads all stamp gives = gives.3
none_behind version path (was_too_large given) reads all stamp gives = absurd gives
none_behind version path open_gone reads all stamp gives = absurd gives
none_behind version path open_failed reads all stamp gives = absurd gives
none_behind version path open_no_memory reads all stamp gives = absurd gives

-- a file was read, and memory was refused behind that
pub wanting_behind : {Of : List ℕ → Range → Type 0} {told : Bool} {version : Versions} {path : List ℕ} {before after : ShownTree}
    {stamp : StampFacts} {all : List Heard} → AsksFile Of told version path before after (file_read stamp all)
    → AsksFile Of told version path before after file_no_memory
wanting_behind {version = version} {path} {stamp = stamp} {all} asks = record {
  opening = asks.opening;
  reads = asks.reads;
  listens = asks.listens;
  alone = asks.alone;
  hands = record {
    cause = record { later = asks.hands.cause.later; rose = λ is. absurd (cc) };
    known = asks.hands.known;
    keeps = asks.hands.keeps;
    still = asks.hands.still;
  };
  ranges = asks.ranges;
  gives = none_behind version path asks.opening asks.reads all stamp asks.gives;
}
