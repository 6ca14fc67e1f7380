-- Settling (this project's rule): with one hand the names of a pass that are to be read are opened and read, and their rows
-- published, then the names that are to be looked for are looked for and judged. What is said here holds from one moment
-- of it to any later one. The paths that may be looked at are those that the pass has marked; of a pass over folders they are
-- those in its scope.
use Rattle.std.specs.Prelude.{◌≡◌, ◌≢◌, ◌⊎◌, ℕ, ◌≤◌, Bool, true, false, List, [], ◌∷◌, ◌++◌, All, Contains, count_by, Option, Some, None}
use Rattle.std.specs.Str.{bytes_eq}
use Rattle.row_types.specs.Faults.{Rose}
use Rattle.row_types.specs.Name.{NameFacts, stamp_at}
use Rattle.row_types.specs.Row.{RowFacts}
use Rattle.row_types.specs.Stamp.{StampFacts}
use Rattle.row_types.specs.declared.limits.TheConstants.{FILE_LIMIT}
use Rattle.index_keeper.specs.Keeper.{ShownKeeper}
use Rattle.index_rows.specs.Rows.{row_names}
use Rattle.index_state.specs.Bound.{StaysBounded}
use Rattle.index_state.specs.Marks.{is_marked}
use Rattle.index_state.specs.State.{StateFacts, pass_or_none}
use Rattle.scan_queue.specs.Names.{is_in}
use Rattle.scan_queue.specs.Pass.{PassFacts, missed_names}
use Rattle.scan_queue.specs.declared.miss.Cause.{Cause}
use Rattle.scan_queue.specs.declared.miss.Cause.TheVariants.{ReadFault, Altered, Appeared}
use Rattle.scan_queue.specs.declared.miss.Miss.{Miss}
use Rattle.scan_queue.specs.declared.miss.Seen.{Seen}
use Rattle.scan_worker.specs.Read.{AsksParts, FindsOther, ReadsListed, heard_opening, heard_reading}
use Rattle.tree_trait.specs.Fills.{IsReadOfFile}
use Rattle.tree_trait.specs.Found.{Versions}
use Rattle.tree_trait.specs.Heard.{Heard, load, stat, read_dir, open_file, read_at}
use Rattle.tree_trait.specs.Listens.{Listens}
use Rattle.tree_trait.specs.Open.{OpenFacts}
use Rattle.tree_trait.specs.Shown.{ShownTree}
use Rattle.tree_trait.specs.declared.stat.StatAnswer.{StatAnswer}
use Rattle.tree_trait.specs.declared.stat.StatAnswer.TheVariants.{Folder, File, Other, Gone}

-- the path is listed, and its name had no row
pub record HadNoRow (listing names : List NameFacts) (path : List ℕ) : Type 0 where
  pub stamp : StampFacts
  pub listed : stamp_at listing path ≡ Some stamp
  pub absent : is_in names (record { path = path; stamp = stamp }) ≡ false

-- what may be asked: the opening of a listed file whose name had no row, and reads of it; and a look at a path that
-- may be looked at
abbrev pub MayBeAsked : List NameFacts → (List ℕ → Bool) → List NameFacts → Heard → Type 0
MayBeAsked listing looks names (load path limit answer) = ⊥
MayBeAsked listing looks names (stat path answer) = looks path ≡ true
MayBeAsked listing looks names (read_dir path answer) = ⊥
MayBeAsked listing looks names (open_file path limit answer) = (limit ≡ FILE_LIMIT) × HadNoRow listing names path
MayBeAsked listing looks names (read_at name at answer) = HadNoRow listing names name.path

-- what may be asked of an index at a moment: its pass says which paths are marked
abbrev pub Wants : {K : Type 0} → StateFacts K → Heard → Type 0
Wants state = MayBeAsked (pass_or_none state.pass).listing (is_marked state.pass) (row_names state.rows)

-- one thing after the other: a file of at most 64 GiB was opened, and none of its bytes was read but those of its parts; or a look
-- was made at a path that may be looked at
pub data AreReadingsAndLooks (looks : List ℕ → Bool) : List Heard → Type 0 where
  none_heard : AreReadingsAndLooks looks []
  one_look : (path : List ℕ) (answer : StatAnswer) (more all : List Heard) → looks path ≡ true
      → all ≡ stat path answer ∷ more → AreReadingsAndLooks looks more → AreReadingsAndLooks looks all
  one_file : (name : NameFacts) (answer : OpenFacts) (reads more all : List Heard)
      → all ≡ heard_reading name answer reads ++ more → All (IsReadOfFile name) reads → AsksParts name reads
      → AreReadingsAndLooks looks more → AreReadingsAndLooks looks all

-- whether this is a load of the path, or its opening
abbrev pub is_load_of : List ℕ → Heard → Bool
is_load_of path (load asked limit answer) = bytes_eq asked path
is_load_of path (open_file asked limit answer) = bytes_eq asked path
is_load_of path _ = false

-- how often the path was loaded or opened
abbrev pub times_loaded : List Heard → List ℕ → ℕ
times_loaded answers path = count_by (is_load_of path) answers

-- how many of the names have the path
abbrev pub times_named : List NameFacts → List ℕ → ℕ
times_named names path = count_by (λ name. bytes_eq name.path path) names

-- the look did not find the file with the stamp
abbrev pub IsMissing : StampFacts → StatAnswer → Type 0
IsMissing stamp Folder = Unit {0}
IsMissing stamp Other = Unit {0}
IsMissing stamp Gone = Unit {0}
IsMissing stamp (File seen) = seen ≢ stamp
IsMissing stamp _ = ⊥

-- a look at the path of the name did not find its file
pub record IsSeenGone (answers : List Heard) (name : NameFacts) : Type 0 where
  pub answer : StatAnswer
  pub heard : Contains answers (stat name.path answer)
  pub missing : IsMissing name.stamp answer

-- the row of the name may go where its path isn't listed and may be looked at: a look did not find its file
abbrev pub MayGo : List NameFacts → (List ℕ → Bool) → List Heard → NameFacts → Type 0
MayGo listing looks answers name = stamp_at listing name.path ≡ None → looks name.path ≡ true → IsSeenGone answers name

-- an opening found another file in place of the listed name's
pub record IsHeardAltered (listing : List NameFacts) (answers : List Heard) (name : NameFacts) (met : Seen) : Type 0 where
  pub listed : is_in listing name ≡ true
  pub answer : OpenFacts
  pub heard : Contains answers (heard_opening name answer)
  pub other : FindsOther name answer met

-- a look found the file of a name that isn't listed
pub record IsSeenThere (listing : List NameFacts) (answers : List Heard) (name : NameFacts) : Type 0 where
  pub unlisted : is_in listing name ≡ false
  pub heard : Contains answers (stat name.path (File name.stamp))

-- and the name had a row
pub record IsHeardThere (listing names : List NameFacts) (answers : List Heard) (name : NameFacts) : Type 0 where
  pub seen : IsSeenThere listing answers name
  pub row : is_in names name ≡ true

-- the name was not missed as one that appeared
abbrev pub HasNotAppeared : Miss → Type 0
HasNotAppeared miss = miss.cause ≢ Appeared

-- where the name was missed as one that appeared, these names have it
abbrev pub StandsIfAppeared : List NameFacts → Miss → Type 0
StandsIfAppeared names miss = miss.cause ≡ Appeared → is_in names miss.name ≡ true

-- no name was missed as one that appeared
abbrev pub NoneAppeared : {K : Type 0} → StateFacts K → Type 0
NoneAppeared state = All HasNotAppeared (pass_or_none state.pass).missed

-- the row of each name that was missed as one that appeared stands
abbrev pub AppearedStand : {K : Type 0} → StateFacts K → Type 0
AppearedStand state = All (StandsIfAppeared (row_names state.rows)) (pass_or_none state.pass).missed

-- by what a name was missed, where these names had rows: the count of faults rose, or this was heard
abbrev pub IsBacked : List NameFacts → List NameFacts → List Heard → Type 0 → NameFacts → Cause → Type 0
IsBacked listing names answers Failed name ReadFault = Failed
IsBacked listing names answers Failed name (Altered met) = IsHeardAltered listing answers name met
IsBacked listing names answers Failed name Appeared = IsHeardThere listing names answers name

-- the name was missed before, or this is why
abbrev pub IsMissBy : List NameFacts → List NameFacts → List Miss → List Heard → Type 0 → Miss → Type 0
IsMissBy listing names missed answers Failed miss =
    Contains missed miss ⊎ IsBacked listing names answers Failed miss.name miss.cause

-- of the names that were missed since a moment
abbrev pub MissesBy : {K : Type 0} → StateFacts K → List Heard → Type 0 → Miss → Type 0
MissesBy state = IsMissBy (pass_or_none state.pass).listing (row_names state.rows) (pass_or_none state.pass).missed

-- the file of the row's name was opened and read, and the row says what it is
pub record IsReadOf (answers : List Heard) (row : RowFacts) : Type 0 where
  pub answer : OpenFacts
  pub reads : List Heard
  pub heard : All (Contains answers) (heard_reading row.name answer reads)
  pub says : ReadsListed row.name answer reads row

-- the row was there before, or says what was read
abbrev pub IsBrought : List RowFacts → List Heard → RowFacts → Type 0
IsBrought rows answers row = Contains rows row ⊎ IsReadOf answers row

-- no row of a listed name went
abbrev pub KeepsListed : List NameFacts → List RowFacts → List RowFacts → Type 0
KeepsListed listing old new =
    (name : NameFacts) → is_in listing name ≡ true
    → is_in (row_names old) name ≡ true → is_in (row_names new) name ≡ true

-- what a pass does to rows from one moment to a later one, while this was heard: no row of a listed name went; a row whose path
-- isn't listed and may be looked at went only where a look did not find its file; a row that came is of a listed name; and a row
-- that wasn't there says what was read. Of two lists of rows, and not of two indexes, since a scan says it of the rows that its
-- store held and has
pub record MovesRows (listing : List NameFacts) (looks : List ℕ → Bool) (answers : List Heard) (old new : List RowFacts)
    : Type 0 where
  pub stays : KeepsListed listing old new
  pub goes : (name : NameFacts) → is_in (row_names old) name ≡ true
      → is_in (row_names new) name ≡ false → MayGo listing looks answers name
  pub comes : (name : NameFacts) → is_in (row_names new) name ≡ true
      → is_in (row_names old) name ≡ false → is_in listing name ≡ true
  pub brings : All (IsBrought old answers) new

-- whether the name was missed
abbrev pub is_missed : {K : Type 0} → StateFacts K → NameFacts → Bool
is_missed state name = is_in (missed_names (pass_or_none state.pass).missed) name

-- each listed name that was missed is missed still
abbrev pub MissesStay : {K : Type 0} → List NameFacts → StateFacts K → StateFacts K → Type 0
MissesStay listing old new =
    (name : NameFacts) → is_in listing name ≡ true → is_missed old name ≡ true → is_missed new name ≡ true

-- each listed name for which an opening found another file is missed
abbrev pub AlteredAreMissed : {K : Type 0} → List NameFacts → List Heard → StateFacts K → Type 0
AlteredAreMissed listing answers state =
    (name : NameFacts) (met : Seen) → IsHeardAltered listing answers name met → is_missed state name ≡ true

-- the pass is open all the while, over the same listing
pub record IsPassOn (old new : Option PassFacts) : Type 0 where
  pub from : PassFacts
  pub into : PassFacts
  pub was : old ≡ Some from
  pub is : new ≡ Some into
  pub over : into.listing ≡ from.listing

-- where the index went from one moment of the settling to a later one, while this was heard and calls of the hand failed only
-- so: the pass goes on, over the same listing and with the same marks; the rows went and came as in a pass; a name is missed
-- only for a reason, and a listed one that was missed is missed still; no name came to be read; and the log did not grow more
-- than what is open became less, but for a void change
pub record Advances {K : Type 0} (shows : K → ShownKeeper) (answers : List Heard) (Failed : Type 0)
    (old new : StateFacts K) : Type 0 where
  pub keeper : (shows old.keeper).faults ≤ (shows new.keeper).faults
  pub pass : IsPassOn old.pass new.pass
  pub marked : (pass_or_none new.pass).marked ≡ (pass_or_none old.pass).marked
  pub origin : new.origin ≡ old.origin
  pub moves : MovesRows (pass_or_none old.pass).listing (is_marked old.pass) answers old.rows new.rows
  pub missed : All (MissesBy old answers Failed) (pass_or_none new.pass).missed
  pub still : MissesStay (pass_or_none old.pass).listing old new
  pub todo : (path : List ℕ)
      → times_named (pass_or_none new.pass).todo path ≤ times_named (pass_or_none old.pass).todo path
  pub bounded : StaysBounded (pass_or_none old.pass).listing old new

-- what the settling did from one moment to a later one: nothing else was heard, all of it was wanted, of each file none but its
-- parts was read, the index went on so, and a listed name for which an opening found another file is missed
pub record Proceeds {K : Type 0} (told : Bool) (version : Versions) (shows : K → ShownKeeper)
    (before after : ShownTree) (old new : StateFacts K) : Type 0 where
  pub answers : List Heard
  pub listens : Listens told version before after answers
  pub wanted : All (Wants old) answers
  pub parts : AreReadingsAndLooks (is_marked old.pass) answers
  pub on : Advances shows answers (Rose before.faults after.faults) old new
  pub altered : AlteredAreMissed (pass_or_none old.pass).listing answers new

-- and no path was opened twice
pub record Settles {K : Type 0} (told : Bool) (version : Versions) (shows : K → ShownKeeper)
    (before after : ShownTree) (old new : StateFacts K) : Type 0 where
  pub does : Proceeds told version shows before after old new
  pub once : (path : List ℕ) → times_loaded does.answers path ≤ 1
