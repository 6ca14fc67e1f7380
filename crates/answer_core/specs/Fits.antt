-- What comes of the check of a file of which all was read that the answer rests on (this project's rule): by its picture alone, and
-- not by a version of it. So it holds in a world that isn't told, too, and who sends bytes that agree with the picture sends a
-- certified file.
use Rattle.std.specs.Prelude.{◌≡◌, ℕ, List, Option, Some}
use Rattle.file_picture.specs.Agrees.{AgreesWithPicture}
use Rattle.file_picture.specs.Picture.{PictureFacts}
use Rattle.row_types.specs.declared.identity.Kind.{Kind}
use Rattle.row_types.specs.declared.identity.Kind.TheVariants as kind
use Rattle.tree_trait.specs.Opened.{OpenedFacts}
use Rattle.webapi_routes.specs.declared.route.Route.{Route}
use Rattle.webapi_routes.specs.declared.route.Route.TheVariants.{Debuginfo, Executable, Section}
use Rattle.answer_check.specs.Certified.{IsCertified}
use Rattle.answer_check.specs.Checked.{CheckedFacts, checked}
use Rattle.answer_check.specs.CheckedSection.{HasSectionSeen, checked_section}
use Rattle.answer_check.specs.Passing.{Passes}
use Rattle.answer_check.specs.Section.{HasSectionOf}
use Rattle.answer_core.specs.declared.given.Tried.{Tried}
use Rattle.answer_core.specs.declared.given.Tried.TheVariants as tried
use Rattle.answer_core.specs.declared.fitting.SectionFound.{SectionFound}
use Rattle.answer_core.specs.declared.fitting.SectionFound.TheVariants as found
use Rattle.answer_core.specs.declared.given.Given.{Given}
use Rattle.answer_core.specs.declared.given.Given.TheVariants as given

-- the picture and the file are those of the open file, and each file that agrees with the picture is certified
pub record IsCheckedOf {F : Type 0} (kind : Kind) (id : List ℕ) (opened : OpenedFacts F) (from : CheckedFacts) (file : F) : Type 0 where
  pub is : from ≡ checked kind id opened.picture
  pub same : file ≡ opened.file
  pub certified : (b : List ℕ) → AgreesWithPicture b opened.picture → IsCertified kind id b

-- the picture is certified, and so is each file that agrees with it
pub record IsCertifiedAs (kind : Kind) (id : List ℕ) (p : PictureFacts) (from : CheckedFacts) : Type 0 where
  pub is : from ≡ checked kind id p
  pub certified : (b : List ℕ) → AgreesWithPicture b p → IsCertified kind id b

-- no file that agrees with the picture is certified
abbrev pub IsNoneCertified : Kind → List ℕ → PictureFacts → Type 0
IsNoneCertified kind id p = (b : List ℕ) → AgreesWithPicture b p → ¬ IsCertified kind id b

-- no file that agrees with the picture has the section
abbrev pub HasNoSection : List ℕ → PictureFacts → Type 0
HasNoSection name p = (b : List ℕ) → AgreesWithPicture b p → ¬ HasSectionOf b name

-- what is found of the section of a name
abbrev pub FindsSection : CheckedFacts → List ℕ → SectionFound → Type 0
FindsSection from name (found.Found section) = (section ≡ checked_section from name) × HasSectionSeen section
FindsSection from name found.Missing = HasNoSection name from.picture
FindsSection from name found.OutOfMemory = Unit {0}

-- what came of an open file that is to be of this class and id
abbrev pub FitsFile : {F : Type 0} → Kind → List ℕ → OpenedFacts F → Tried F → Type 0
FitsFile kind id opened (tried.Passed (given.File from file)) = IsCheckedOf kind id opened from file
FitsFile kind id opened (tried.Passed _) = ⊥
FitsFile kind id opened tried.Refused = IsNoneCertified kind id opened.picture
FitsFile kind id opened tried.Failed = ⊥
FitsFile kind id opened tried.OutOfMemory = ⊥

-- what is given of an open file: the file of the route, or the section of the route's name in one of the candidate's class
abbrev pub GivesOpened : {F : Type 0} → Route → Option Kind → OpenedFacts F → Given F → Type 0
GivesOpened (Debuginfo id) class opened (given.File from file) =
    (from ≡ checked kind.Debuginfo id opened.picture) × (file ≡ opened.file)
GivesOpened (Executable id) class opened (given.File from file) =
    (from ≡ checked kind.Executable id opened.picture) × (file ≡ opened.file)
GivesOpened (Section id name) (Some class) opened (given.Section section) =
    (section ≡ checked_section (checked class id opened.picture) name) × HasSectionSeen section
GivesOpened _ _ _ _ = ⊥

-- what came of an open file: each file that agrees with its picture passes, or none does
abbrev pub FitsOpened : {F : Type 0} → Route → Option Kind → OpenedFacts F → Tried F → Type 0
FitsOpened route class opened (tried.Passed given) =
    ((b : List ℕ) → AgreesWithPicture b opened.picture → Passes route class b) × GivesOpened route class opened given
FitsOpened route class opened tried.Refused = (b : List ℕ) → AgreesWithPicture b opened.picture → ¬ Passes route class b
FitsOpened route class opened tried.Failed = ⊥
FitsOpened route class opened tried.OutOfMemory = Unit {0}
