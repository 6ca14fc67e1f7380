-- What is given of an open file that was checked.
use Rattle.std.proofs.Common.{◌≡◌, ℕ, List, Option, Some, None, sym, ◌∙◌, ap, subst}
use Rattle.file_formats.specs.Parts.{IsSomeSection}
use Rattle.file_formats.specs.Table.{IsSectionAnswer}
use Rattle.file_formats.proofs.IdentityLemmas.{section-unique}
use Rattle.file_picture.specs.Agrees.{AgreesWithPicture, IsOfEach}
use Rattle.file_formats.specs.Windows.{IsSomeWindow}
use Rattle.file_parts.specs.Wholes.{IsThereWhole}
use Rattle.file_parts.proofs.KnownLemmas.{none_needed}
use Rattle.file_picture.specs.Picture.{IsPicture, PictureFacts}
use Rattle.row_types.specs.declared.identity.Kind.{Kind}
use Rattle.row_types.specs.declared.identity.Kind.TheVariants as kind
use Rattle.tree_trait.specs.Opened.{OpenedFacts}
use Rattle.webapi_routes.specs.declared.route.Route.TheVariants.{Debuginfo, Executable, Section}
use Rattle.answer_check.specs.Checked.{CheckedFacts, FaultsView, checked}
use Rattle.answer_check.specs.declared.view.ViewFault.{ViewFault}
use Rattle.answer_check.specs.declared.view.ViewFault.TheVariants.{Need, Check}
use Rattle.answer_check.proofs.RefusalLemmas.{refused-not_certified}
use Rattle.answer_check.specs.CheckedSection.{CheckedSectionFacts, HasSectionSeen, checked_section}
use Rattle.answer_core.specs.Fits.{FitsFile, FitsOpened, HasNoSection, IsCheckedOf, IsNoneCertified}
use Rattle.answer_core.specs.declared.given.Given.TheVariants as given
use Rattle.answer_core.specs.declared.given.Tried.{Tried}
use Rattle.answer_core.specs.declared.given.Tried.TheVariants as tried

-- a checked file is the file of its class and id
pub fits_debuginfo : {F : Type 0} (id : List ℕ) (class : Option Kind) (opened : OpenedFacts F) (came : Tried F)
    → FitsFile kind.Debuginfo id opened came → FitsOpened (Debuginfo id) class opened came
fits_debuginfo id class opened (tried.Passed (given.File from file)) fits = (fits.certified, (fits.is, fits.same))
fits_debuginfo id class opened (tried.Passed (given.Section section)) fits = absurd fits
fits_debuginfo id class opened (tried.Passed (given.Source bytes)) fits = absurd fits
fits_debuginfo id class opened tried.Refused fits = fits
fits_debuginfo id class opened tried.Failed fits = absurd fits
fits_debuginfo id class opened tried.OutOfMemory fits = tt

pub fits_executable : {F : Type 0} (id : List ℕ) (class : Option Kind) (opened : OpenedFacts F) (came : Tried F)
    → FitsFile kind.Executable id opened came → FitsOpened (Executable id) class opened came
fits_executable id class opened (tried.Passed (given.File from file)) fits = (fits.certified, (fits.is, fits.same))
fits_executable id class opened (tried.Passed (given.Section section)) fits = absurd fits
fits_executable id class opened (tried.Passed (given.Source bytes)) fits = absurd fits
fits_executable id class opened tried.Refused fits = fits
fits_executable id class opened tried.Failed fits = absurd fits
fits_executable id class opened tried.OutOfMemory fits = tt

-- a section that was found in a checked file
pub fits_section : {F : Type 0} (class : Kind) (id name : List ℕ) (opened : OpenedFacts F) (from : CheckedFacts) (file : F)
    (section : CheckedSectionFacts) → IsCheckedOf class id opened from file
    → (section ≡ checked_section from name) × HasSectionSeen section
    → FitsOpened (Section id name) (Some class) opened (tried.Passed (given.Section section))
fits_section class id name opened from file section is finds =
    let same : section ≡ checked_section (checked class id opened.picture) name =
    finds.0 ∙ ap (λ (f : CheckedFacts). checked_section f name) is.is in
    let seen = subst (λ (s : CheckedSectionFacts). HasSectionSeen s) same finds.1 in (
      (λ b f. (is.certified b f, (seen.0, seen.1.is b f))),
      (same, finds.1),
    )

-- a checked file without the section doesn't pass
pub fits_none : {F : Type 0} (class : Kind) (id name : List ℕ) (opened : OpenedFacts F) (from : CheckedFacts) (file : F)
    → IsCheckedOf class id opened from file → HasNoSection name from.picture
    → FitsOpened (Section id name) (Some class) opened tried.Refused
fits_none class id name opened from file is none = λ b f passes.
    none b (subst (λ (x : CheckedFacts). AgreesWithPicture b x.picture) (sym is.is) f) passes.1

-- a file has one section of a name, or none
pub none_found : (p : PictureFacts) (name : List ℕ) → IsOfEach (IsSomeSection name) (λ b. IsSectionAnswer b name None) p
    → HasNoSection name p
none_found p name seen = λ b f has. let one = section-unique (seen.is b f) has.1 in absurd (cc)

-- a picture that has all windows and isn't certified is refused in each file that agrees
pub none_certified : (kind : Kind) (id : List ℕ) (p : PictureFacts) (fault : ViewFault) → IsPicture p → IsThereWhole IsSomeWindow p
    → FaultsView kind id p fault → IsNoneCertified kind id p
none_certified kind id p (Need at len) is there faults = absurd (none_needed is there faults)
none_certified kind id p (Check fault) is there faults = λ b f certified. refused-not_certified fault (faults.is b f) certified
