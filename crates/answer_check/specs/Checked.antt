-- Certified pictures (this project's rule): each file that agrees with one is of a build-id and a class.
use Rattle.std.specs.Prelude.{ℕ, List}
use Rattle.file_formats.specs.Windows.{IsSomeWindow}
use Rattle.file_picture.specs.Agrees.{AsksOf, IsOfEach}
use Rattle.file_picture.specs.Picture.{IsPicture, PictureFacts}
use Rattle.row_types.specs.declared.identity.Kind.{Kind}
use Rattle.answer_check.specs.Certified.{IsCertified}
use Rattle.answer_check.specs.Refusal.{RefusesBytes}
use Rattle.answer_check.specs.declared.view.ViewFault.{ViewFault}
use Rattle.answer_check.specs.declared.view.ViewFault.TheVariants.{Need, Check}

-- a class, a build-id and the picture of a file
pub record CheckedFacts : Type 0 where
  pub kind : Kind
  pub id : List ℕ
  pub picture : PictureFacts

-- the picture that was checked for a class and an id
abbrev pub checked : Kind → List ℕ → PictureFacts → CheckedFacts
checked kind id picture = record { kind = kind; id = id; picture = picture }

-- each file that agrees with the picture is certified, and all its windows are there
pub record IsCheckedPicture (kind : Kind) (id : List ℕ) (p : PictureFacts) : Type 0 where
  pub sound : IsPicture p
  pub certified : IsOfEach IsSomeWindow (IsCertified kind id) p

-- why a picture isn't certified: a window that isn't there is needed; or all are, and each file that agrees is refused for this
-- reason
abbrev pub FaultsView : Kind → List ℕ → PictureFacts → ViewFault → Type 0
FaultsView kind id p (Need at len) = AsksOf IsSomeWindow p at len
FaultsView kind id p (Check fault) = IsOfEach IsSomeWindow (λ b. RefusesBytes kind id b fault) p
