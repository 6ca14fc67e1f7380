-- What is said of a picture is so of each file that agrees with it (this project's rule).
use Rattle.std.specs.Prelude.{ℕ, Result, Ok, Err}
use Rattle.file_formats.specs.Identity.{Identity, IsIdentity}
use Rattle.file_formats.specs.Windows.{IsSomeWindow}
use Rattle.file_formats.specs.declared.fault.Why.{Why}
use Rattle.file_picture.specs.Agrees.{AsksOf, IsOfEach, filled_with_zeros}
use Rattle.file_picture.specs.Passed.{HasPassed}
use Rattle.file_picture.specs.Picture.{PictureFacts}
use Rattle.file_picture.specs.declared.view.Need.{Need}
use Rattle.elf_file.specs.Steps.{AllHere, Needs}
use Rattle.elf_classify.specs.declared.identity.IdentView.{IdentView}
use Rattle.elf_classify.specs.declared.identity.IdentView.TheVariants as view
use Rattle.elf_classify.specs.declared.identity.IdentStep.{IdentStep}
use Rattle.elf_classify.specs.declared.identity.IdentStep.TheVariants as step

-- the answer for the identity of each file that agrees, all of whose windows are there
abbrev pub IsIdentityOfEach : PictureFacts → Result Identity Why → Type 0
IsIdentityOfEach p answer = IsOfEach IsSomeWindow (λ b. IsIdentity b answer) p

-- what is answered for the identity of a picture
abbrev pub SaysIdentity : PictureFacts → IdentView → Type 0
SaysIdentity p (view.Need at len) = AsksOf IsSomeWindow p at len
SaysIdentity p (view.Ident identity) = IsIdentityOfEach p (Ok identity)
SaysIdentity p (view.Plain why) = IsIdentityOfEach p (Err why)

-- the same, with the section from which to look on, where a range is needed
abbrev pub SaysStep : PictureFacts → IdentStep → Type 0
SaysStep p (step.Need at len next) = AsksOf IsSomeWindow p at len × HasPassed p next
SaysStep p (step.Ident identity) = IsIdentityOfEach p (Ok identity)
SaysStep p (step.Plain why) = IsIdentityOfEach p (Err why)

-- the answer is that of the filled picture, all of whose windows are there
pub record IsIdentitySeen (v : PictureFacts) (answer : Result Identity Why) : Type 0 where
  pub is : IsIdentity (filled_with_zeros v) answer
  pub all : (n : ℕ) → AllHere v n

-- a window is asked for that isn't there, and the sections before one needn't be looked at again
pub record NeedsFrom (v : PictureFacts) (need : Need) (from : ℕ) : Type 0 where
  pub needs : Needs v need
  pub passed : HasPassed v from

-- what a reading of a view finds
abbrev pub SeesStep : PictureFacts → IdentStep → Type 0
SeesStep v (step.Need at len next) = NeedsFrom v (record { at = at; len = len }) next
SeesStep v (step.Ident identity) = IsIdentitySeen v (Ok identity)
SeesStep v (step.Plain why) = IsIdentitySeen v (Err why)
