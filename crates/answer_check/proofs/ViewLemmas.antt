-- What is found of a picture is so of each file that agrees with it.
use Rattle.std.proofs.Common.{◌≡◌, subst, ℕ, List, Ok, None}
use Rattle.file_formats.proofs.IdentityLemmas.{section-unique}
use Rattle.file_formats.specs.Identity.{Identity}
use Rattle.file_formats.specs.Parts.{IsSomeSection}
use Rattle.file_formats.specs.Table.{IsSectionAnswer}
use Rattle.file_formats.specs.Windows.{IsSomeWindow, range}
use Rattle.file_picture.specs.Agrees.{AsksOf, IsOfEach, filled_with_zeros}
use Rattle.file_picture.specs.Picture.{IsPicture, PictureFacts}
use Rattle.file_picture.proofs.AgreeLaws.{filled-agrees}
use Rattle.elf_classify.specs.Views.{IsIdentityOfEach}
use Rattle.row_types.specs.declared.identity.Kind.{Kind}
use Rattle.answer_check.specs.declared.certified.CheckFault.{CheckFault}
use Rattle.answer_check.specs.Certified.{IsCertified}
use Rattle.answer_check.specs.CheckedSection.{SeesPartOfEach}
use Rattle.answer_check.specs.Refusal.{PassesIdentity, RefusesBytes, RefusesIdentity}
use Rattle.answer_check.proofs.RefusalLemmas.{certified_by, refuses_bytes}

-- each is refused for what the identity is
pub refused_each : (kind : Kind) (id : List ℕ) (p : PictureFacts) (i : Identity) (fault : CheckFault) → IsIdentityOfEach p (Ok i)
    → RefusesIdentity kind id i fault → IsOfEach IsSomeWindow (λ b. RefusesBytes kind id b fault) p
refused_each kind id p i fault seen refuses = record {
  is = λ b agrees. refuses_bytes kind id b i fault (seen.is b agrees) refuses;
  there = seen.there;
}

-- or certified
pub certified_each : (kind : Kind) (id : List ℕ) (p : PictureFacts) (i : Identity) → IsIdentityOfEach p (Ok i)
    → PassesIdentity kind id i → IsOfEach IsSomeWindow (IsCertified kind id) p
certified_each kind id p i seen passes = record {
  is = λ b agrees. certified_by kind id b i (seen.is b agrees) passes;
  there = seen.there;
}

-- where each file has a section, it isn't missing
pub never_absent : (p : PictureFacts) (name part : List ℕ) → IsPicture p → SeesPartOfEach p name part
    → IsOfEach (IsSomeSection name) (λ b. IsSectionAnswer b name None) p → ⊥
never_absent p name part sound seen absent =
    let file : List ℕ = filled_with_zeros p in
    let agrees = filled-agrees p sound in
    let both = section-unique (seen.is file agrees) (absent.is file agrees) in
    absurd (cc)

-- nor is a range needed for it
pub never_needed : (p : PictureFacts) (name part : List ℕ) (at len : ℕ) → IsPicture p → SeesPartOfEach p name part
    → AsksOf (IsSomeSection name) p at len → ⊥
never_needed p name part at len sound seen asks =
    asks.gone (seen.there (filled_with_zeros p) (filled-agrees p sound) (range at len)
    (asks.among (filled_with_zeros p) (filled-agrees p sound)))

-- the part of one picture and name is that of the same ones
pub same_part : (p q : PictureFacts) (name other part : List ℕ) → p ≡ q → name ≡ other → SeesPartOfEach p name part
    → SeesPartOfEach q other part
same_part p q name other part same named seen =
    subst (λ (n : List ℕ). SeesPartOfEach q n part) named (subst (λ (r : PictureFacts). SeesPartOfEach r name part) same seen)
