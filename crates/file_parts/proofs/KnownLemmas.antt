-- What is known of a file by a picture in which all is there that an answer rests on.
use Rattle.std.proofs.Common.{ℕ, ◌+◌, ◌≤◌, List, length, Option, Result, Ok, Err, IfOk, inl, inr, arith}
use Rattle.file_formats.specs.Parts.{IsSomePart}
use Rattle.file_formats.specs.Windows.{IsSomeWindow, Range, range}
use Rattle.file_formats.specs.declared.fault.Why.{Why}
use Rattle.file_formats.proofs.IdentityLemmas.{identity-unique}
use Rattle.file_formats.proofs.PartLaws.{part-inside, section-inside}
use Rattle.file_picture.specs.Agrees.{AgreesWithPicture, AsksOf, IsOfEach, filled_with_zeros}
use Rattle.file_picture.specs.Picture.{IsPicture, PictureFacts}
use Rattle.file_picture.proofs.AgreeLaws.{filled-agrees}
use Rattle.row_types.specs.Name.{NameFacts}
use Rattle.row_types.specs.Stamp.{StampFacts}
use Rattle.tree_trait.specs.Found.{Versions}
use Rattle.tree_trait.specs.Heard.{Heard}
use Rattle.tree_trait.specs.Needs.{IsOfReads}
use Rattle.tree_trait.specs.Opened.{HoldsPicture, IsPictureOf}
use Rattle.elf_classify.specs.Views.{IsIdentityOfEach}
use Rattle.file_parts.specs.Wholes.{IsReadWhole, IsThereWhole, needs_of}
use Rattle.file_parts.specs.declared.part.FilePart.{FilePart}
use Rattle.file_parts.specs.declared.part.FilePart.TheVariants as part

-- a window is a part
pub window_asked : {p : PictureFacts} {at len : ℕ} → AsksOf IsSomeWindow p at len → AsksOf IsSomePart p at len
window_asked n = record { gone = n.gone; among = λ b f. inl (n.among b f) }

-- the parts of a file without an identity are its windows
pub plain_there : (p : PictureFacts) (why : Why) → IsIdentityOfEach p (Err why) → IsThereWhole IsSomePart p
plain_there p why s b f r (inl w) = s.there b f r w
plain_there p why s b f r (inr d) =
    let both = identity-unique b (Err why) (Ok d.has.identity) (s.is b f) d.has.is_identity in absurd (cc)

-- where all is there, nothing is needed
pub none_needed : {Of : List ℕ → Range → Type 0} {p : PictureFacts} {at len : ℕ} → IsPicture p → IsThereWhole Of p
    → AsksOf Of p at len → ⊥
none_needed {p = p} {at} {len} is there asks =
    asks.gone (there (filled_with_zeros p) (filled-agrees p is) (range at len)
    (asks.among (filled_with_zeros p) (filled-agrees p is)))

-- what is so of each file that agrees with the picture is so of each that has what was read
pub of_reads : {Of : List ℕ → Range → Type 0} {size : ℕ} {reads : List Heard} {p : PictureFacts} {version : Versions}
    {name : NameFacts} {Is : List ℕ → Type 0} → IsReadWhole Of size reads p → IsPictureOf version name p
    → ((b : List ℕ) → AgreesWithPicture b p → Is b) → IsOfReads size reads Is
of_reads whole seen each = record {
  bytes = seen.bytes;
  has = whole.has seen.bytes seen.agrees;
  is = λ b h. each b (whole.agrees b h);
}

-- a range that is needed lies in the file
pub inside : (which : FilePart) (b : List ℕ) (r : Range) → needs_of which b r → r.at + r.len ≤ length b
inside part.Identity b r h = part-inside b r (inl h)
inside part.Debug b r h = part-inside b r h
inside (part.Section name) b r (inl h) = part-inside b r (inl h)
inside (part.Section name) b r (inr h) = section-inside b name.now r h

pub need_fits : (which : FilePart) {version : Versions} {path : List ℕ} {stamp : StampFacts} {p : PictureFacts} {at len : ℕ}
    → HoldsPicture version path stamp p → AsksOf (needs_of which) p at len → at + len ≤ stamp.size
need_fits which {at = at} {len} h asks =
    let within = inside which h.seen.bytes (range at len) (asks.among h.seen.bytes h.seen.agrees) in
    let long = h.seen.agrees.sized in
    let sized = h.sized in
    omega (arith, within, long, sized)
