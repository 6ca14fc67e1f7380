-- Pictures of a file of one byte.
use Rattle.std.proofs.Common.{◌≡◌, ◌<◌, ◌+◌, ℕ, true, inl, List, [], length, min, Option, Some, None, sym, ◌∙◌, ap, subst, refl, arith, codes}
use Rattle.file_formats.specs.Cover.{IsPlaceOf}
use Rattle.file_formats.specs.Windows.{IsSomeWindow, beginning, range}
use Rattle.file_formats.specs.declared.fields.TheConstants.{EHDR64_SIZE}
use Rattle.file_picture.specs.Agrees.{AgreesWithPicture}
use Rattle.file_picture.specs.Counts.{is_known, is_known_or}
use Rattle.file_picture.specs.Picture.{PictureFacts, IsAdded, IsRangeFree, sum_of}
use Rattle.file_picture.specs.ReadSoFar.{IsReadSoFar}
use Rattle.file_picture.proofs.AgreeLaws.{added-agrees}
use Rattle.file_picture.proofs.ReadSoFarLaws.{added-only, inside_in, unread-so_far}
use Rattle.row_types.specs.declared.limits.TheConstants.{READ_LIMIT}

-- the picture of which nothing is known
abbrev unknown : PictureFacts
unknown = record { size = 1; pieces = [] }

-- it is one of each such file
pub none_known : (p : PictureFacts) → p ≡ record { size = 1; pieces = [] } → AgreesWithPicture (codes "x") p
none_known p e = subst (AgreesWithPicture (codes "x")) (sym e) of
  where
    of : AgreesWithPicture (codes "x") unknown
    of = record {
      sized = refl;
      same = λ place x known. let both : ◌≡◌ {A = Option ℕ} None (Some x) = known in absurd (cc);
    }

-- none of its bytes is there
pub none_there : (p : PictureFacts) (len : ℕ) → p ≡ record { size = 1; pieces = [] } → IsRangeFree p 0 len
none_there p len e = subst (λ (q : PictureFacts). IsRangeFree q 0 len) (sym e) (λ place low high. refl)

-- with its byte it is one of the file of this byte
pub one_known : {old new : PictureFacts} (bytes : List ℕ) → old ≡ record { size = 1; pieces = [] } → bytes ≡ codes "x"
    → IsAdded old 0 bytes new → AgreesWithPicture (codes "x") new
one_known {old} {new} bytes e same a =
    let size : old.size ≡ 1 = ap (λ (p : PictureFacts). p.size) e in
    added-agrees (subst (λ (xs : List ℕ). IsAdded old 0 xs new) same a) (codes "x") (none_known old e) (omega (arith, size)) refl

-- and nothing but a window is known of it
pub one_read : {old new : PictureFacts} (bytes : List ℕ) → old ≡ record { size = 1; pieces = [] } → bytes ≡ codes "x"
    → IsAdded old 0 bytes new → IsReadSoFar READ_LIMIT new
one_read {old} {new} bytes e same a = record {
  small =
      let sum = a.sum in
      let none : sum_of old.pieces ≡ 0 = ap (λ (p : PictureFacts). sum_of p.pieces) e in
      let one : length bytes ≡ 1 = ap length same in
      omega (arith, sum, none, one);
  holds = λ b f. inl (λ place known. window b f place known);
}
  where
    below : (place : ℕ) → is_known new place ≡ true → place < 1
    below place known =
        let one : length bytes ≡ 1 = ap length same in
        let either : is_known_or (unknown) 0 (length bytes) place ≡ true =
        subst (λ (p : PictureFacts). is_known_or p 0 (length bytes) place ≡ true) e (added-only old 0 bytes new a place known) in
        let inside = (inside_in 0 (length bytes) place either).below in
        omega (arith, inside, one)

    window : (b : List ℕ) → AgreesWithPicture b new → (place : ℕ) → is_known new place ≡ true → IsPlaceOf (IsSomeWindow b) place
    window b f place known =
        let under = below place known in
        let sized : length b ≡ 1 = f.sized ∙ a.size ∙ ap (λ (p : PictureFacts). p.size) e in
        record {
          range = range 0 (min EHDR64_SIZE (length b));
          of = record { window = beginning; is = record { is = refl } };
          inside = record {
            above = omega arith;
            below = subst (λ n. place < 0 + min EHDR64_SIZE n) (sym sized) (omega (arith, under));
          };
        }

-- of a file of which nothing is known nothing was read that may not be
pub none_read : (p : PictureFacts) (size : ℕ) → p ≡ record { size = size; pieces = [] } → IsReadSoFar READ_LIMIT p
none_read p size e = subst (IsReadSoFar READ_LIMIT) (sym e) (unread-so_far READ_LIMIT size)

pub ruleset one_byte = (none_known, none_there, one_known, one_read, none_read)
