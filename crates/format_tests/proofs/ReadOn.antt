-- Pictures into which a range of a file is read.
use Rattle.std.proofs.Common.{◌≡◌, ◌⊎◌, inl, inr, ◌+◌, ◌<◌, ◌≤◌, ℕ, true, List, length, Some, None, Option, refl, sym, ◌∙◌, subst, arith}
use Rattle.std.proofs.lemmas.Bool.{cases_lt}
use Rattle.file_formats.specs.Parts.{IsSomePart}
use Rattle.file_formats.specs.Windows.{range}
use Rattle.file_formats.proofs.PartLaws.{part-inside}
use Rattle.file_picture.specs.Agrees.{AgreesWithPicture, AsksOf, filled_with_zeros}
use Rattle.file_picture.specs.Counts.{is_inside, is_known, is_known_or}
use Rattle.file_picture.specs.Passed.{HasPassed}
use Rattle.file_picture.specs.Picture.{PictureFacts, IsAdded, IsFirstGap, IsPicture, IsRangeFree, known_byte}
use Rattle.file_picture.specs.ReadSoFar.{IsNextRead, IsReadOn, IsReadSoFar}
use Rattle.file_picture.proofs.AgreeLaws.{added-keeps, filled-agrees}
use Rattle.file_picture.proofs.CountLemmas.{is_in}
use Rattle.file_picture.proofs.PassedLaws.{passed-more}
use Rattle.file_picture.proofs.ReadSoFarLaws.{next-read-keeps, added-only, either-left, either-of, either-right, inside_in}

-- nothing became known
pub on_none : (p : PictureFacts) (at len : ℕ) → IsPicture p → IsReadOn p at len p
on_none p at len is = record {
  is = is;
  size = refl;
  only = λ q known. either-left (is_known p q) (is_inside at len q) known;
  keeps = λ from n c. c;
  less = λ b f. f;
}

-- where a place lies by a range
side : (at len place : ℕ) → ((place < at) ⊎ (at + len ≤ place)) ⊎ ((at ≤ place) × (place < at + len))
side at len place = first (cases_lt place at)
  where
    second : at ≤ place → (place < at + len) ⊎ (at + len ≤ place) → ((place < at) ⊎ (at + len ≤ place)) ⊎ ((at ≤ place) × (place < at + len))
    second above (inl below) = inr (above, below)
    second above (inr behind) = inl (inr behind)

    first : (place < at) ⊎ (at ≤ place) → ((place < at) ⊎ (at + len ≤ place)) ⊎ ((at ≤ place) × (place < at + len))
    first (inl before) = inl (inl before)
    first (inr above) = second above (cases_lt place (at + len))

-- a file that agrees once bytes were put where none was known agreed before
agreed : (old new : PictureFacts) (at : ℕ) (bytes : List ℕ) → IsRangeFree old at (length bytes) → IsAdded old at bytes new → (b : List ℕ)
    → AgreesWithPicture b new → AgreesWithPicture b old
agreed old new at bytes free a b f = record {
  sized = f.sized ∙ a.size;
  same = λ place x known. f.same place x (of place x known (side at (length bytes) place));
}
  where
    of : (place x : ℕ) → known_byte old place ≡ Some x → ((place < at) ⊎ (at + length bytes ≤ place)) ⊎ ((at ≤ place) × (place < at + length bytes))
        → known_byte new place ≡ Some x
    of place x known (inl out) = a.others place out ∙ known
    of place x known (inr within) =
        let e : ◌≡◌ {A = Option ℕ} None (Some x) = sym (free place within.0 within.1) ∙ known in absurd (cc)

-- a run of the range became known
pub on_more : (old mid new : PictureFacts) (at len from run : ℕ) (bytes : List ℕ) → IsReadOn old at len mid → IsFirstGap mid at len from run
    → length bytes ≡ run → IsAdded mid from bytes new → IsPicture new → IsReadOn old at len new
on_more old mid new at len from run bytes on gap long a is = record {
  is = is;
  size = a.size ∙ on.size;
  only = λ q known. of q (either-of (is_known mid q) (is_inside from (length bytes) q) (added-only mid from bytes new a q known));
  keeps = λ place n c. added-keeps a place n (on.keeps place n c);
  less = λ b f. on.less b (agreed mid new from bytes (subst (λ n. IsRangeFree mid from n) (sym long) gap.gap) a b f);
}
  where
    of : (q : ℕ) → (is_known mid q ≡ true) ⊎ (is_inside from (length bytes) q ≡ true) → is_known_or old at len q ≡ true
    of q (inl before) = on.only q before
    of q (inr here) =
        let within = inside_in from (length bytes) q here in
        let low = within.above in
        let high = within.below in
        let above = gap.above in
        let below = gap.below in
        either-right (is_known old q) (is_inside at len q) (is_in at len q (omega (arith, low, above)) (omega (arith, high, below, long)))

-- a part that is asked for lies in the file
pub part_fits : (p : PictureFacts) (at len : ℕ) → IsPicture p → AsksOf IsSomePart p at len → at + len ≤ p.size
part_fits p at len is asks =
    let f = filled-agrees p is in
    let inside : at + len ≤ _ = part-inside (filled_with_zeros p) (range at len) (asks.among (filled_with_zeros p) f) in
    subst (λ n. at + len ≤ n) f.sized inside

-- once it is read, the picture is one into which a file is read
pub read_keeps : (limit : ℕ) (old new : PictureFacts) (at len : ℕ) → IsReadSoFar limit old → AsksOf IsSomePart old at len
    → IsNextRead limit old at len → IsReadOn old at len new → IsReadSoFar limit new
read_keeps limit old new at len read asks next on = next-read-keeps limit old at len new read asks next on

-- and what was passed is passed
pub passes_on : (old new : PictureFacts) (at len i : ℕ) → IsReadOn old at len new → HasPassed old i → HasPassed new i
passes_on old new at len i on passed = passed-more on.less on.keeps passed
