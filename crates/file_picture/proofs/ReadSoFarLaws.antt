-- Ranges cover more than n places exactly where more places than n are theirs; and what may be read of a file keeps what was read of
-- it.
use Rattle.std.proofs.Common.{◌≡◌, sym, ◌∙◌, ap, refl, subst, ℕ, zero, suc, ◌+◌, ◌<◌, ◌≤◌, ◌⊎◌, inl, inr, ◌||◌, Bool, true, false, List, [], ◌∷◌, length, All, arith}
use Rattle.std.specs.Prelude.{nat_le, nat_lt, is_some}
use Rattle.std.proofs.lemmas.Bool.{cases_lt, and_parts, leb-true, ltb-true}
use Rattle.std.proofs.lemmas.List.Elements.{All-head, All-tail, All-nil, All-cons}
use Rattle.file_formats.specs.Cover.{IsIn, Rise, IsPlaceOf, CoverMore}
use Rattle.file_formats.specs.Parts.{IsSomePart}
use Rattle.file_formats.specs.Windows.{Range, range, IsSomeWindow}
use Rattle.file_picture.specs.Agrees.{AsksOf}
use Rattle.file_picture.specs.Counts.{bit, count_in, is_known, is_inside, is_known_or}
use Rattle.file_picture.specs.Picture.{PictureFacts, IsAdded, IsCovered, IsPicture, sum_of}
use Rattle.file_picture.specs.ReadSoFar.{Holds, HasFewParts, HasWindows, IsNextRead, IsReadOn, IsReadSoFar}
use Rattle.file_picture.proofs.CountLemmas.{count-less, count-pieces, is_in}

-- places that rise from one on rise from one before it
rise_less : (m n : ℕ) (ps : List ℕ) → m ≤ n → Rise n ps → Rise m ps
rise_less m n [] within h = tt
rise_less m n (p ∷ ps) within h = (omega (arith, within, h.0), h.1)

-- such places, in order
pub record ArePlaces (is : ℕ → Bool) (from n : ℕ) : Type 0 where
  pub places : List ℕ
  pub rise : Rise from places
  pub each : All (λ p. is p ≡ true) places
  pub sized : length places ≡ count_in is from n

pub places-there : (is : ℕ → Bool) (from n : ℕ) → ArePlaces is from n
unfolding count_in
places-there is from zero = record { places = []; rise = tt; each = All-nil (λ p. is p ≡ true); sized = refl }
places-there is from (suc n) = of (is from) refl (places-there is (from + 1) n)
  where
    of : (b : Bool) → is from ≡ b → ArePlaces is (from + 1) n → ArePlaces is from (suc n)
    of true e rest = record {
      places = from ∷ rest.places;
      rise = (omega arith, rest.rise);
      each = All-cons (λ p. is p ≡ true) from rest.places e rest.each;
      sized = let s = rest.sized in let one : length (from ∷ rest.places) ≡ 1 + count_in is (from + 1) n = omega (arith, s) in one ∙ ap (λ b. bit b + count_in is (from + 1) n) (sym e);
    }
    of false e rest = record {
      places = rest.places;
      rise = rise_less from (from + 1) rest.places (omega arith) rest.rise;
      each = rest.each;
      sized = let s = rest.sized in let one : length rest.places ≡ 0 + count_in is (from + 1) n = omega (arith, s) in one ∙ ap (λ b. bit b + count_in is (from + 1) n) (sym e);
    }

fit_step : (is : ℕ → Bool) (from n p : ℕ) (ps : List ℕ) → Rise from (p ∷ ps) → All (λ q. is q ≡ true) (p ∷ ps)
    → All (λ q. q < from + suc n) (p ∷ ps)
    → ((qs : List ℕ) → Rise (from + 1) qs → All (λ q. is q ≡ true) qs → All (λ q. q < (from + 1) + n) qs → length qs ≤ count_in is (from + 1) n)
    → length (p ∷ ps) ≤ bit (is from) + count_in is (from + 1) n
fit_step is from n p ps rise each below fit = of (cases_lt from p)
  where
    of : (from < p) ⊎ (p ≤ from) → length (p ∷ ps) ≤ bit (is from) + count_in is (from + 1) n
    of (inl later) =
        let rest = fit (p ∷ ps) (omega (arith, later), rise.1) each (λ i d h. let b = below i d h in omega (arith, b)) in omega (arith, rest)
    of (inr here) =
        let above : from ≤ p = rise.0 in
        let same : p ≡ from = omega (arith, here, above) in
        let own : is from ≡ true = subst (λ q. is q ≡ true) same (All-head (λ q. is q ≡ true) p ps each) in
        let after : Rise (from + 1) ps = subst (λ q. Rise (q + 1) ps) same rise.1 in
        let rest = fit ps after (All-tail (λ q. is q ≡ true) p ps each)
        (λ i d h. let b = All-tail (λ q. q < from + suc n) p ps below i d h in omega (arith, b)) in
        let one : length (p ∷ ps) ≤ 1 + count_in is (from + 1) n = omega (arith, rest) in
        subst (λ b. length (p ∷ ps) ≤ bit b + count_in is (from + 1) n) (sym own) one

-- places that rise and are such are no more than there are
pub places-fit : (is : ℕ → Bool) (from n : ℕ) (ps : List ℕ) → Rise from ps → All (λ p. is p ≡ true) ps → All (λ p. p < from + n) ps
    → length ps ≤ count_in is from n
unfolding count_in
places-fit is from zero [] rise each below = omega arith
places-fit is from (suc n) [] rise each below = omega arith
places-fit is from zero (p ∷ ps) rise each below =
    let under : p < from + 0 = All-head (λ q. q < from + 0) p ps below in let above = rise.0 in absurd (omega (arith, under, above))
places-fit is from (suc n) (p ∷ ps) rise each below = fit_step is from n p ps rise each below (λ qs. places-fit is (from + 1) n qs)

pub inside_in : (at len place : ℕ) → is_inside at len place ≡ true → IsIn place (range at len)
inside_in at len place e =
    let parts = and_parts (nat_le at place) (nat_lt place (at + len)) e in
    record { above = leb-true at place parts.0; below = ltb-true place (at + len) parts.1 }

pub either-of : (a b : Bool) → (a || b) ≡ true → (a ≡ true) ⊎ (b ≡ true)
either-of true b e = inl refl
either-of false b e = inr e

pub either-left : (a b : Bool) → a ≡ true → (a || b) ≡ true
either-left true b e = refl
either-left false b e = absurd (cc)

pub either-right : (a b : Bool) → b ≡ true → (a || b) ≡ true
either-right true b e = refl
either-right false b e = e

-- where more places than n are theirs, they cover more
pub covers_more : (Of : Range → Type 0) (is : ℕ → Bool) (size n : ℕ) → ((place : ℕ) → is place ≡ true → IsPlaceOf Of place)
    → n < count_in is 0 size → CoverMore Of n
covers_more Of is size n holds more =
    let all = places-there is 0 size in
    let sized = all.sized in
    record {
      places = all.places;
      rise = all.rise;
      each = λ i d below. holds _ (all.each i d below);
      more = omega (arith, sized, more);
    }

-- where no more places than n have each of theirs, they don't
pub covers_less : (Of : Range → Type 0) (is : ℕ → Bool) (size n : ℕ) → ((place : ℕ) → IsPlaceOf Of place → (is place ≡ true) × (place < size))
    → count_in is 0 size ≤ n → CoverMore Of n → ⊥
covers_less Of is size n has most c =
    let fit = places-fit is 0 size c.places c.rise (λ i d below. (has _ (c.each i d below)).0)
    (λ i d below. let e = (has _ (c.each i d below)).1 in omega (arith, e)) in
    let more = c.more in omega (arith, fit, most, more)

-- as many bytes are known as the pieces have
known_counted : (p : PictureFacts) → IsPicture p → count_in (is_known p) 0 p.size ≡ sum_of p.pieces
known_counted p is = count-pieces p.pieces 0 p.size is.apart (λ i d below. let e = is.within i d below in omega (arith, e))

-- where only such ranges are known, and one is asked for, more places than n are theirs
pub asked-more : (Of : Range → Type 0) (p : PictureFacts) (at len n : ℕ) → Holds Of p → Of (range at len)
    → n < count_in (is_known_or p at len) 0 p.size → CoverMore Of n
asked-more Of p at len n holds one more = covers_more Of (is_known_or p at len) p.size n (λ place e. of place (either-of (is_known p place) (is_inside at len place) e)) more
  where
    of : (place : ℕ) → (is_known p place ≡ true) ⊎ (is_inside at len place ≡ true) → IsPlaceOf Of place
    of place (inl known) = holds place known
    of place (inr inside) = record { range = range at len; of = one; inside = inside_in at len place inside }

-- ranges that are all there cover no more than is known
pub there-less : (p : PictureFacts) (n : ℕ) (Of : Range → Type 0) → IsPicture p → sum_of p.pieces ≤ n
    → ((r : Range) → Of r → IsCovered p r.at r.len) → CoverMore Of n → ⊥
there-less p n Of is small all =
    let known = known_counted p is in
    covers_less Of (is_known p) p.size n
    (λ place h. (
      (all h.range h.of).known place h.inside.above h.inside.below,
      (let fits = (all h.range h.of).inside in let below = h.inside.below in omega (arith, fits, below)),
    ))
    (omega (arith, known, small))

-- a place of a window is a place of a part
as_part : {b : List ℕ} {place : ℕ} → IsPlaceOf (IsSomeWindow b) place → IsPlaceOf (IsSomePart b) place
as_part h = record { range = h.range; of = inl h.of; inside = h.inside }

-- what was read stands in parts
pub holds-parts : (p : PictureFacts) (b : List ℕ) → Holds (IsSomeWindow b) p ⊎ (HasWindows p b × Holds (IsSomePart b) p) → Holds (IsSomePart b) p
holds-parts p b (inl windows) = λ place known. as_part (windows place known)
holds-parts p b (inr both) = both.1

-- where a window isn't there, nothing but windows is known
pub holds-windows : (p : PictureFacts) (b : List ℕ) (r : Range) → (IsCovered p r.at r.len → ⊥) → IsSomeWindow b r
    → Holds (IsSomeWindow b) p ⊎ (HasWindows p b × Holds (IsSomePart b) p) → Holds (IsSomeWindow b) p
holds-windows p b r gone window (inl windows) = windows
holds-windows p b r gone window (inr both) = absurd (gone (both.0 r window))

-- what is known behind a read was known before it, or lies in what was read
held : (p new : PictureFacts) (at len : ℕ) (Of : Range → Type 0) → IsReadOn p at len new → Holds Of p → Of (range at len) → Holds Of new
held p new at len Of on holds one place known = by (either-of (is_known p place) (is_inside at len place) (on.only place known))
  where
    by : (is_known p place ≡ true) ⊎ (is_inside at len place ≡ true) → IsPlaceOf Of place
    by (inl before) = holds place before
    by (inr inside) = record { range = range at len; of = one; inside = inside_in at len place inside }

-- a part that may be read keeps what was read so far
pub next-read-keeps : (limit : ℕ) (p : PictureFacts) (at len : ℕ) (new : PictureFacts) → IsReadSoFar limit p → AsksOf IsSomePart p at len
    → IsNextRead limit p at len → IsReadOn p at len new → IsReadSoFar limit new
next-read-keeps limit p at len new read asks next on = record {
  small =
      let known = known_counted new on.is in
      let same : count_in (is_known new) 0 new.size ≤ count_in (is_known_or p at len) 0 new.size =
      count-less (is_known new) (is_known_or p at len) 0 new.size on.only in
      let sized : count_in (is_known_or p at len) 0 new.size ≡ count_in (is_known_or p at len) 0 p.size =
      ap (count_in (is_known_or p at len) 0) on.size in
      let most = next.small in omega (arith, known, same, sized, most);
  holds = λ b f. of b (asks.among b (on.less b f)) (next.among b (on.less b f)) (read.holds b (on.less b f));
}
  where
    of : (b : List ℕ) → IsSomePart b (range at len) → IsSomeWindow b (range at len) ⊎ HasFewParts limit p b
        → Holds (IsSomeWindow b) p ⊎ (HasWindows p b × Holds (IsSomePart b) p)
        → Holds (IsSomeWindow b) new ⊎ (HasWindows new b × Holds (IsSomePart b) new)
    of b part (inl window) holds =
        inl (held p new at len (IsSomeWindow b) on (holds-windows p b (range at len) asks.gone window holds) window)
    of b part (inr few) holds =
        inr (
          λ r w. on.keeps r.at r.len (few.windows r w),
          held p new at len (IsSomePart b) on (holds-parts p b holds) part,
        )

-- of a file of which nothing was read, nothing was read that may not be
pub unread-so_far : (limit size : ℕ) → IsReadSoFar limit (record { size = size; pieces = [] })
unread-so_far limit size = record { small = omega arith; holds = λ b f. inl (λ place known. absurd (cc)) }

-- where a place lies by a range
side : (at len place : ℕ) → ((place < at) ⊎ (at + len ≤ place)) ⊎ ((at ≤ place) × (place < at + len))
side at len place = first (cases_lt place at)
  where
    second : at ≤ place → (place < at + len) ⊎ (at + len ≤ place) → ((place < at) ⊎ (at + len ≤ place)) ⊎ ((at ≤ place) × (place < at + len))
    second above (inl below) = inr (above, below)
    second above (inr behind) = inl (inr behind)

    first : (place < at) ⊎ (at ≤ place) → ((place < at) ⊎ (at + len ≤ place)) ⊎ ((at ≤ place) × (place < at + len))
    first (inl before) = inl (inl before)
    first (inr above) = second above (cases_lt place (at + len))

-- of bytes that are put in a place, no other byte became known
pub added-only : (old : PictureFacts) (at : ℕ) (bytes : List ℕ) (new : PictureFacts) → IsAdded old at bytes new → (place : ℕ)
    → is_known new place ≡ true → is_known_or old at (length bytes) place ≡ true
added-only old at bytes new a place known = by (side at (length bytes) place)
  where
    by : ((place < at) ⊎ (at + length bytes ≤ place)) ⊎ ((at ≤ place) × (place < at + length bytes)) → is_known_or old at (length bytes) place ≡ true
    by (inl out) = either-left (is_known old place) (is_inside at (length bytes) place) (sym (ap is_some (a.others place out)) ∙ known)
    by (inr within) =
        either-right (is_known old place) (is_inside at (length bytes) place) (is_in at (length bytes) place within.0 within.1)
