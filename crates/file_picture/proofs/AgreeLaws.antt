-- Files that agree with a picture have the same bytes wherever these are known.
use Rattle.std.proofs.Common.{◌≡◌, sym, ◌∙◌, ap, refl, ℕ, ◌+◌, ◌-◌, ◌<◌, ◌≤◌, ◌⊎◌, inl, inr, List, length, get_or, drop, arith, true, Option, Some, None}
use Rattle.std.specs.Prelude.{is_some}
use Rattle.std.specs.Option.{unwrap_or}
use Rattle.std.proofs.lemmas.Bool.{cases_lt}
use Rattle.std.proofs.lemmas.List.{get_or_default, get_or-drop, get_or-take, length-drop, length-take-le, same_lists}
use Rattle.std.proofs.lemmas.List.FromFn.{get_or-map-range_with_len, length-map-range_with_len}
use Rattle.file_formats.specs.Numbers.{bytes_at}
use Rattle.file_picture.specs.Agrees.{AgreesWithPicture, filled_with_zeros}
use Rattle.file_picture.specs.Picture.{PictureFacts, IsPicture, IsCovered, IsAdded, GivesRange, known_byte}
use Rattle.file_picture.proofs.PieceLemmas.{byte_none}

-- what is there is something
some_of : (o : Option ℕ) → is_some o ≡ true → (x : ℕ) × (o ≡ Some x)
some_of (Some x) h = (x, refl)
some_of None h = absurd (cc)

-- no byte is known behind the file's end
pub known-inside : (p : PictureFacts) → IsPicture p → (place x : ℕ) → known_byte p place ≡ Some x → place < p.size
known-inside p is place x known = of (cases_lt place p.size)
  where
    of : (place < p.size) ⊎ (p.size ≤ place) → place < p.size
    of (inl under) = under
    of (inr past) =
        let none : known_byte p place ≡ None =
        byte_none p.pieces place (λ i d below. let ends = is.within i d below in inr (omega (arith, ends, past))) in
        let both = sym none ∙ known in absurd (cc)

-- the filled picture has the picture's size
pub filled-sized : (p : PictureFacts) → length (filled_with_zeros p) ≡ p.size
filled-sized p = length-map-range_with_len (λ place. unwrap_or (known_byte p place) 0) 0 p.size

-- and its bytes, with 0 where none is known
pub filled-byte : (p : PictureFacts) (place : ℕ) → place < p.size → get_or (filled_with_zeros p) place 0 ≡ unwrap_or (known_byte p place) 0
filled-byte p place below =
    get_or-map-range_with_len (λ k. unwrap_or (known_byte p k) 0) 0 p.size place place 0 below (omega arith)

-- so it is one of the files that the picture may be of
pub filled-agrees : (p : PictureFacts) → IsPicture p → AgreesWithPicture (filled_with_zeros p) p
filled-agrees p is = record {
  sized = filled-sized p;
  same = λ place x known.
      filled-byte p place (known-inside p is place x known) ∙ ap (λ (o : Option ℕ). unwrap_or o 0) known;
}

-- two files that agree with a picture have the same bytes in each range that is covered
pub agree-covered : (p : PictureFacts) (b c : List ℕ) (at len : ℕ) → AgreesWithPicture b p → AgreesWithPicture c p → IsCovered p at len
    → bytes_at b at len ≡ bytes_at c at len
agree-covered p b c at len fb fc covered =
    let inside = covered.inside in
    let long_b : length (bytes_at b at len) ≡ len = long b fb.sized in
    let long_c : length (bytes_at c at len) ≡ len = long c fc.sized in
    same_lists (bytes_at b at len) (bytes_at c at len) (long_b ∙ sym long_c)
    (λ k d below.
    let under : k < len = omega (arith, below, long_b) in
    let known = some_of (known_byte p (at + k)) (covered.known (at + k) (omega arith) (omega (arith, under))) in
    at_place b d k under fb.sized ∙ fb.same (at + k) known.0 known.1
    ∙ sym (at_place c d k under fc.sized ∙ fc.same (at + k) known.0 known.1))
  where
    long : (f : List ℕ) → length f ≡ p.size → length (bytes_at f at len) ≡ len
    long f sized =
        let rest = length-drop at f in
        let inside = covered.inside in
        length-take-le len (drop at f) (omega (arith, rest, sized, inside))

    at_place : (f : List ℕ) (d k : ℕ) → k < len → length f ≡ p.size → get_or (bytes_at f at len) k d ≡ get_or f (at + k) 0
    at_place f d k under sized =
        let inside = covered.inside in
        get_or-take len (drop at f) k d under ∙ get_or-drop at f k d
        ∙ get_or_default f (at + k) d 0 (omega (arith, sized, inside, under))

-- the bytes that a picture gives are those of each file that agrees with it
pub given-bytes : (p : PictureFacts) (b : List ℕ) (at len : ℕ) (bytes : List ℕ) → AgreesWithPicture b p → GivesRange p at len bytes
    → bytes ≡ bytes_at b at len
given-bytes p b at len bytes f g =
    let inside = g.inside in
    let rest = length-drop at b in
    let sized = f.sized in
    let long : length (bytes_at b at len) ≡ len = length-take-le len (drop at b) (omega (arith, rest, sized, inside)) in
    same_lists bytes (bytes_at b at len) (g.long ∙ sym long)
    (λ k d below.
    let sum = g.long in
    let under : k < len = omega (arith, below, sum) in
    get_or_default bytes k d 0 below ∙ sym (f.same (at + k) (get_or bytes k 0) (g.each k under))
    ∙ sym (get_or-take len (drop at b) k d under ∙ get_or-drop at b k d
    ∙ get_or_default b (at + k) d 0 (omega (arith, sized, inside, under))))

-- where a picture gives bytes, the range is covered
pub given-covered : (p : PictureFacts) (at len : ℕ) (bytes : List ℕ) → GivesRange p at len bytes → IsCovered p at len
given-covered p at len bytes g = record { inside = g.inside; known = of }
  where
    of : (place : ℕ) → at ≤ place → place < at + len → is_some (known_byte p place) ≡ true
    of place low high =
        let index : at + (place - at) ≡ place = omega (arith, low) in
        ap (λ k. is_some (known_byte p k)) (sym index) ∙ ap is_some (g.each (place - at) (omega (arith, low, high)))

-- two ranges one behind the other that are covered are covered as one
pub covered-joined : (p : PictureFacts) (at m n : ℕ) → IsCovered p at m → IsCovered p (at + m) n → IsCovered p at (m + n)
covered-joined p at m n first second = record {
  inside = let inside = second.inside in omega (arith, inside);
  known = λ place low high. of place low high (cases_lt place (at + m));
}
  where
    of : (place : ℕ) → at ≤ place → place < at + (m + n) → (place < at + m) ⊎ (at + m ≤ place) → is_some (known_byte p place) ≡ true
    of place low high (inl under) = first.known place low under
    of place low high (inr above) = second.known place above (omega (arith, high))

-- ---- what is added

-- where a place stands to a range
places : (at len place : ℕ) → ((place < at) ⊎ (at + len ≤ place)) ⊎ ((at ≤ place) × (place < at + len))
places at len place = of (cases_lt place at) (cases_lt place (at + len))
  where
    of : (place < at) ⊎ (at ≤ place) → (place < at + len) ⊎ (at + len ≤ place)
        → ((place < at) ⊎ (at + len ≤ place)) ⊎ ((at ≤ place) × (place < at + len))
    of (inl under) other = inl (inl under)
    of (inr above) (inl under) = inr (above, under)
    of (inr above) (inr past) = inl (inr past)

-- the byte of a place of the range is the one that was added
added_byte : {old new : PictureFacts} {at : ℕ} {bytes : List ℕ} → IsAdded old at bytes new → (place : ℕ) → at ≤ place
    → place < at + length bytes → known_byte new place ≡ Some (get_or bytes (place - at) 0)
added_byte {old} {new} {at} {bytes} a place low high =
    let index : at + (place - at) ≡ place = omega (arith, low) in
    ap (known_byte new) (sym index) ∙ a.there (place - at) (omega (arith, low, high))

-- the range is covered then
pub added-covered : {old new : PictureFacts} {at : ℕ} {bytes : List ℕ} → IsAdded old at bytes new → at + length bytes ≤ old.size
    → IsCovered new at (length bytes)
added-covered a fits = record {
  inside = let size = a.size in omega (arith, size, fits);
  known = λ place low high. ap is_some (added_byte a place low high);
}

-- so is each range that was
pub added-keeps : {old new : PictureFacts} {at : ℕ} {bytes : List ℕ} → IsAdded old at bytes new → (from len : ℕ)
    → IsCovered old from len → IsCovered new from len
added-keeps {old} {new} {at} {bytes} a from len covered = record {
  inside = let size = a.size in let inside = covered.inside in omega (arith, size, inside);
  known = λ place low high. of place (covered.known place low high) (places at (length bytes) place);
}
  where
    of : (place : ℕ) → is_some (known_byte old place) ≡ true
        → ((place < at) ⊎ (at + length bytes ≤ place)) ⊎ ((at ≤ place) × (place < at + length bytes))
        → is_some (known_byte new place) ≡ true
    of place was (inl out) = ap is_some (a.others place out) ∙ was
    of place was (inr within) = ap is_some (added_byte a place within.0 within.1)

-- a file agrees with the new picture where it agrees with the old one and has these bytes at their place
pub added-agrees : {old new : PictureFacts} {at : ℕ} {bytes : List ℕ} → IsAdded old at bytes new → (b : List ℕ)
    → AgreesWithPicture b old → at + length bytes ≤ old.size → bytes_at b at (length bytes) ≡ bytes → AgreesWithPicture b new
added-agrees {old} {new} {at} {bytes} a b f fits has = record {
  sized = f.sized ∙ sym a.size;
  same = λ place x known. of place x known (places at (length bytes) place);
}
  where
    of : (place x : ℕ) → known_byte new place ≡ Some x
        → ((place < at) ⊎ (at + length bytes ≤ place)) ⊎ ((at ≤ place) × (place < at + length bytes)) → get_or b place 0 ≡ x
    of place x known (inl out) = f.same place x (sym (a.others place out) ∙ known)
    of place x known (inr within) =
        let index : at + (place - at) ≡ place = omega (arith, within.0) in
        let under : place - at < length bytes = omega (arith, within.0, within.1) in
        let one = sym (added_byte a place within.0 within.1) ∙ known in
        let same : get_or bytes (place - at) 0 ≡ x = cc in
        ap (λ k. get_or b k 0) (sym index) ∙ sym (get_or-drop at b (place - at) 0)
        ∙ sym (get_or-take (length bytes) (drop at b) (place - at) 0 under)
        ∙ ap (λ xs. get_or xs (place - at) 0) has ∙ same
