-- Bytes beside those that pieces have there.
use Rattle.std.proofs.Common.{◌≡◌, sym, ◌∙◌, ap, subst, refl, ℕ, suc, zero, ◌+◌, ◌-◌, ◌<◌, ◌≤◌, ◌⊎◌, inl, inr, min, max, List, [], ◌∷◌, length, get_or, take, drop, arith, Option, Some, None}
use Rattle.std.specs.Option.{option_or}
use Rattle.std.specs.Prelude.{IfNone, IfSome, MatchOption}
use Rattle.std.proofs.lemmas.Bool.{cases_lt}
use Rattle.std.proofs.lemmas.List.{get_or_default, get_or-take, get_or-drop, length-drop, length-take-le, same_lists}
use Rattle.std.proofs.lemmas.Option.{same_Some}
use Rattle.file_formats.specs.Numbers.{bytes_at}
use Rattle.file_picture.specs.Difference.{AgreesAt, IsFirstDifference}
use Rattle.file_picture.specs.Picture.{PieceFacts, PictureFacts, ArePiecesApart, byte_among, known_byte, piece_byte, piece_end}
use Rattle.file_picture.specs.Pieces.{IsBegun, IsFirstUnequal, piece_alone, pieces_alone}
use Rattle.file_picture.specs.declared.difference.Difference.{Difference}
use Rattle.file_picture.proofs.PieceLemmas.{apart_later, byte_some, piece_none, piece_some}

-- ---- two lists of bytes

-- with no place at which they differ they are one
pub none_unequal : (xs ys : List ℕ) (n : ℕ) → length xs ≡ length ys → length xs ≤ n
    → ((k : ℕ) → k < n → get_or xs k 0 ≡ get_or ys k 0) → xs ≡ ys
none_unequal xs ys n long all same =
    same_lists xs ys long
    (λ k d below.
    get_or_default xs k d 0 below ∙ same k (omega (arith, below, all)) ∙ get_or_default ys k 0 d (omega (arith, below, long)))

-- a byte of a stretch of a list
stretch_byte : (xs part : List ℕ) (start len k i : ℕ) → part ≡ bytes_at xs start len → k < len → start + k ≡ i
    → get_or part k 0 ≡ get_or xs i 0
stretch_byte xs part start len k i is below place =
    ap (λ ys. get_or ys k 0) is ∙ get_or-take len (drop start xs) k 0 below ∙ get_or-drop start xs k 0
    ∙ ap (λ n. get_or xs n 0) place

-- a stretch that lies in it is as long as was asked
pub stretch_long : (xs part : List ℕ) (start len : ℕ) → part ≡ bytes_at xs start len → start + len ≤ length xs → length part ≡ len
stretch_long xs part start len is fits =
    let rest = length-drop start xs in
    ap length is ∙ length-take-le len (drop start xs) (omega (arith, rest, fits))

-- ---- one piece

-- alone it has its own bytes
alone_is : (q : PieceFacts) (place : ℕ) → known_byte (piece_alone q) place ≡ piece_byte q place
alone_is q place = of (piece_byte q place)
  where
    of : (o : Option ℕ) → option_or o None ≡ o
    of (Some x) = refl
    of None = refl

-- it has the place of a byte that it has
piece_has : (q : PieceFacts) (place x : ℕ) → piece_byte q place ≡ Some x → (q.at ≤ place) × (place < piece_end q)
piece_has q place x has = of (cases_lt place q.at) (cases_lt place (piece_end q))
  where
    of : (place < q.at) ⊎ (q.at ≤ place) → (place < piece_end q) ⊎ (piece_end q ≤ place) → (q.at ≤ place) × (place < piece_end q)
    of (inl before) other = let both = sym (piece_none q place (inl before)) ∙ has in absurd (cc)
    of (inr above) (inl under) = (above, under)
    of (inr above) (inr past) = let both = sym (piece_none q place (inr past)) ∙ has in absurd (cc)

-- the byte that it has there is this one
piece_byte_is : (q : PieceFacts) (place x : ℕ) → piece_byte q place ≡ Some x → get_or q.bytes (place - q.at) 0 ≡ x
piece_byte_is q place x has =
    let where_is = piece_has q place x has in
    same_Some (get_or q.bytes (place - q.at) 0) x (sym (piece_some q place where_is.0 where_is.1) ∙ has)

-- the range that a piece and bytes at a place share
pub record IsShared (q : PieceFacts) (at size from len : ℕ) : Type 0 where
  pub from_is : from ≡ max q.at at
  pub to_is : from + len ≡ min (piece_end q) (at + size)
  pub some : 0 < len

-- where it begins and ends
pub shared_range : (q : PieceFacts) (at size begin from end to : ℕ) → begin ≡ q.at → from ≡ max begin at → end ≡ piece_end q
    → to ≡ min end (at + size) → from < to → IsShared q at size from (to - from)
shared_range q at size begin from end to begin_is from_is end_is to_is some = record {
  from_is = from_is ∙ ap (λ n. max n at) begin_is;
  to_is = omega (arith, end_is, to_is, some);
  some = omega (arith, some);
}

-- the piece's bytes there
pub known_there : (q : PieceFacts) (begin from len : ℕ) (own known : List ℕ) → begin ≡ q.at → own ≡ q.bytes
    → known ≡ bytes_at own (from - begin) len → known ≡ bytes_at q.bytes (from - q.at) len
known_there q begin from len own known begin_is own_is is =
    is ∙ ap (λ xs. bytes_at xs (from - begin) len) own_is ∙ ap (λ n. bytes_at q.bytes (from - n) len) begin_is

-- where they share none, the bytes agree
pub agrees_apart : (q : PieceFacts) (at : ℕ) (bytes : List ℕ) (from to : ℕ) → from ≡ max q.at at
    → to ≡ min (piece_end q) (at + length bytes) → to ≤ from → AgreesAt (piece_alone q) at bytes
agrees_apart q at bytes from to from_is to_is none i x below has =
    let there = piece_has q (at + i) x (sym (alone_is q (at + i)) ∙ has) in
    absurd (omega (arith, from_is, to_is, none, below, there.0, there.1))

-- where a byte that the piece has stands in the stretches
record IsOfBoth (known seen bytes : List ℕ) (at from len i x : ℕ) : Type 0 where
  pub index : ℕ
  pub below : index < len
  pub place : from + index ≡ at + i
  pub own : get_or known index 0 ≡ x
  pub other : get_or seen index 0 ≡ get_or bytes i 0

-- the stretches of a piece and of bytes in the range that they share
module _ (q : PieceFacts) (at : ℕ) (bytes : List ℕ) (from len : ℕ) (known seen : List ℕ)
    (s : IsShared q at (length bytes) from len) (known_is : known ≡ bytes_at q.bytes (from - q.at) len)
    (seen_is : seen ≡ bytes_at bytes (from - at) len) where
  -- each byte that the piece has is in both
  of_both : (i x : ℕ) → i < length bytes → known_byte (piece_alone q) (at + i) ≡ Some x
      → IsOfBoth known seen bytes at from len i x
  of_both i x below has =
      let mine : piece_byte q (at + i) ≡ Some x = sym (alone_is q (at + i)) ∙ has in
      let there = piece_has q (at + i) x mine in
      let from_is = s.from_is in
      let to_is = s.to_is in
      let spot : from + ((at + i) - from) ≡ at + i = omega (arith, from_is, there.0) in
      let under : (at + i) - from < len = omega (arith, from_is, to_is, below, there.0, there.1) in
      record {
        index = (at + i) - from;
        below = under;
        place = spot;
        own =
            stretch_byte q.bytes known (from - q.at) len ((at + i) - from) ((at + i) - q.at) known_is under
            (omega (arith, from_is, spot))
            ∙ piece_byte_is q (at + i) x mine;
        other = stretch_byte bytes seen (from - at) len ((at + i) - from) i seen_is under (omega (arith, from_is, spot));
      }

  -- where the two are the same, the bytes agree
  pub agrees_same : known ≡ seen → AgreesAt (piece_alone q) at bytes
  agrees_same same i x below has =
      let b = of_both i x below has in sym b.other ∙ ap (λ ys. get_or ys b.index 0) (sym same) ∙ b.own

  -- where they differ, so do the bytes
  pub differs_first : (d : Difference) (j : ℕ) → IsFirstUnequal known seen j → d.at ≡ from + j → d.checked ≡ get_or known j 0
      → d.seen ≡ get_or seen j 0 → IsFirstDifference (piece_alone q) at bytes d
  differs_first d j u at_is checked_is seen_byte =
      let from_is = s.from_is in
      let to_is = s.to_is in
      let inside = u.inside in
      let fits : (from - q.at) + len ≤ length q.bytes = omega (arith, from_is, to_is) in
      let long = stretch_long q.bytes known (from - q.at) len known_is fits in
      let under : j < len = omega (arith, inside, long) in
      let low : (from + j) - at < length bytes = omega (arith, from_is, to_is, under) in
      let spot : d.at ≡ at + ((from + j) - at) = omega (arith, at_is, from_is) in
      let known_here = stretch_byte q.bytes known (from - q.at) len j (d.at - q.at) known_is under (omega (arith, from_is, at_is)) in
      let seen_here = stretch_byte bytes seen (from - at) len j ((from + j) - at) seen_is under (omega (arith, from_is)) in
      record {
        index = (from + j) - at;
        inside = low;
        place = spot;
        before = λ i x below has.
            let cut = length-take-le ((from + j) - at) bytes (omega (arith, low)) in
            let early : i < (from + j) - at = omega (arith, below, cut) in
            let b = of_both i x (omega (arith, early, low)) has in
            let b_place = b.place in
            get_or-take ((from + j) - at) bytes i 0 early ∙ sym b.other
            ∙ sym (u.before b.index (omega (arith, b_place, early)))
            ∙ b.own;
        checked =
            alone_is q d.at ∙ piece_some q d.at (omega (arith, from_is, at_is)) (omega (arith, to_is, at_is, under))
            ∙ ap (λ x. Some x) (sym known_here ∙ sym checked_is);
        seen = sym seen_here ∙ sym seen_byte;
        other = λ same. u.other (sym checked_is ∙ same ∙ seen_byte);
      }

-- ---- pieces, one after the other

-- one of some pieces has this byte
record HasPiece (ps : List PieceFacts) (place x : ℕ) : Type 0 where
  pub index : ℕ
  pub below : index < length ps
  pub has : (d : PieceFacts) → piece_byte (get_or ps index d) place ≡ Some x

-- a piece that is named where an index has none
default_piece : PieceFacts
default_piece = record { at = 0; bytes = [] }

-- the byte of pieces is that of one of them
among_one : (ps : List PieceFacts) (place x : ℕ) → byte_among ps place ≡ Some x → HasPiece ps place x
among_one [] place x has = absurd (cc)
among_one (p ∷ ps) place x has = of (piece_byte p place) refl has (among_one ps place x)
  where
    of : (o : Option ℕ) → piece_byte p place ≡ o → option_or o (byte_among ps place) ≡ Some x
        → (byte_among ps place ≡ Some x → HasPiece ps place x) → HasPiece (p ∷ ps) place x
    of (Some y) is first rest = record { index = zero; below = omega arith; has = λ d. is ∙ first }
    of None is later rest =
        let r = rest later in
        record { index = suc r.index; below = (let inside = r.below in omega (arith, inside)); has = r.has }

-- the bytes agree with each of the first pieces
abbrev pub AgreesBelow : List PieceFacts → ℕ → List ℕ → ℕ → Type 0
AgreesBelow ps at bytes index = (i : ℕ) (d : PieceFacts) → i < index → AgreesAt (piece_alone (get_or ps i d)) at bytes

-- what one of these has is so of the bytes
agrees_with : (ps : List PieceFacts) (at : ℕ) (bytes : List ℕ) (index : ℕ) → AgreesBelow ps at bytes index → (i x : ℕ)
    → i < length bytes → (h : HasPiece ps (at + i) x) → h.index < index → get_or bytes i 0 ≡ x
agrees_with ps at bytes index below i x under h early =
    below h.index default_piece early i x under (alone_is (get_or ps h.index default_piece) (at + i) ∙ h.has default_piece)

-- the pieces before the last one that begins by the place end before it
pub ended_before : (ps : List PieceFacts) (at : ℕ) (bytes : List ℕ) (count first : ℕ) → ArePiecesApart 0 ps → IsBegun ps at count
    → first ≡ count - 1 → AgreesBelow ps at bytes first
ended_before ps at bytes count first apart begun is i d below k x under has =
    let within = begun.within in
    let there = piece_has (get_or ps i d) (at + k) x (sym (alone_is (get_or ps i d) (at + k)) ∙ has) in
    let next = apart_later 0 ps apart i (count - 1) d (omega (arith, below, is)) (omega (arith, below, is, within)) in
    let begins = begun.before (count - 1) d (omega (arith, below, is)) in
    absurd (omega (arith, there.1, next, begins))

-- one more piece
pub agrees_through : (ps : List PieceFacts) (at : ℕ) (bytes : List ℕ) (index : ℕ) (q : PieceFacts) → index < length ps
    → q ≡ get_or ps index q → AgreesBelow ps at bytes index → AgreesAt (piece_alone q) at bytes
    → AgreesBelow ps at bytes (index + 1)
agrees_through ps at bytes index q inside is below here i d under = of (cases_lt i index)
  where
    of : (i < index) ⊎ (index ≤ i) → AgreesAt (piece_alone (get_or ps i d)) at bytes
    of (inl early) = below i d early
    of (inr last) =
        let same : index ≡ i = omega (arith, last, under) in
        subst (λ (p : PieceFacts). AgreesAt (piece_alone p) at bytes)
        (is ∙ get_or_default ps index q d inside ∙ ap (λ k. get_or ps k d) same) here

-- the others begin behind the bytes
pub agrees_whole : (ps : List PieceFacts) (at : ℕ) (bytes : List ℕ) (count index : ℕ) → IsBegun ps (at + length bytes) count
    → count ≤ index → AgreesBelow ps at bytes index → AgreesAt (pieces_alone ps) at bytes
agrees_whole ps at bytes count index begun past below i x under has =
    let h = among_one ps (at + i) x has in of h (cases_lt h.index index)
  where
    of : (h : HasPiece ps (at + i) x) → (h.index < index) ⊎ (index ≤ h.index) → get_or bytes i 0 ≡ x
    of h (inl early) = agrees_with ps at bytes index below i x under h early
    of h (inr late) =
        let there = piece_has (get_or ps h.index default_piece) (at + i) x (h.has default_piece) in
        let behind = begun.after h.index default_piece (omega (arith, late, past)) h.below in
        absurd (omega (arith, there.0, behind, under))

-- the first byte that isn't the one of a piece, where the bytes agree with those before it
first_among : (ps : List PieceFacts) (at : ℕ) (bytes : List ℕ) (index : ℕ) (e : PieceFacts) (d : Difference) → ArePiecesApart 0 ps
    → index < length ps → AgreesBelow ps at bytes index → IsFirstDifference (piece_alone (get_or ps index e)) at bytes d
    → IsFirstDifference (pieces_alone ps) at bytes d
first_among ps at bytes index e d apart inside below f =
    let mine : piece_byte (get_or ps index e) d.at ≡ Some d.checked = sym (alone_is (get_or ps index e) d.at) ∙ f.checked in
    let there = piece_has (get_or ps index e) d.at d.checked mine in
    record {
      index = f.index;
      inside = f.inside;
      place = f.place;
      before = λ i x under has. let h = among_one ps (at + i) x has in earlier mine i x under h (cases_lt h.index index);
      checked =
          byte_some 0 ps apart index e inside d.at there.0 there.1
          ∙ ap (λ x. Some x) (piece_byte_is (get_or ps index e) d.at d.checked mine);
      seen = f.seen;
      other = f.other;
    }
  where
    here_or_later : piece_byte (get_or ps index e) d.at ≡ Some d.checked → (i x : ℕ) → i < length (take f.index bytes)
        → (h : HasPiece ps (at + i) x) → (index < h.index) ⊎ (h.index ≤ index) → index ≤ h.index
        → get_or (take f.index bytes) i 0 ≡ x
    here_or_later mine i x under h (inl later) late =
        let within = f.inside in
        let place = f.place in
        let cut = length-take-le f.index bytes (omega (arith, within)) in
        let own = piece_has (get_or ps index e) d.at d.checked mine in
        let other = piece_has (get_or ps h.index e) (at + i) x (h.has e) in
        let next = apart_later 0 ps apart index h.index e later h.below in
        absurd (omega (arith, under, cut, place, own.1, other.0, next))
    here_or_later mine i x under h (inr early) late =
        let same : h.index ≡ index = omega (arith, early, late) in
        f.before i x under
        (alone_is (get_or ps index e) (at + i) ∙ subst (λ k. piece_byte (get_or ps k e) (at + i) ≡ Some x) same (h.has e))

    earlier : piece_byte (get_or ps index e) d.at ≡ Some d.checked → (i x : ℕ) → i < length (take f.index bytes)
        → (h : HasPiece ps (at + i) x) → (h.index < index) ⊎ (index ≤ h.index) → get_or (take f.index bytes) i 0 ≡ x
    earlier mine i x under h (inl early) =
        let within = f.inside in
        let cut = length-take-le f.index bytes (omega (arith, within)) in
        let low : i < f.index = omega (arith, under, cut) in
        get_or-take f.index bytes i 0 low
        ∙ agrees_with ps at bytes index below i x (omega (arith, low, within)) h early
    earlier mine i x under h (inr late) = here_or_later mine i x under h (cases_lt index h.index) late

-- the same, of the piece as it was taken from them
pub first_differs : (ps : List PieceFacts) (at : ℕ) (bytes : List ℕ) (index : ℕ) (q : PieceFacts) (d : Difference) → ArePiecesApart 0 ps
    → index < length ps → q ≡ get_or ps index q → AgreesBelow ps at bytes index → IsFirstDifference (piece_alone q) at bytes d
    → IsFirstDifference (pieces_alone ps) at bytes d
first_differs ps at bytes index q d apart inside is below f =
    first_among ps at bytes index q d apart inside below
    (subst (λ (p : PieceFacts). IsFirstDifference (piece_alone p) at bytes d) is f)

-- ---- a picture

-- what is found among its pieces is so of it
pub none_differ : (p : PictureFacts) (ps : List PieceFacts) (at : ℕ) (bytes : List ℕ) (r : Option Difference) → ps ≡ p.pieces
    → MatchOption r (AgreesAt (pieces_alone ps) at bytes) (IsFirstDifference (pieces_alone ps) at bytes)
    → IfNone r (AgreesAt p at bytes)
none_differ p ps at bytes None same found = subst (λ (qs : List PieceFacts). AgreesAt (pieces_alone qs) at bytes) same found
none_differ p ps at bytes (Some d) same found = tt

pub some_differ : (p : PictureFacts) (ps : List PieceFacts) (at : ℕ) (bytes : List ℕ) (r : Option Difference) → ps ≡ p.pieces
    → MatchOption r (AgreesAt (pieces_alone ps) at bytes) (IsFirstDifference (pieces_alone ps) at bytes)
    → IfSome r (IsFirstDifference p at bytes)
some_differ p ps at bytes None same found = tt
some_differ p ps at bytes (Some d) same found =
    let f = subst (λ (qs : List PieceFacts). IsFirstDifference (pieces_alone qs) at bytes d) same found in
    record {
      index = f.index;
      inside = f.inside;
      place = f.place;
      before = f.before;
      checked = f.checked;
      seen = f.seen;
      other = f.other;
    }
