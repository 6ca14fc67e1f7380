-- What is read of a picture.
use Rattle.std.proofs.Common.{◌≡◌, sym, ◌∙◌, ap, subst, refl, ℕ, ◌+◌, ◌-◌, ◌<◌, ◌≤◌, ◌⊎◌, inl, inr, max, List, [], length, get_or, drop, arith, true, false, Option, Some, None}
use Rattle.std.specs.Prelude.{is_some, nat_le, MatchOption}
use Rattle.std.specs.Borrow.{Bor}
use Rattle.std.specs.List.Sorted.{IsPartitionedBy, IsPartitionPoint}
use Rattle.std.proofs.lemmas.Bool.{cases_lt, leb-true, leb-false, le-leb}
use Rattle.std.proofs.lemmas.List.{get_or_default, get_or-take, get_or-drop, length-drop, length-take-le}
use Rattle.file_formats.specs.Numbers.{bytes_at}
use Rattle.file_picture.specs.Picture.{PieceFacts, PictureFacts, ArePiecesApart, IsPicture, IsCovered, IsFirstGap, GivesRange, known_byte, byte_among, piece_end, sum_of}
use Rattle.file_picture.specs.Pieces.{IsBegun, IsKnownTo, IsNextBegin}
use Rattle.file_picture.proofs.PieceLemmas.{apart_later, apart_some, byte_known, byte_none, byte_some, sum_within}

-- no more bytes are known than the file has
pub sum_small : (p : PictureFacts) → IsPicture p → sum_of p.pieces ≤ p.size
sum_small p is = let small = sum_within 0 p.size p.pieces is.apart (omega arith) is.within in omega (arith, small)

-- ---- how many pieces begin

-- those that begin by a place stand in front
pub begun_parted : (ps : List PieceFacts) (at : ℕ) → ArePiecesApart 0 ps → IsPartitionedBy (λ q. nat_le q.at at) ps
begun_parted ps at apart i j d within below begins = of (cases_lt i j)
  where
    of : (i < j) ⊎ (j ≤ i) → nat_le (get_or ps i d).at at ≡ true
    of (inl before) =
        let later = apart_later 0 ps apart i j d before below in
        let by : (get_or ps j d).at ≤ at = leb-true (get_or ps j d).at at begins in
        le-leb (get_or ps i d).at at (omega (arith, later, by))
    of (inr after) =
        let same : j ≡ i = omega (arith, within, after) in
        subst (λ k. nat_le (get_or ps k d).at at ≡ true) same begins

-- so many are they
pub begun_from : (ps : List PieceFacts) (at count : ℕ) → count ≤ length ps
    → IsPartitionPoint (λ q. nat_le q.at at ≡ true) (λ q. nat_le q.at at ≡ false) ps count → IsBegun ps at count
begun_from ps at count within parted = record {
  within = within;
  before = λ i d under. leb-true (get_or ps i d).at at (parted.0 i d (omega arith) under);
  after = λ i d above below. leb-false (get_or ps i d).at at (parted.1 i d above below);
}

-- the bytes are known up to the end of the last one that begins
pub known_by : (ps : List PieceFacts) (count at to : ℕ) (q : PieceFacts) → ArePiecesApart 0 ps → IsBegun ps at count → 0 < count
    → q ≡ get_or ps (count - 1) q → to ≡ max (piece_end q) at → IsKnownTo ps count at to
known_by ps count at to q apart begun some is top = record {
  above = omega (arith, top);
  known = λ place above below.
      let start : (get_or ps (count - 1) q).at ≤ at = begun.before (count - 1) q (omega (arith, some)) in
      byte_known 0 ps apart (count - 1) q inside place (omega (arith, start, above)) (omega (arith, ends, top, above, below));
  before = λ i d under. of i d under (cases_lt i (count - 1));
  after = λ i d above below.
      let later = begun.after i d above below in
      let next = apart_later 0 ps apart (count - 1) i d (omega (arith, some, above)) below in
      let last = last_end d in
      omega (arith, top, later, next, last);
}
  where
    inside : count - 1 < length ps
    inside = let within = begun.within in omega (arith, within, some)

    ends : piece_end q ≡ piece_end (get_or ps (count - 1) q)
    ends = ap piece_end is

    last_end : (d : PieceFacts) → piece_end (get_or ps (count - 1) d) ≡ piece_end q
    last_end d = ap piece_end (get_or_default ps (count - 1) d q inside ∙ sym is)

    of : (i : ℕ) (d : PieceFacts) → i < count → (i < count - 1) ⊎ (count - 1 ≤ i) → piece_end (get_or ps i d) ≤ to
    of i d under (inl earlier) =
        let next = apart_later 0 ps apart i (count - 1) d earlier inside in
        let begins = begun.before (count - 1) d (omega (arith, under)) in
        omega (arith, top, next, begins)
    of i d under (inr last) =
        let same : i ≡ count - 1 = omega (arith, last, under) in
        let end : piece_end (get_or ps i d) ≡ piece_end q = ap (λ k. piece_end (get_or ps k d)) same ∙ last_end d in
        omega (arith, end, top)

-- and none is where that is
pub none_there : (ps : List PieceFacts) (count at to : ℕ) → IsKnownTo ps count at to → byte_among ps to ≡ None
none_there ps count at to known = byte_none ps to (λ i d below. of i d below (cases_lt i count))
  where
    of : (i : ℕ) (d : PieceFacts) → i < length ps → (i < count) ⊎ (count ≤ i)
        → (to < (get_or ps i d).at) ⊎ (piece_end (get_or ps i d) ≤ to)
    of i d below (inl under) = inr (known.before i d under)
    of i d below (inr above) = inl (known.after i d above below)

-- ---- bytes of a range

-- a range with a place whose byte isn't known isn't covered
pub not_covered : (p : PictureFacts) (at len place : ℕ) → at ≤ place → place < at + len → known_byte p place ≡ None
    → IsCovered p at len → ⊥
not_covered p at len place above below none covered =
    let known = covered.known place above below in
    let both : false ≡ true = sym (ap is_some none) ∙ known in cc

-- where no piece begins by its place
pub none_begun : (p : PictureFacts) (at len count : ℕ) → (len ≡ 0 → ⊥) → count ≡ 0 → IsBegun p.pieces at count
    → IsCovered p at len → ⊥
none_begun p at len count some none begun =
    not_covered p at len at (omega arith) (omega (arith, some))
    (byte_none p.pieces at (λ i d below. inl (begun.after i d (omega (arith, none)) below)))

-- what the last piece that begins has of it
pub slice_is : (p : PictureFacts) → IsPicture p → (at len count : ℕ) (q : PieceFacts) → (len ≡ 0 → ⊥) → 0 < count
    → IsBegun p.pieces at count → q ≡ get_or p.pieces (count - 1) q → (r : Option (Bor (List ℕ)))
    → MatchOption r (piece_end q < at + len) (λ bytes. (at + len ≤ piece_end q) × (bytes.now ≡ bytes_at q.bytes (at - q.at) len))
    → MatchOption r (IsCovered p at len → ⊥) (λ bytes. GivesRange p at len bytes.now)
slice_is p is at len count q some begins begun which None short =
    let to : ℕ = max (piece_end q) at in
    not_covered p at len to (omega arith) (omega (arith, short, some))
    (none_there p.pieces count at to (known_by p.pieces count at to q is.apart begun begins which refl))
slice_is p is at len count q some begins begun which (Some bytes) part =
    let inside : count - 1 < length p.pieces = (let within = begun.within in omega (arith, within, begins)) in
    let start : (get_or p.pieces (count - 1) q).at ≤ at = begun.before (count - 1) q (omega (arith, begins)) in
    let low : q.at ≤ at = subst (λ (s : PieceFacts). s.at ≤ at) (sym which) start in
    let top : piece_end q ≤ p.size = subst (λ (s : PieceFacts). piece_end s ≤ p.size) (sym which) (is.within (count - 1) q inside) in
    let rest : length (drop (at - q.at) q.bytes) ≡ length q.bytes - (at - q.at) = length-drop (at - q.at) q.bytes in
    let fits : len ≤ length (drop (at - q.at) q.bytes) = omega (arith, rest, low, part.0) in
    record {
      inside = omega (arith, part.0, top);
      long = ap length part.1 ∙ length-take-le len (drop (at - q.at) q.bytes) fits;
      each = λ i under.
          let place : (get_or p.pieces (count - 1) q).at ≤ at + i = omega (arith, start) in
          let ends : piece_end q ≡ piece_end (get_or p.pieces (count - 1) q) = ap piece_end which in
          let index : (at + i) - q.at ≡ (at - q.at) + i = omega (arith, low) in
          byte_some 0 p.pieces is.apart (count - 1) q inside (at + i) place (omega (arith, ends, part.0, under))
          ∙ ap (λ (s : PieceFacts). Some (get_or s.bytes ((at + i) - s.at) 0)) (sym which)
          ∙ ap (λ k. Some (get_or q.bytes k 0)) index
          ∙ sym (ap (λ xs. Some (get_or xs i 0)) part.1
          ∙ ap (λ x. Some x) (get_or-take len (drop (at - q.at) q.bytes) i 0 under ∙ get_or-drop (at - q.at) q.bytes i 0));
    }

-- ---- the first gap

-- it begins before it ends
pub gap_some : (ps : List PieceFacts) (at count from end to : ℕ) → IsKnownTo ps count at from → from < end
    → IsNextBegin ps count end to → from < to
gap_some ps at count from end to known ahead next = of next.is
  where
    of : (to ≡ end) ⊎ ((count < length ps) × ((d : PieceFacts) → to ≡ (get_or ps count d).at)) → from < to
    of (inl is) = omega (arith, ahead, is)
    of (inr is) =
        let d : PieceFacts = record { at = 0; bytes = [] } in
        let begins = is.1 d in
        let after = known.after count d (omega arith) is.0 in
        omega (arith, begins, after)

-- it is the first one
pub gap_is : (p : PictureFacts) → IsPicture p → (at len count from to : ℕ) → at + len ≤ p.size
    → IsKnownTo p.pieces count at from → from < at + len → IsNextBegin p.pieces count (at + len) to
    → IsFirstGap p at len from (to - from)
gap_is p is at len count from to inside known ahead next =
    let some = gap_some p.pieces at count from (at + len) to known ahead next in
    let within = next.within in
    let above = known.above in
    record {
      some = omega (arith, some);
      above = above;
      below = omega (arith, some, within);
      before = record {
        inside = omega (arith, above, ahead, inside);
        known = λ place low high. known.known place low (omega (arith, high, above));
      };
      gap = λ place low high.
          byte_none p.pieces place (λ i d below. free some place low high i d below (cases_lt i count));
      ends = ends some next.is;
    }
  where
    free : from < to → (place : ℕ) → from ≤ place → place < from + (to - from) → (i : ℕ) (d : PieceFacts) → i < length p.pieces
        → (i < count) ⊎ (count ≤ i) → (place < (get_or p.pieces i d).at) ⊎ (piece_end (get_or p.pieces i d) ≤ place)
    free some place low high i d below (inl under) = let ends = known.before i d under in inr (omega (arith, ends, low))
    free some place low high i d below (inr above) =
        let first = next.first d (omega (arith, above, below)) in
        inl (at_or_after some place high i d below first (cases_lt count i) above)
      where
        at_or_after : from < to → (place : ℕ) → place < from + (to - from) → (i : ℕ) (d : PieceFacts) → i < length p.pieces
            → to ≤ (get_or p.pieces count d).at → (count < i) ⊎ (i ≤ count) → count ≤ i → place < (get_or p.pieces i d).at
        at_or_after some place high i d below first (inl later) above =
            let behind = apart_later 0 p.pieces is.apart count i d later below in omega (arith, behind, first, high, some)
        at_or_after some place high i d below first (inr here) above =
            let same : count ≡ i = omega (arith, here, above) in
            subst (λ k. place < (get_or p.pieces k d).at) same (omega (arith, first, high, some))

    ends : from < to
        → (to ≡ at + len) ⊎ ((count < length p.pieces) × ((d : PieceFacts) → to ≡ (get_or p.pieces count d).at))
        → (from + (to - from) ≡ at + len) ⊎ (is_some (known_byte p (from + (to - from))) ≡ true)
    ends some (inl end) = inl (omega (arith, some, end))
    ends some (inr begins) =
        let d : PieceFacts = record { at = 0; bytes = [] } in
        let place : from + (to - from) ≡ (get_or p.pieces count d).at = (let first = begins.1 d in omega (arith, some, first)) in
        let has = apart_some 0 p.pieces is.apart count d begins.0 in
        inr (subst (λ k. is_some (known_byte p k) ≡ true) (sym place)
        (byte_known 0 p.pieces is.apart count d begins.0 (get_or p.pieces count d).at (omega arith) (omega (arith, has))))
