-- How many places there are of two kinds, and of none.
use Rattle.std.proofs.Common.{◌≡◌, sym, ◌∙◌, ap, ap₂, refl, subst, ℕ, zero, suc, ◌+◌, ◌-◌, ◌<◌, ◌≤◌, ◌&&◌, ◌||◌, not, Bool, true, false, List, [], ◌∷◌, length, All, arith, Option, Some, None}
use Rattle.std.specs.Prelude.{nat_le, nat_lt, is_some}
use Rattle.std.specs.Option.{option_or}
use Rattle.std.proofs.lemmas.Bool.{le-leb, lt-ltb, le-ltb, lt-leb}
use Rattle.std.proofs.lemmas.List.Elements.{All-head, All-tail}
use Rattle.file_picture.specs.Picture.{PictureFacts, PieceFacts, ArePiecesApart, IsPicture, IsCovered, IsFirstGap, piece_byte, piece_end, byte_among, known_byte, sum_of}
use Rattle.file_picture.specs.Counts.{bit, count_in, is_known, is_unknown, is_inside, is_known_or}

pub count-split : (is : ℕ → Bool) (from m n : ℕ) → count_in is from (m + n) ≡ count_in is from m + count_in is (from + m) n
unfolding count_in
count-split is from zero n =
    let whole : count_in is from (zero + n) ≡ count_in is from n = ap (count_in is from) (let e : zero + n ≡ n = omega arith in e) in
    let place : count_in is (from + zero) n ≡ count_in is from n = ap (λ k. count_in is k n) (let e : from + zero ≡ from = omega arith in e) in
    omega (arith, whole, place)
count-split is from (suc m) n =
    let more : count_in is from (suc m + n) ≡ count_in is from (suc (m + n)) = ap (count_in is from) (let e : suc m + n ≡ suc (m + n) = omega arith in e) in
    let place : count_in is ((from + 1) + m) n ≡ count_in is (from + suc m) n =
    ap (λ k. count_in is k n) (let e : (from + 1) + m ≡ from + suc m = omega arith in e) in
    let rest = count-split is (from + 1) m n in
    omega (arith, more, place, rest)

pub count-same : (is other : ℕ → Bool) (from n : ℕ) → ((p : ℕ) → from ≤ p → p < from + n → is p ≡ other p) → count_in is from n ≡ count_in other from n
unfolding count_in
count-same is other from zero same = refl
count-same is other from (suc n) same =
    ap₂ (λ b k. bit b + k) (same from (omega arith) (omega arith))
    (count-same is other (from + 1) n (λ p above below. same p (omega (arith, above)) (omega (arith, below))))

pub count-none : (is : ℕ → Bool) (from n : ℕ) → ((p : ℕ) → from ≤ p → p < from + n → is p ≡ false) → count_in is from n ≡ 0
unfolding count_in
count-none is from zero none = refl
count-none is from (suc n) none =
    let rest = count-none is (from + 1) n (λ p above below. none p (omega (arith, above)) (omega (arith, below))) in
    ap₂ (λ b k. bit b + k) (none from (omega arith) (omega arith)) rest

pub count-all : (is : ℕ → Bool) (from n : ℕ) → ((p : ℕ) → from ≤ p → p < from + n → is p ≡ true) → count_in is from n ≡ n
unfolding count_in
count-all is from zero all = refl
count-all is from (suc n) all =
    let rest = count-all is (from + 1) n (λ p above below. all p (omega (arith, above)) (omega (arith, below))) in
    let first : count_in is from (suc n) ≡ 1 + n = ap₂ (λ b k. bit b + k) (all from (omega arith) (omega arith)) rest in
    first ∙ omega arith

bit-most : (b : Bool) → bit b ≤ 1
bit-most true = omega arith
bit-most false = omega arith

pub count-most : (is : ℕ → Bool) (from n : ℕ) → count_in is from n ≤ n
unfolding count_in
count-most is from zero = omega arith
count-most is from (suc n) = let first = bit-most (is from) in let rest = count-most is (from + 1) n in omega (arith, first, rest)

bit-less : (a b : Bool) → (a ≡ true → b ≡ true) → bit a ≤ bit b
bit-less true b h = let e = h refl in subst (λ c. 1 ≤ bit c) (sym e) (omega arith)
bit-less false b h = omega arith

-- places of a kind are no more than those of a kind that has them all
pub count-less : (is other : ℕ → Bool) (from n : ℕ) → ((p : ℕ) → is p ≡ true → other p ≡ true) → count_in is from n ≤ count_in other from n
unfolding count_in
count-less is other from zero has = omega arith
count-less is other from (suc n) has =
    let first = bit-less (is from) (other from) (has from) in let rest = count-less is other (from + 1) n has in omega (arith, first, rest)

bit-either : (a b : Bool) → bit (a || b) ≡ bit a + bit (b && not a)
bit-either true true = refl
bit-either true false = refl
bit-either false true = refl
bit-either false false = refl

-- places of one kind or another are those of the one, and those of the other that aren't of the one
pub count-either : (is other : ℕ → Bool) (from n : ℕ)
    → count_in (λ p. is p || other p) from n ≡ count_in is from n + count_in (λ p. other p && not (is p)) from n
unfolding count_in
count-either is other from zero = refl
count-either is other from (suc n) =
    let first = bit-either (is from) (other from) in
    let rest = count-either is other (from + 1) n in
    omega (arith, first, rest)

true_and : (a b : Bool) → a ≡ true → (a && b) ≡ b
true_and true b e = refl
true_and false b e = absurd (cc)

false_and : (a b : Bool) → a ≡ false → (a && b) ≡ false
false_and true b e = absurd (cc)
false_and false b e = refl

pub above_not : (at len place : ℕ) → place < at → is_inside at len place ≡ false
above_not at len place h = false_and (nat_le at place) (nat_lt place (at + len)) (lt-leb at place h)

pub below_not : (at len place : ℕ) → at + len ≤ place → is_inside at len place ≡ false
below_not at len place h = rw (le-leb at place (omega (arith, h)), le-ltb place (at + len) h) refl

pub is_in : (at len place : ℕ) → at ≤ place → place < at + len → is_inside at len place ≡ true
is_in at len place above below = rw (le-leb at place above, lt-ltb place (at + len) below) refl

-- such places of a range are those among its places
pub count-inside : (is : ℕ → Bool) (at len size : ℕ) → at + len ≤ size → count_in (λ p. is_inside at len p && is p) 0 size ≡ count_in is at len
count-inside is at len size within =
    let here : ℕ → Bool = λ p. is_inside at len p && is p in
    let whole : count_in here 0 size ≡ count_in here 0 (at + (len + (size - (at + len)))) =
    ap (count_in here 0) (let e : size ≡ at + (len + (size - (at + len))) = omega (arith, within) in e) in
    let one = count-split here 0 at (len + (size - (at + len))) in
    let moved : count_in here (0 + at) (len + (size - (at + len))) ≡ count_in here at (len + (size - (at + len))) =
    ap (λ k. count_in here k (len + (size - (at + len)))) (let e : 0 + at ≡ at = omega arith in e) in
    let two = count-split here at len (size - (at + len)) in
    let before : count_in here 0 at ≡ 0 =
    count-none here 0 at (λ p above below. false_and (is_inside at len p) (is p) (above_not at len p (omega (arith, below)))) in
    let behind : count_in here (at + len) (size - (at + len)) ≡ 0 =
    count-none here (at + len) (size - (at + len)) (λ p above below. false_and (is_inside at len p) (is p) (below_not at len p above)) in
    let within_it : count_in here at len ≡ count_in is at len =
    count-same here is at len (λ p above below. true_and (is_inside at len p) (is p) (is_in at len p above below)) in
    omega (arith, whole, one, moved, two, before, behind, within_it)

-- a piece has the byte of each of its places, and of no other
piece-has : (p : PieceFacts) (place : ℕ) → p.at ≤ place → place < piece_end p → is_some (piece_byte p place) ≡ true
piece-has p place above below = rw (le-leb p.at place above, lt-ltb place (piece_end p) below) refl

piece-before : (p : PieceFacts) (place : ℕ) → place < p.at → piece_byte p place ≡ None
piece-before p place h = rw (lt-leb p.at place h) refl

piece-behind : (p : PieceFacts) (place : ℕ) → piece_end p ≤ place → piece_byte p place ≡ None
piece-behind p place h = rw (le-leb p.at place (omega (arith, h)), le-ltb place (piece_end p) h) refl

among-first : (p : PieceFacts) (ps : List PieceFacts) (place : ℕ) → is_some (piece_byte p place) ≡ true → is_some (byte_among (p ∷ ps) place) ≡ true
among-first p ps place h = of (piece_byte p place) h
  where
    of : (o : Option ℕ) → is_some o ≡ true → is_some (option_or o (byte_among ps place)) ≡ true
    of (Some x) h = refl
    of None h = absurd (cc)

-- the pieces ascend from a place on
abbrev pub Ascend : ℕ → List PieceFacts → Type 0
Ascend from [] = Unit {0}
Ascend from (p ∷ ps) = (from ≤ p.at) × Ascend (piece_end p) ps

ascend-less : (m n : ℕ) (ps : List PieceFacts) → m ≤ n → Ascend n ps → Ascend m ps
ascend-less m n [] within h = tt
ascend-less m n (p ∷ ps) within h = let first = h.0 in (omega (arith, within, first), h.1)

ascend : (from : ℕ) (ps : List PieceFacts) → ArePiecesApart from ps → Ascend from ps
ascend from [] h = tt
ascend from (p ∷ ps) h = (h.0, ascend-less (piece_end p) (piece_end p + 1) ps (omega arith) (ascend (piece_end p + 1) ps h.2))

-- pieces that begin at a place or behind it have no byte before it
among-none : (ps : List PieceFacts) (from place : ℕ) → Ascend from ps → place < from → byte_among ps place ≡ None
among-none [] from place rises h = refl
among-none (p ∷ ps) from place rises h =
    let first = rises.0 in
    rw (piece-before p place (omega (arith, first, h)))
    (among-none ps (piece_end p) place rises.1 (omega (arith, first, h)))

-- as many bytes are known as the pieces have
count-rising : (ps : List PieceFacts) (from n : ℕ) → Ascend from ps → All (λ q. piece_end q ≤ from + n) ps
    → count_in (λ place. is_some (byte_among ps place)) from n ≡ sum_of ps
count-rising [] from n rises within = count-none (λ place. is_some (byte_among [] place)) from n (λ p above below. refl)
count-rising (p ∷ ps) from n rises within =
    let is : ℕ → Bool = λ place. is_some (byte_among (p ∷ ps) place) in
    let first : from ≤ p.at = rises.0 in
    let ends : piece_end p ≤ from + n = All-head (λ q. piece_end q ≤ from + n) p ps within in
    let whole : n ≡ (p.at - from) + (length p.bytes + ((from + n) - piece_end p)) = omega (arith, first, ends) in
    let there : from + (p.at - from) ≡ p.at = omega (arith, first) in
    let before : count_in is from (p.at - from) ≡ 0 = count-none is from (p.at - from) (λ place above below. early place (omega (arith, first, below))) in
    let mid : count_in is p.at (length p.bytes) ≡ length p.bytes =
    count-all is p.at (length p.bytes) (λ place above below. among-first p ps place (piece-has p place above below)) in
    let behind : count_in is (p.at + length p.bytes) ((from + n) - piece_end p) ≡ sum_of ps =
    count-same is (λ place. is_some (byte_among ps place)) (p.at + length p.bytes) ((from + n) - piece_end p) (λ place above below. later place above)
    ∙ count-rising ps (piece_end p) ((from + n) - piece_end p) rises.1
    (λ i d below. let e = All-tail (λ q. piece_end q ≤ from + n) p ps within i d below in omega (arith, e, ends)) in
    let one = count-split is from (p.at - from) (length p.bytes + ((from + n) - piece_end p)) in
    let two = count-split is p.at (length p.bytes) ((from + n) - piece_end p) in
    let moved : count_in is (from + (p.at - from)) (length p.bytes + ((from + n) - piece_end p)) ≡ count_in is p.at (length p.bytes + ((from + n) - piece_end p)) =
    ap (λ k. count_in is k (length p.bytes + ((from + n) - piece_end p))) there in
    let all : count_in is from n ≡ count_in is from ((p.at - from) + (length p.bytes + ((from + n) - piece_end p))) = ap (count_in is from) whole in
    omega (arith, all, one, moved, two, before, mid, behind)
  where
    early : (place : ℕ) → place < p.at → is_some (byte_among (p ∷ ps) place) ≡ false
    early place under =
        rw (piece-before p place under) (ap is_some (among-none ps (piece_end p) place rises.1 (omega (arith, under))))

    later : (place : ℕ) → p.at + length p.bytes ≤ place → is_some (byte_among (p ∷ ps) place) ≡ is_some (byte_among ps place)
    later place above = rw (piece-behind p place above) refl

pub count-pieces : (ps : List PieceFacts) (from n : ℕ) → ArePiecesApart from ps → All (λ q. piece_end q ≤ from + n) ps
    → count_in (λ place. is_some (byte_among ps place)) from n ≡ sum_of ps
count-pieces ps from n apart within = count-rising ps from n (ascend from ps apart) within

-- those that are known and those of a range that aren't are those that are known or lie in the range
pub known_and_asked : (p : PictureFacts) (at len : ℕ) → IsPicture p → at + len ≤ p.size
    → sum_of p.pieces + count_in (is_unknown p) at len ≡ count_in (is_known_or p at len) 0 p.size
known_and_asked p at len is within =
    let known : count_in (is_known p) 0 p.size ≡ sum_of p.pieces =
    count-pieces p.pieces 0 p.size is.apart (λ i d below. let e = is.within i d below in omega (arith, e)) in
    ap₂ (λ x y. x + y) (sym known) (sym (count-inside (is_unknown p) at len p.size within))
    ∙ sym (count-either (is_known p) (is_inside at len) 0 p.size)

-- a range that is covered has no byte that isn't known
pub covered_none : (p : PictureFacts) (at len : ℕ) → IsCovered p at len → count_in (is_unknown p) at len ≡ 0
covered_none p at len c = count-none (is_unknown p) at len (λ place above below. ap not (c.known place above below))

unknown_of : (o : Option ℕ) → o ≡ None → not (is_some o) ≡ true
unknown_of None e = refl
unknown_of (Some x) e = absurd (cc)

-- behind the first run of bytes that aren't known the others are counted
pub gap_counts : (p : PictureFacts) (at end from run : ℕ) → at ≤ end → IsFirstGap p at (end - at) from run
    → count_in (is_unknown p) at (end - at) ≡ run + count_in (is_unknown p) (from + run) (end - (from + run))
gap_counts p at end from run within gap =
    let above = gap.above in
    let below = gap.below in
    let whole : count_in (is_unknown p) at (end - at) ≡ count_in (is_unknown p) at ((from - at) + (run + (end - (from + run)))) =
    ap (count_in (is_unknown p) at) (let e : end - at ≡ (from - at) + (run + (end - (from + run))) = omega (arith, within, above, below) in e) in
    let one = count-split (is_unknown p) at (from - at) (run + (end - (from + run))) in
    let moved : count_in (is_unknown p) (at + (from - at)) (run + (end - (from + run))) ≡ count_in (is_unknown p) from (run + (end - (from + run))) =
    ap (λ k. count_in (is_unknown p) k (run + (end - (from + run)))) (let e : at + (from - at) ≡ from = omega (arith, above) in e) in
    let two = count-split (is_unknown p) from run (end - (from + run)) in
    let before : count_in (is_unknown p) at (from - at) ≡ 0 = covered_none p at (from - at) gap.before in
    let mid : count_in (is_unknown p) from run ≡ run = count-all (is_unknown p) from run (λ place a b. unknown_of (known_byte p place) (gap.gap place a b)) in
    omega (arith, whole, one, moved, two, before, mid)

-- what is known and what isn't of a range are no more than the file has
pub fits_size : (p : PictureFacts) (at len : ℕ) → IsPicture p → at + len ≤ p.size → sum_of p.pieces + count_in (is_unknown p) at len ≤ p.size
fits_size p at len is within =
    let same = known_and_asked p at len is within in let most = count-most (is_known_or p at len) 0 p.size in omega (arith, same, most)
