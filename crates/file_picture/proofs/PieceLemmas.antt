-- The bytes of pieces, one by one.
use Rattle.std.proofs.Common.{◌≡◌, ◌∙◌, ap, refl, ℕ, suc, zero, ◌+◌, ◌-◌, ◌<◌, ◌≤◌, ◌⊎◌, inl, inr, ◌&&◌, List, [], ◌∷◌, ◌++◌, length, get_or, arith, true, false, Option, Some, None}
use Rattle.std.specs.Prelude.{nat_le, nat_lt, is_some}
use Rattle.std.specs.Option.{option_or}
use Rattle.std.proofs.lemmas.Bool.{and_from, and_left, and_right, le-leb, lt-leb, lt-ltb, le-ltb, cases_lt}
use Rattle.file_picture.specs.Picture.{PieceFacts, ArePiecesApart, piece_end, piece_byte, byte_among, sum_of}

-- a piece has no byte before it and none behind it
pub piece_none : (p : PieceFacts) (place : ℕ) → (place < p.at) ⊎ (piece_end p ≤ place) → piece_byte p place ≡ None
piece_none p place (inl before) =
    let test : (nat_le p.at place && nat_lt place (piece_end p)) ≡ false =
    and_left (nat_le p.at place) (nat_lt place (piece_end p)) (lt-leb p.at place before) in
    rw test refl
piece_none p place (inr behind) =
    let test : (nat_le p.at place && nat_lt place (piece_end p)) ≡ false =
    and_right (nat_le p.at place) (nat_lt place (piece_end p)) (le-ltb place (piece_end p) behind) in
    rw test refl

-- it has one at each place between
pub piece_some : (p : PieceFacts) (place : ℕ) → p.at ≤ place → place < piece_end p
    → piece_byte p place ≡ Some (get_or p.bytes (place - p.at) 0)
piece_some p place above below =
    let test : (nat_le p.at place && nat_lt place (piece_end p)) ≡ true =
    and_from (nat_le p.at place) (nat_lt place (piece_end p)) (le-leb p.at place above) (lt-ltb place (piece_end p) below) in
    rw test refl

-- each piece begins behind where they begin
pub apart_from : (from : ℕ) (ps : List PieceFacts) → ArePiecesApart from ps → (i : ℕ) (d : PieceFacts) → i < length ps
    → from ≤ (get_or ps i d).at
apart_from from [] a i d below = absurd (omega (arith, below))
apart_from from (p ∷ ps) a zero d below = a.0
apart_from from (p ∷ ps) a (suc i) d below =
    let rest = apart_from (piece_end p + 1) ps a.2 i d (omega (arith, below)) in omega (arith, rest, a.0)

-- each has bytes
pub apart_some : (from : ℕ) (ps : List PieceFacts) → ArePiecesApart from ps → (i : ℕ) (d : PieceFacts) → i < length ps
    → 0 < length (get_or ps i d).bytes
apart_some from [] a i d below = absurd (omega (arith, below))
apart_some from (p ∷ ps) a zero d below = a.1
apart_some from (p ∷ ps) a (suc i) d below = apart_some (piece_end p + 1) ps a.2 i d (omega (arith, below))

-- one ends before each later one begins, with room between them
pub apart_later : (from : ℕ) (ps : List PieceFacts) → ArePiecesApart from ps → (i j : ℕ) (d : PieceFacts) → i < j → j < length ps
    → piece_end (get_or ps i d) < (get_or ps j d).at
apart_later from [] a i j d before below = absurd (omega (arith, below))
apart_later from (p ∷ ps) a i zero d before below = absurd (omega (arith, before))
apart_later from (p ∷ ps) a zero (suc j) d before below =
    let rest = apart_from (piece_end p + 1) ps a.2 j d (omega (arith, below)) in omega (arith, rest)
apart_later from (p ∷ ps) a (suc i) (suc j) d before below =
    apart_later (piece_end p + 1) ps a.2 i j d (omega (arith, before)) (omega (arith, below))

-- no byte is known at a place that no piece has
pub byte_none : (ps : List PieceFacts) (place : ℕ)
    → ((i : ℕ) (d : PieceFacts) → i < length ps → (place < (get_or ps i d).at) ⊎ (piece_end (get_or ps i d) ≤ place))
    → byte_among ps place ≡ None
byte_none [] place none = refl
byte_none (p ∷ ps) place none =
    let first : piece_byte p place ≡ None = piece_none p place (none zero p (omega arith)) in
    ap (λ (o : Option ℕ). option_or o (byte_among ps place)) first
    ∙ byte_none ps place (λ i d below. none (suc i) d (omega (arith, below)))

-- the byte at a place of a piece is that piece's
pub byte_some : (from : ℕ) (ps : List PieceFacts) → ArePiecesApart from ps → (i : ℕ) (d : PieceFacts) → i < length ps
    → (place : ℕ) → (get_or ps i d).at ≤ place → place < piece_end (get_or ps i d)
    → byte_among ps place ≡ Some (get_or (get_or ps i d).bytes (place - (get_or ps i d).at) 0)
byte_some from [] a i d below place above under = absurd (omega (arith, below))
byte_some from (p ∷ ps) a zero d below place above under =
    ap (λ (o : Option ℕ). option_or o (byte_among ps place)) (piece_some p place above under)
byte_some from (p ∷ ps) a (suc i) d below place above under =
    let past = apart_later from (p ∷ ps) a zero (suc i) d (omega arith) below in
    let first : piece_byte p place ≡ None = piece_none p place (inr (omega (arith, past, above))) in
    ap (λ (o : Option ℕ). option_or o (byte_among ps place)) first
    ∙ byte_some (piece_end p + 1) ps a.2 i d (omega (arith, below)) place above under

-- that it is known
pub byte_known : (from : ℕ) (ps : List PieceFacts) → ArePiecesApart from ps → (i : ℕ) (d : PieceFacts) → i < length ps
    → (place : ℕ) → (get_or ps i d).at ≤ place → place < piece_end (get_or ps i d) → is_some (byte_among ps place) ≡ true
byte_known from ps a i d below place above under = ap is_some (byte_some from ps a i d below place above under)

-- the first of two that is there
or_assoc : (x y z : Option ℕ) → option_or x (option_or y z) ≡ option_or (option_or x y) z
or_assoc None y z = refl
or_assoc (Some a) y z = refl

-- the byte of some pieces and others behind them
pub byte-append : (xs ys : List PieceFacts) (place : ℕ)
    → byte_among (xs ++ ys) place ≡ option_or (byte_among xs place) (byte_among ys place)
byte-append [] ys place = refl
byte-append (x ∷ xs) ys place =
    ap (option_or (piece_byte x place)) (byte-append xs ys place)
    ∙ or_assoc (piece_byte x place) (byte_among xs place) (byte_among ys place)

-- how many bytes they have
pub sum-append : (xs ys : List PieceFacts) → sum_of (xs ++ ys) ≡ sum_of xs + sum_of ys
sum-append [] ys = omega arith
sum-append (x ∷ xs) ys = let rest = sum-append xs ys in omega (arith, rest)

-- pieces that end by a place and begin behind it are none
no_more : (from size : ℕ) (ps : List PieceFacts) → ArePiecesApart from ps
    → ((i : ℕ) (d : PieceFacts) → i < length ps → piece_end (get_or ps i d) ≤ size) → size < from → sum_of ps ≡ 0
no_more from size [] a ends past = refl
no_more from size (p ∷ ps) a ends past =
    let first : piece_end p ≤ size = ends zero p (omega arith) in absurd (omega (arith, first, past, a.0))

-- pieces that are apart have no more bytes than the place where they end
pub sum_within : (from size : ℕ) (ps : List PieceFacts) → ArePiecesApart from ps → from ≤ size
    → ((i : ℕ) (d : PieceFacts) → i < length ps → piece_end (get_or ps i d) ≤ size) → sum_of ps ≤ size - from
sum_within from size [] a low ends = omega arith
sum_within from size (p ∷ ps) a low ends =
    of (cases_lt (piece_end p) size) (ends zero p (omega arith)) (λ i d below. ends (suc i) d (omega (arith, below)))
    (λ under bounds. sum_within (piece_end p + 1) size ps a.2 (omega (arith, under)) bounds)
  where
    of : (piece_end p < size) ⊎ (size ≤ piece_end p) → piece_end p ≤ size
        → ((i : ℕ) (d : PieceFacts) → i < length ps → piece_end (get_or ps i d) ≤ size)
        → (piece_end p < size → ((i : ℕ) (d : PieceFacts) → i < length ps → piece_end (get_or ps i d) ≤ size)
        → sum_of ps ≤ size - (piece_end p + 1))
        → sum_of (p ∷ ps) ≤ size - from
    of (inl under) first bounds more = let rest = more under bounds in omega (arith, rest, a.0, under)
    of (inr over) first bounds more =
        let none = no_more (piece_end p + 1) size ps a.2 bounds (omega (arith, over)) in omega (arith, none, a.0, first)
