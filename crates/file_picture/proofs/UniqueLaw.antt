-- A picture is its size and its bytes: pieces that neither overlap nor touch are those that these bytes make.
use Rattle.std.proofs.Common.{◌≡◌, sym, ◌∙◌, ap, subst, refl, ℕ, zero, ◌+◌, ◌-◌, ◌<◌, ◌≤◌, ◌⊎◌, inl, inr, List, [], ◌∷◌, length, get_or, arith, Option, Some, None}
use Rattle.std.specs.Option.{option_or}
use Rattle.std.proofs.lemmas.Bool.{cases_lt}
use Rattle.std.proofs.lemmas.List.{get_or_default, same_lists}
use Rattle.std.proofs.lemmas.Option.{same_Some}
use Rattle.file_picture.specs.Picture.{PieceFacts, PictureFacts, ArePiecesApart, IsPicture, known_byte, byte_among, piece_end}
use Rattle.file_picture.specs.Pieces.{piece_of}
use Rattle.file_picture.proofs.PieceLemmas.{apart_from, byte_none, byte_some, piece_none}

-- pieces have no byte before they begin
none_before : (from : ℕ) (ps : List PieceFacts) → ArePiecesApart from ps → (place : ℕ) → place < from → byte_among ps place ≡ None
none_before from ps a place before =
    byte_none ps place (λ i d below. let low = apart_from from ps a i d below in inl (omega (arith, low, before)))

-- the first piece has its bytes
first_some : (from : ℕ) (p : PieceFacts) (ps : List PieceFacts) → ArePiecesApart from (p ∷ ps) → (place : ℕ) → p.at ≤ place
    → place < piece_end p → byte_among (p ∷ ps) place ≡ Some (get_or p.bytes (place - p.at) 0)
first_some from p ps a place above below = byte_some from (p ∷ ps) a zero p (omega arith) place above below

-- none stands right behind it
none_behind : (from : ℕ) (p : PieceFacts) (ps : List PieceFacts) → ArePiecesApart from (p ∷ ps) → byte_among (p ∷ ps) (piece_end p) ≡ None
none_behind from p ps a =
    ap (λ (o : Option ℕ). option_or o (byte_among ps (piece_end p))) (piece_none p (piece_end p) (inr (omega arith)))
    ∙ none_before (piece_end p + 1) ps a.2 (piece_end p) (omega arith)

-- behind it the bytes are those of the others
rest_of : (from : ℕ) (p : PieceFacts) (ps : List PieceFacts) → ArePiecesApart from (p ∷ ps) → (place : ℕ) → piece_end p < place
    → byte_among (p ∷ ps) place ≡ byte_among ps place
rest_of from p ps a place past =
    ap (λ (o : Option ℕ). option_or o (byte_among ps place)) (piece_none p place (inr (omega (arith, past))))

-- pieces with the same bytes begin at one place
begins_low : (from : ℕ) (p q : PieceFacts) (ps qs : List PieceFacts) → ArePiecesApart from (p ∷ ps) → ArePiecesApart from (q ∷ qs)
    → ((place : ℕ) → byte_among (p ∷ ps) place ≡ byte_among (q ∷ qs) place) → p.at ≤ q.at
begins_low from p q ps qs a b same = of (cases_lt q.at p.at)
  where
    of : (q.at < p.at) ⊎ (p.at ≤ q.at) → p.at ≤ q.at
    of (inr low) = low
    of (inl before) =
        let some = first_some from q qs b q.at (omega arith) (omega (arith, b.1)) in
        let none = none_before p.at (p ∷ ps) (omega arith, a.1, a.2) q.at before in
        let both = sym none ∙ same q.at ∙ some in absurd (cc)

-- and end at one
ends_low : (from : ℕ) (p q : PieceFacts) (ps qs : List PieceFacts) → ArePiecesApart from (p ∷ ps) → ArePiecesApart from (q ∷ qs)
    → ((place : ℕ) → byte_among (p ∷ ps) place ≡ byte_among (q ∷ qs) place) → p.at ≡ q.at → piece_end q ≤ piece_end p
ends_low from p q ps qs a b same begin = of (cases_lt (piece_end p) (piece_end q))
  where
    of : (piece_end p < piece_end q) ⊎ (piece_end q ≤ piece_end p) → piece_end q ≤ piece_end p
    of (inr low) = low
    of (inl before) =
        let some = first_some from q qs b (piece_end p) (omega (arith, begin)) before in
        let both = sym (none_behind from p ps a) ∙ same (piece_end p) ∙ some in absurd (cc)

-- pieces of the same place and bytes are the same
piece_same : (p q : PieceFacts) → p.at ≡ q.at → p.bytes ≡ q.bytes → p ≡ q
piece_same p q at bytes = let whole : piece_of p.at p.bytes ≡ piece_of q.at q.bytes = cc in whole

-- the first pieces are
first_same : (from : ℕ) (p q : PieceFacts) (ps qs : List PieceFacts) → ArePiecesApart from (p ∷ ps) → ArePiecesApart from (q ∷ qs)
    → ((place : ℕ) → byte_among (p ∷ ps) place ≡ byte_among (q ∷ qs) place) → p ≡ q
first_same from p q ps qs a b same =
    let low = begins_low from p q ps qs a b same in
    let high = begins_low from q p qs ps b a (λ place. sym (same place)) in
    let begin : p.at ≡ q.at = omega (arith, low, high) in
    let under = ends_low from p q ps qs a b same begin in
    let over = ends_low from q p qs ps b a (λ place. sym (same place)) (sym begin) in
    let long : length p.bytes ≡ length q.bytes = omega (arith, begin, under, over) in
    piece_same p q begin
    (same_lists p.bytes q.bytes long
    (λ k d below.
    let one = first_some from p ps a (p.at + k) (omega arith) (omega (arith, below)) in
    let two = first_some from q qs b (p.at + k) (omega (arith, begin)) (omega (arith, begin, below, long)) in
    let left : (p.at + k) - p.at ≡ k = omega arith in
    let right : (p.at + k) - q.at ≡ k = omega (arith, begin) in
    get_or_default p.bytes k d 0 below ∙ sym (ap (λ i. get_or p.bytes i 0) left)
    ∙ same_Some (get_or p.bytes ((p.at + k) - p.at) 0) (get_or q.bytes ((p.at + k) - q.at) 0) (sym one ∙ same (p.at + k) ∙ two)
    ∙ ap (λ i. get_or q.bytes i 0) right ∙ get_or_default q.bytes k 0 d (omega (arith, below, long))))

-- pieces with the same bytes are the same
pieces_same : (from : ℕ) (ps qs : List PieceFacts) → ArePiecesApart from ps → ArePiecesApart from qs
    → ((place : ℕ) → byte_among ps place ≡ byte_among qs place) → ps ≡ qs
pieces_same from [] [] a b same = refl
pieces_same from (p ∷ ps) [] a b same =
    let both = sym (first_some from p ps a p.at (omega arith) (omega (arith, a.1))) ∙ same p.at in absurd (cc)
pieces_same from [] (q ∷ qs) a b same =
    let both = sym (first_some from q qs b q.at (omega arith) (omega (arith, b.1))) ∙ sym (same q.at) in absurd (cc)
pieces_same from (p ∷ ps) (q ∷ qs) a b same =
    let first : p ≡ q = first_same from p q ps qs a b same in
    let end : piece_end q ≡ piece_end p = ap piece_end (sym first) in
    let other : ArePiecesApart (piece_end p + 1) qs = subst (λ n. ArePiecesApart (n + 1) qs) end b.2 in
    let rest : ps ≡ qs =
    pieces_same (piece_end p + 1) ps qs a.2 other (λ place. of end other place (cases_lt (piece_end p) place)) in
    ap (λ r. r ∷ ps) first ∙ ap (λ rs. q ∷ rs) rest
  where
    of : piece_end q ≡ piece_end p → ArePiecesApart (piece_end p + 1) qs → (place : ℕ) → (piece_end p < place) ⊎ (place ≤ piece_end p)
        → byte_among ps place ≡ byte_among qs place
    of end other place (inl past) =
        sym (rest_of from p ps a place past) ∙ same place ∙ rest_of from q qs b place (omega (arith, past, end))
    of end other place (inr before) =
        none_before (piece_end p + 1) ps a.2 place (omega (arith, before))
        ∙ sym (none_before (piece_end p + 1) qs other place (omega (arith, before)))

-- two pictures of one size with the same bytes are one
pub picture-unique : (p q : PictureFacts) → IsPicture p → IsPicture q → p.size ≡ q.size
    → ((place : ℕ) → known_byte p place ≡ known_byte q place) → p.pieces ≡ q.pieces
picture-unique p q a b size same = pieces_same 0 p.pieces q.pieces a.apart b.apart same
