-- Bytes that are joined with those of the pieces that they touch.
use Rattle.std.proofs.Common.{◌≡◌, sym, ◌∙◌, ap, refl, ℕ, ◌+◌, ◌-◌, ◌<◌, ◌≤◌, ◌⊎◌, inl, inr, List, [], ◌∷◌, ◌++◌, length, get_or, arith, Option, Some, None}
use Rattle.std.specs.Prelude.{All}
use Rattle.std.specs.Option.{option_or}
use Rattle.std.proofs.lemmas.Bool.{cases_lt}
use Rattle.std.proofs.lemmas.List.{append-nil, get_or_append_left, get_or-append_right, length-append}
use Rattle.std.proofs.lemmas.List.Elements.{All-head, All-tail}
use Rattle.file_picture.specs.Picture.{PieceFacts, piece_end, piece_byte, byte_among, sum_of}
use Rattle.file_picture.specs.Pieces.{piece_of}
use Rattle.file_picture.proofs.PieceLemmas.{piece_none, piece_some}

-- a piece has the bytes of some others, and with them those of a range that none of these has
pub record IsJoin (mid : List PieceFacts) (at : ℕ) (bytes : List ℕ) (j : PieceFacts) : Type 0 where
  pub some : 0 < length j.bytes
  pub there : (i : ℕ) → i < length bytes → piece_byte j (at + i) ≡ Some (get_or bytes i 0)
  pub others : (place : ℕ) → (place < at) ⊎ (at + length bytes ≤ place) → piece_byte j place ≡ byte_among mid place
  pub sum : length j.bytes ≡ sum_of mid + length bytes
  pub ends : (size : ℕ) → All (λ q. piece_end q ≤ size) mid → at + length bytes ≤ size → piece_end j ≤ size

-- bytes, bytes behind them, and bytes behind these
abbrev three : ℕ → List ℕ → List ℕ → List ℕ → PieceFacts
three at l m r = piece_of at (l ++ (m ++ r))

-- how many they are
three_long : (l m r : List ℕ) → length (l ++ (m ++ r)) ≡ length l + (length m + length r)
three_long l m r = length-append l (m ++ r) ∙ ap (λ n. length l + n) (length-append m r)

-- the first ones
three_left : (start : ℕ) (l m r : List ℕ) (place : ℕ) → start ≤ place → place < start + length l
    → piece_byte (three start l m r) place ≡ piece_byte (piece_of start l) place
three_left start l m r place above below =
    let long = three_long l m r in
    piece_some (three start l m r) place above (omega (arith, below, long))
    ∙ ap (λ x. Some x) (get_or_append_left l (m ++ r) 0 (place - start) (omega (arith, above, below)))
    ∙ sym (piece_some (piece_of start l) place above below)

-- those between
three_mid : (start at : ℕ) (l m r : List ℕ) → start + length l ≡ at → (i : ℕ) → i < length m
    → piece_byte (three start l m r) (at + i) ≡ Some (get_or m i 0)
three_mid start at l m r touch i below =
    let long = three_long l m r in
    let index : (at + i) - start - length l ≡ i = omega (arith, touch) in
    piece_some (three start l m r) (at + i) (omega (arith, touch)) (omega (arith, touch, below, long))
    ∙ ap (λ x. Some x)
    (get_or-append_right l (m ++ r) (length l) ((at + i) - start) 0 refl (omega (arith, touch))
    ∙ ap (λ k. get_or (m ++ r) k 0) index ∙ get_or_append_left m r 0 i below)

-- the last ones
three_right : (start at next : ℕ) (l m r : List ℕ) → start + length l ≡ at → at + length m ≡ next → (place : ℕ) → next ≤ place
    → place < next + length r → piece_byte (three start l m r) place ≡ piece_byte (piece_of next r) place
three_right start at next l m r touch follow place above below =
    let long = three_long l m r in
    let index : (place - start) - length l - length m ≡ place - next = omega (arith, touch, follow, above) in
    piece_some (three start l m r) place (omega (arith, touch, follow, above)) (omega (arith, touch, follow, below, long))
    ∙ ap (λ x. Some x)
    (get_or-append_right l (m ++ r) (length l) (place - start) 0 refl (omega (arith, touch, follow, above))
    ∙ get_or-append_right m r (length m) ((place - start) - length l) 0 refl (omega (arith, touch, follow, above))
    ∙ ap (λ k. get_or r k 0) index)
    ∙ sym (piece_some (piece_of next r) place above below)

-- all but those between
three_others : (start at next : ℕ) (l m r : List ℕ) → start + length l ≡ at → at + length m ≡ next → (place : ℕ)
    → (place < at) ⊎ (next ≤ place)
    → piece_byte (three start l m r) place ≡ option_or (piece_byte (piece_of start l) place) (piece_byte (piece_of next r) place)
three_others start at next l m r touch follow place (inl before) = of (cases_lt place start)
  where
    right : piece_byte (piece_of next r) place ≡ None
    right = piece_none (piece_of next r) place (inl (omega (arith, before, follow)))

    or_none : (o : Option ℕ) → o ≡ option_or o None
    or_none None = refl
    or_none (Some x) = refl

    of : (place < start) ⊎ (start ≤ place)
        → piece_byte (three start l m r) place ≡ option_or (piece_byte (piece_of start l) place) (piece_byte (piece_of next r) place)
    of (inl low) =
        piece_none (three start l m r) place (inl low)
        ∙ sym (ap (λ o. option_or o (piece_byte (piece_of next r) place)) (piece_none (piece_of start l) place (inl low)) ∙ right)
    of (inr high) =
        three_left start l m r place high (omega (arith, before, touch))
        ∙ or_none (piece_byte (piece_of start l) place)
        ∙ sym (ap (option_or (piece_byte (piece_of start l) place)) right)
three_others start at next l m r touch follow place (inr behind) = of (cases_lt place (next + length r))
  where
    left : piece_byte (piece_of start l) place ≡ None
    left = piece_none (piece_of start l) place (inr (omega (arith, touch, follow, behind)))

    of : (place < next + length r) ⊎ (next + length r ≤ place)
        → piece_byte (three start l m r) place ≡ option_or (piece_byte (piece_of start l) place) (piece_byte (piece_of next r) place)
    of (inl low) =
        three_right start at next l m r touch follow place behind low
        ∙ sym (ap (λ o. option_or o (piece_byte (piece_of next r) place)) left)
    of (inr high) =
        let long = three_long l m r in
        piece_none (three start l m r) place (inr (omega (arith, high, touch, follow, long)))
        ∙ sym (ap (λ o. option_or o (piece_byte (piece_of next r) place)) left ∙ piece_none (piece_of next r) place (inr high))

-- no byte is that of no piece
or_none : (o : Option ℕ) → option_or o None ≡ o
or_none None = refl
or_none (Some x) = refl

-- an empty piece has none
empty_none : (at place : ℕ) → piece_byte (piece_of at []) place ≡ None
empty_none at place = of (cases_lt place at)
  where
    of : (place < at) ⊎ (at ≤ place) → piece_byte (piece_of at []) place ≡ None
    of (inl low) = piece_none (piece_of at []) place (inl low)
    of (inr high) = piece_none (piece_of at []) place (inr (omega (arith, high)))

-- the bytes alone
pub join_none : (at : ℕ) (bytes : List ℕ) → 0 < length bytes → IsJoin [] at bytes (piece_of at bytes)
join_none at bytes some = record {
  some = some;
  there = λ i below.
      piece_some (piece_of at bytes) (at + i) (omega arith) (omega (arith, below))
      ∙ ap (λ k. Some (get_or bytes k 0)) (omega arith);
  others = λ place out. piece_none (piece_of at bytes) place out;
  sum = omega arith;
  ends = λ size each fits. fits;
}

-- with a piece before them
pub join_left : (p : PieceFacts) (at : ℕ) (bytes : List ℕ) → 0 < length bytes → piece_end p ≡ at
    → IsJoin (p ∷ []) at bytes (piece_of p.at (p.bytes ++ bytes))
join_left p at bytes some touch =
    let long : length (p.bytes ++ bytes) ≡ length p.bytes + length bytes = length-append p.bytes bytes in
    let whole : three p.at p.bytes bytes [] ≡ piece_of p.at (p.bytes ++ bytes) =
    ap (λ xs. piece_of p.at (p.bytes ++ xs)) (append-nil bytes) in
    record {
      some = omega (arith, some, long);
      there = λ i below.
          ap (λ j. piece_byte j (at + i)) (sym whole) ∙ three_mid p.at at p.bytes bytes [] touch i below;
      others = λ place out.
          ap (λ j. piece_byte j place) (sym whole)
          ∙ three_others p.at at (at + length bytes) p.bytes bytes [] touch refl place out
          ∙ ap (option_or (piece_byte p place)) (empty_none (at + length bytes) place);
      sum = omega (arith, long);
      ends = λ size each fits. omega (arith, long, touch, fits);
    }

-- with a piece behind them
pub join_right : (p : PieceFacts) (at : ℕ) (bytes : List ℕ) → 0 < length bytes → at + length bytes ≡ p.at
    → IsJoin (p ∷ []) at bytes (piece_of at (bytes ++ p.bytes))
join_right p at bytes some touch =
    let long : length (bytes ++ p.bytes) ≡ length bytes + length p.bytes = length-append bytes p.bytes in
    let empty : at + 0 ≡ at = omega arith in
    record {
      some = omega (arith, some, long);
      there = λ i below. three_mid at at [] bytes p.bytes empty i below;
      others = λ place out.
          three_others at at p.at [] bytes p.bytes empty touch place (move place out)
          ∙ ap (λ o. option_or o (piece_byte p place)) (empty_none at place) ∙ sym (or_none (piece_byte p place));
      sum = omega (arith, long);
      ends = λ size each fits. let last = All-head (λ (q : PieceFacts). piece_end q ≤ size) p [] each in omega (arith, long, touch, last);
    }
  where
    move : (place : ℕ) → (place < at) ⊎ (at + length bytes ≤ place) → (place < at) ⊎ (p.at ≤ place)
    move place (inl before) = inl before
    move place (inr after) = inr (omega (arith, after, touch))

-- with one on either side
pub join_both : (p q : PieceFacts) (at : ℕ) (bytes : List ℕ) → 0 < length bytes → piece_end p ≡ at → at + length bytes ≡ q.at
    → IsJoin (p ∷ q ∷ []) at bytes (piece_of p.at (p.bytes ++ (bytes ++ q.bytes)))
join_both p q at bytes some touch follow =
    let long = three_long p.bytes bytes q.bytes in
    record {
      some = omega (arith, some, long);
      there = λ i below. three_mid p.at at p.bytes bytes q.bytes touch i below;
      others = λ place out.
          three_others p.at at q.at p.bytes bytes q.bytes touch follow place (move place out)
          ∙ ap (option_or (piece_byte p place)) (sym (or_none (piece_byte q place)));
      sum = omega (arith, long);
      ends = λ size each fits.
          let last = All-head (λ (r : PieceFacts). piece_end r ≤ size) q []
          (All-tail (λ (r : PieceFacts). piece_end r ≤ size) p (q ∷ []) each) in
          omega (arith, long, touch, follow, last);
    }
  where
    move : (place : ℕ) → (place < at) ⊎ (at + length bytes ≤ place) → (place < at) ⊎ (q.at ≤ place)
    move place (inl before) = inl before
    move place (inr after) = inr (omega (arith, after, follow))
