-- Bytes that are put among pieces.
use Rattle.std.proofs.Common.{◌≡◌, ◌≢◌, sym, ◌∙◌, ap, subst, refl, ℕ, suc, ◌+◌, ◌-◌, ◌^◌, ◌<◌, ◌≤◌, ◌⊎◌, inl, inr, List, [], ◌∷◌, ◌++◌, length, get_or, take, drop, set, arith, Bool, true, false, Option, Some, None, All}
use Rattle.std.specs.List.{insert}
use Rattle.std.specs.Option.{option_or}
use Rattle.std.proofs.lemmas.Bool.{cases_lt}
use Rattle.std.proofs.lemmas.List.{drop_more, get_or_append_left, get_or-append-add, get_or_default, get_or-take, get_or-drop, length-append, length-drop, length-take-le, set_split, take-append-drop}
use Rattle.std.proofs.lemmas.List.Elements.{All-append, All-cons}
use Rattle.file_picture.specs.Picture.{PieceFacts, ArePiecesApart, AreFree, piece_end, byte_among}
use Rattle.file_picture.specs.Pieces.{BeginsPiece, CanPut, EndsPiece, ArePiecesPut, ReplacesPiece, Spans, TouchesNone, piece_of, put_before, put_behind, spanned}
use Rattle.file_picture.proofs.ApartLemmas.{behind, apart_front, apart_back, apart_both, apart_after, behind_by}
use Rattle.file_picture.proofs.JoinLemmas.{IsJoin, join_none, join_left, join_right, join_both}
use Rattle.file_picture.proofs.PieceLemmas.{apart_later, apart_some, byte_some, byte-append, sum-append}

-- what is so of all pieces of two lists is so of those in front
all_front : (P : PieceFacts → Type 0) (xs ys : List PieceFacts) → All P (xs ++ ys) → All P xs
all_front P xs ys each i d below =
    let long = length-append xs ys in
    subst P (get_or_append_left xs ys d i below) (each i d (omega (arith, below, long)))

-- and of those behind
all_back : (P : PieceFacts → Type 0) (xs ys : List PieceFacts) → All P (xs ++ ys) → All P ys
all_back P xs ys each i d below =
    let long = length-append xs ys in
    subst P (get_or-append-add xs ys i d) (each (length xs + i) d (omega (arith, below, long)))

-- where two options come to none, the first does
first_none : (x y : Option ℕ) → option_or x y ≡ None → x ≡ None
first_none None y h = refl
first_none (Some a) y h = absurd (cc)

-- some pieces are replaced by one that has their bytes and those of the range
replaced : (front mid back : List PieceFacts) (j : PieceFacts) (at : ℕ) (bytes : List ℕ)
    → ArePiecesApart 0 (front ++ (mid ++ back)) → AreFree (front ++ (mid ++ back)) at (length bytes) → IsJoin mid at bytes j
    → behind 0 front ≤ j.at → ArePiecesApart (piece_end j + 1) back
    → ArePiecesPut (front ++ (mid ++ back)) at bytes (front ++ (j ∷ back))
replaced front mid back j at bytes apart free is low high = record {
  apart = apart_both 0 front (j ∷ back) (apart_front 0 front (mid ++ back) apart) (low, is.some, high);
  within = λ size each fits.
      let P : PieceFacts → Type 0 = λ q. piece_end q ≤ size in
      let rest : All P (mid ++ back) = all_back P front (mid ++ back) each in
      All-append P front (j ∷ back) (all_front P front (mid ++ back) each)
      (All-cons P j back (is.ends size (all_front P mid back rest) fits) (all_back P mid back rest));
  there = λ i below.
      let none : byte_among front (at + i) ≡ None =
      first_none (byte_among front (at + i)) (byte_among (mid ++ back) (at + i))
      (sym (byte-append front (mid ++ back) (at + i)) ∙ free (at + i) (omega arith) (omega (arith, below))) in
      byte-append front (j ∷ back) (at + i)
      ∙ ap (λ o. option_or o (byte_among (j ∷ back) (at + i))) none
      ∙ ap (λ o. option_or o (byte_among back (at + i))) (is.there i below);
  others = λ place out.
      byte-append front (j ∷ back) place
      ∙ ap (λ o. option_or (byte_among front place) (option_or o (byte_among back place))) (is.others place out)
      ∙ ap (option_or (byte_among front place)) (sym (byte-append mid back place))
      ∙ sym (byte-append front (mid ++ back) place);
  sum =
      let one = sum-append front (j ∷ back) in
      let two = sum-append front (mid ++ back) in
      let three = sum-append mid back in
      omega (arith, one, two, three, is.sum);
}

-- ---- what is known where bytes may be put

-- the pieces in front end by the place
ends_by : (ps : List PieceFacts) (at : ℕ) (bytes : List ℕ) (count : ℕ) → CanPut ps at bytes count → (i : ℕ) (d : PieceFacts)
    → i < count → piece_end (get_or ps i d) ≤ at
ends_by ps at bytes count can i d under = of (cases_lt at (piece_end (get_or ps i d)))
  where
    of : (at < piece_end (get_or ps i d)) ⊎ (piece_end (get_or ps i d) ≤ at) → piece_end (get_or ps i d) ≤ at
    of (inr past) = past
    of (inl over) =
        let within = can.begun.within in
        let known = byte_some 0 ps can.apart i d (omega (arith, under, within)) at (can.begun.before i d under) over in
        let none = can.free at (omega arith) (omega (arith, can.some)) in
        absurd (cc (known, none))

-- those behind begin after the bytes
begins_after : (ps : List PieceFacts) (at : ℕ) (bytes : List ℕ) (count : ℕ) → CanPut ps at bytes count → (i : ℕ) (d : PieceFacts)
    → count ≤ i → i < length ps → at + length bytes ≤ (get_or ps i d).at
begins_after ps at bytes count can i d above below = of (cases_lt (get_or ps i d).at (at + length bytes))
  where
    of : ((get_or ps i d).at < at + length bytes) ⊎ (at + length bytes ≤ (get_or ps i d).at) → at + length bytes ≤ (get_or ps i d).at
    of (inr past) = past
    of (inl under) =
        let later : at < (get_or ps i d).at = can.begun.after i d above below in
        let some = apart_some 0 ps can.apart i d below in
        let known = byte_some 0 ps can.apart i d below (get_or ps i d).at (omega arith) (omega (arith, some)) in
        let none = can.free (get_or ps i d).at (omega (arith, later)) under in
        absurd (cc (known, none))

-- where the last of those in front doesn't touch the bytes, none does
pub all_before : (ps : List PieceFacts) (at : ℕ) (bytes : List ℕ) (count : ℕ) → CanPut ps at bytes count
    → (0 < count → (d : PieceFacts) → piece_end (get_or ps (count - 1) d) ≢ at)
    → (i : ℕ) (d : PieceFacts) → i < count → piece_end (get_or ps i d) < at
all_before ps at bytes count can apart i d under = of (cases_lt i (count - 1))
  where
    within : count ≤ length ps
    within = can.begun.within

    of : (i < count - 1) ⊎ (count - 1 ≤ i) → piece_end (get_or ps i d) < at
    of (inl earlier) =
        let next = apart_later 0 ps can.apart i (count - 1) d earlier (omega (arith, under, within)) in
        let begins = can.begun.before (count - 1) d (omega (arith, under)) in
        omega (arith, next, begins)
    of (inr last) =
        let same : i ≡ count - 1 = omega (arith, last, under) in
        let ends = ends_by ps at bytes count can i d under in
        let other : piece_end (get_or ps i d) ≢ at =
        subst (λ k. piece_end (get_or ps k d) ≢ at) (sym same) (apart (omega (arith, under)) d) in
        omega (arith, ends, other)

-- where the first of those behind doesn't touch the bytes, none does
pub all_after : (ps : List PieceFacts) (at : ℕ) (bytes : List ℕ) (count : ℕ) → CanPut ps at bytes count
    → (count < length ps → (d : PieceFacts) → (get_or ps count d).at ≢ at + length bytes)
    → (i : ℕ) (d : PieceFacts) → count ≤ i → i < length ps → at + length bytes < (get_or ps i d).at
all_after ps at bytes count can apart i d above below = of (cases_lt count i)
  where
    of : (count < i) ⊎ (i ≤ count) → at + length bytes < (get_or ps i d).at
    of (inl later) =
        let first = begins_after ps at bytes count can count d (omega arith) (omega (arith, later, below)) in
        let next = apart_later 0 ps can.apart count i d later below in
        omega (arith, first, next)
    of (inr here) =
        let same : i ≡ count = omega (arith, here, above) in
        let begins = begins_after ps at bytes count can i d above below in
        let other : (get_or ps i d).at ≢ at + length bytes =
        subst (λ k. (get_or ps k d).at ≢ at + length bytes) (sym same) (apart (omega (arith, same, below)) d) in
        omega (arith, begins, other)

-- ---- the pieces in front of an index, and those behind

-- none of the first pieces reaches a place
front_low : (ps : List PieceFacts) (count to : ℕ) → count ≤ length ps
    → ((i : ℕ) (d : PieceFacts) → i < count → piece_end (get_or ps i d) < to) → behind 0 (take count ps) ≤ to
front_low ps count to within ends =
    let long = length-take-le count ps within in
    behind_by 0 to (take count ps) (omega arith)
    (λ i d below.
    let under : i < count = omega (arith, below, long) in
    subst (λ (q : PieceFacts). piece_end q < to) (sym (get_or-take count ps i d under)) (ends i d under))

-- the pieces from an index on are apart behind a place
back_high : (ps : List PieceFacts) (count to : ℕ) → ArePiecesApart 0 ps → count ≤ length ps
    → ((i : ℕ) (d : PieceFacts) → count ≤ i → i < length ps → to < (get_or ps i d).at) → ArePiecesApart (to + 1) (drop count ps)
back_high ps count to apart within begins =
    let split : ArePiecesApart 0 (take count ps ++ drop count ps) = subst (ArePiecesApart 0) (sym (take-append-drop count ps)) apart in
    let long = length-drop count ps in
    apart_after (behind 0 (take count ps)) (to + 1) (drop count ps) (apart_back 0 (take count ps) (drop count ps) split)
    (λ i d below.
    let inside : count + i < length ps = omega (arith, below, long) in
    let later = begins (count + i) d (omega arith) inside in
    let placed : to < (get_or (drop count ps) i d).at =
    subst (λ (q : PieceFacts). to < q.at) (sym (get_or-drop count ps i d)) later in
    omega (arith, placed))

-- a list is what stands before an index, what stands there, and what stands behind it
split_at : (ps : List PieceFacts) (i : ℕ) (d : PieceFacts) → i < length ps
    → ps ≡ take i ps ++ (get_or ps i d ∷ drop (i + 1) ps)
split_at ps i d below = sym (take-append-drop i ps) ∙ ap (λ xs. take i ps ++ xs) (drop_more ps i d below)

-- what replaces what stands at an index
set_at_split : (ps : List PieceFacts) (i : ℕ) (q : PieceFacts) → i < length ps
    → set ps i q ≡ take i ps ++ (q ∷ drop (i + 1) ps)
set_at_split ps i q below =
    let next : suc i ≡ i + 1 = omega arith in
    set_split ps i q below ∙ ap (λ n. take i ps ++ (q ∷ drop n ps)) next

-- ---- the four ways

-- the bytes touch no piece
pub put_alone : (ps : List PieceFacts) (at : ℕ) (bytes : List ℕ) (count : ℕ) (new : List PieceFacts) → CanPut ps at bytes count
    → TouchesNone ps at (length bytes) count → new ≡ insert ps count (piece_of at bytes) → ArePiecesPut ps at bytes new
put_alone ps at bytes count new can none is =
    let front : List PieceFacts = take count ps in
    let back : List PieceFacts = drop count ps in
    let whole : ps ≡ front ++ back = sym (take-append-drop count ps) in
    let put : ArePiecesPut (front ++ back) at bytes (front ++ (piece_of at bytes ∷ back)) =
    replaced front [] back (piece_of at bytes) at bytes (subst (ArePiecesApart 0) whole can.apart)
    (subst (λ xs. AreFree xs at (length bytes)) whole can.free) (join_none at bytes can.some)
    (front_low ps count at can.begun.within none.before)
    (back_high ps count (at + length bytes) can.apart can.begun.within none.after) in
    subst (λ xs. ArePiecesPut ps at bytes xs) (sym is)
    (subst (λ xs. ArePiecesPut xs at bytes (front ++ (piece_of at bytes ∷ back))) (sym whole) put)

-- they touch the one in front
pub put_after : (ps : List PieceFacts) (at : ℕ) (bytes : List ℕ) (count : ℕ) (new : List PieceFacts) → CanPut ps at bytes count
    → 0 < count → ((d : PieceFacts) → piece_end (get_or ps (count - 1) d) ≡ at)
    → ((i : ℕ) (d : PieceFacts) → count ≤ i → i < length ps → at + length bytes < (get_or ps i d).at)
    → ReplacesPiece (λ p. put_behind p bytes) (count - 1) ps new → ArePiecesPut ps at bytes new
put_after ps at bytes count new can some touch none is =
    let i : ℕ = count - 1 in
    let d : PieceFacts = piece_of at bytes in
    let p : PieceFacts = get_or ps i d in
    let below : i < length ps = (let within = can.begun.within in omega (arith, within, some)) in
    let next : i + 1 ≡ count = omega (arith, some) in
    let front : List PieceFacts = take i ps in
    let back : List PieceFacts = drop count ps in
    let whole : ps ≡ front ++ (p ∷ back) = split_at ps i d below ∙ ap (λ n. front ++ (p ∷ drop n ps)) next in
    let made : new ≡ front ++ (put_behind p bytes ∷ back) =
    is d ∙ set_at_split ps i (put_behind p bytes) below ∙ ap (λ n. front ++ (put_behind p bytes ∷ drop n ps)) next in
    let apart : ArePiecesApart 0 (front ++ (p ∷ back)) = subst (ArePiecesApart 0) whole can.apart in
    let long : length (p.bytes ++ bytes) ≡ length p.bytes + length bytes = length-append p.bytes bytes in
    let touches : piece_end p ≡ at = touch d in
    let end : (at + length bytes) + 1 ≡ piece_end (put_behind p bytes) + 1 = omega (arith, touches, long) in
    let put : ArePiecesPut (front ++ (p ∷ back)) at bytes (front ++ (put_behind p bytes ∷ back)) =
    replaced front (p ∷ []) back (put_behind p bytes) at bytes apart
    (subst (λ xs. AreFree xs at (length bytes)) whole can.free) (join_left p at bytes can.some touches)
    (apart_back 0 front (p ∷ back) apart).0
    (subst (λ n. ArePiecesApart n back) end (back_high ps count (at + length bytes) can.apart can.begun.within none)) in
    subst (λ xs. ArePiecesPut ps at bytes xs) (sym made)
    (subst (λ xs. ArePiecesPut xs at bytes (front ++ (put_behind p bytes ∷ back))) (sym whole) put)

-- they touch the one behind
pub put_ahead : (ps : List PieceFacts) (at : ℕ) (bytes : List ℕ) (count : ℕ) (new : List PieceFacts) → CanPut ps at bytes count
    → ((i : ℕ) (d : PieceFacts) → i < count → piece_end (get_or ps i d) < at)
    → count < length ps → ((d : PieceFacts) → (get_or ps count d).at ≡ at + length bytes)
    → ReplacesPiece (put_before bytes) count ps new → ArePiecesPut ps at bytes new
put_ahead ps at bytes count new can none below touch is =
    let d : PieceFacts = piece_of at bytes in
    let p : PieceFacts = get_or ps count d in
    let front : List PieceFacts = take count ps in
    let back : List PieceFacts = drop (count + 1) ps in
    let whole : ps ≡ front ++ (p ∷ back) = split_at ps count d below in
    let touches : at + length bytes ≡ p.at = sym (touch d) in
    let moved : p.at - length bytes ≡ at = omega (arith, touches) in
    let made : new ≡ front ++ (piece_of at (bytes ++ p.bytes) ∷ back) =
    is d ∙ set_at_split ps count (put_before bytes p) below
    ∙ ap (λ n. front ++ (piece_of n (bytes ++ p.bytes) ∷ back)) moved in
    let apart : ArePiecesApart 0 (front ++ (p ∷ back)) = subst (ArePiecesApart 0) whole can.apart in
    let long : length (bytes ++ p.bytes) ≡ length bytes + length p.bytes = length-append bytes p.bytes in
    let end : piece_end p + 1 ≡ piece_end (piece_of at (bytes ++ p.bytes)) + 1 = omega (arith, touches, long) in
    let put : ArePiecesPut (front ++ (p ∷ back)) at bytes (front ++ (piece_of at (bytes ++ p.bytes) ∷ back)) =
    replaced front (p ∷ []) back (piece_of at (bytes ++ p.bytes)) at bytes apart
    (subst (λ xs. AreFree xs at (length bytes)) whole can.free) (join_right p at bytes can.some touches)
    (front_low ps count at can.begun.within none)
    (subst (λ n. ArePiecesApart n back) end (apart_back 0 front (p ∷ back) apart).2) in
    subst (λ xs. ArePiecesPut ps at bytes xs) (sym made)
    (subst (λ xs. ArePiecesPut xs at bytes (front ++ (piece_of at (bytes ++ p.bytes) ∷ back))) (sym whole) put)

-- they touch both
pub put_between : (ps : List PieceFacts) (at : ℕ) (bytes : List ℕ) (count : ℕ) (new : List PieceFacts) → CanPut ps at bytes count
    → 0 < count → ((d : PieceFacts) → piece_end (get_or ps (count - 1) d) ≡ at)
    → count < length ps → ((d : PieceFacts) → (get_or ps count d).at ≡ at + length bytes)
    → Spans bytes count ps new → ArePiecesPut ps at bytes new
put_between ps at bytes count new can some touch below follow is =
    let i : ℕ = count - 1 in
    let d : PieceFacts = piece_of at bytes in
    let p : PieceFacts = get_or ps i d in
    let q : PieceFacts = get_or ps count d in
    let next : i + 1 ≡ count = omega (arith, some) in
    let front : List PieceFacts = take i ps in
    let back : List PieceFacts = drop (count + 1) ps in
    let whole : ps ≡ front ++ (p ∷ (q ∷ back)) =
    split_at ps i d (omega (arith, below)) ∙ ap (λ n. front ++ (p ∷ drop n ps)) next
    ∙ ap (λ xs. front ++ (p ∷ xs)) (drop_more ps count d below) in
    let apart : ArePiecesApart 0 (front ++ (p ∷ (q ∷ back))) = subst (ArePiecesApart 0) whole can.apart in
    let touches : piece_end p ≡ at = touch d in
    let follows : at + length bytes ≡ q.at = sym (follow d) in
    let one : length (p.bytes ++ (bytes ++ q.bytes)) ≡ length p.bytes + length (bytes ++ q.bytes) =
    length-append p.bytes (bytes ++ q.bytes) in
    let two : length (bytes ++ q.bytes) ≡ length bytes + length q.bytes = length-append bytes q.bytes in
    let end : piece_end q + 1 ≡ piece_end (spanned p bytes q) + 1 = omega (arith, touches, follows, one, two) in
    let put : ArePiecesPut (front ++ (p ∷ (q ∷ back))) at bytes (front ++ (spanned p bytes q ∷ back)) =
    replaced front (p ∷ q ∷ []) back (spanned p bytes q) at bytes apart
    (subst (λ xs. AreFree xs at (length bytes)) whole can.free) (join_both p q at bytes can.some touches follows)
    (apart_back 0 front (p ∷ (q ∷ back)) apart).0
    (subst (λ n. ArePiecesApart n back) end (apart_back 0 front (p ∷ (q ∷ back)) apart).2.2) in
    subst (λ xs. ArePiecesPut ps at bytes xs) (sym (is d))
    (subst (λ xs. ArePiecesPut xs at bytes (front ++ (spanned p bytes q ∷ back))) (sym whole) put)

-- ---- what the tests say

-- the last of the pieces in front ends at the place
pub ends_true : {ps qs : List PieceFacts} {count at : ℕ} {test : Bool} → ps ≡ qs → test ≡ true → EndsPiece ps count at test
    → (0 < count) × ((d : PieceFacts) → piece_end (get_or qs (count - 1) d) ≡ at)
ends_true {ps} {qs} {count} {at} {test} same is ends =
    subst (λ xs. EndsPiece xs count at true) same (subst (λ t. EndsPiece ps count at t) is ends)

-- it doesn't
pub ends_false : {ps qs : List PieceFacts} {count at : ℕ} {test : Bool} → ps ≡ qs → test ≡ false → EndsPiece ps count at test
    → 0 < count → (d : PieceFacts) → piece_end (get_or qs (count - 1) d) ≢ at
ends_false {ps} {qs} {count} {at} {test} same is ends =
    subst (λ xs. EndsPiece xs count at false) same (subst (λ t. EndsPiece ps count at t) is ends)

-- the first of those behind begins there
pub begins_true : {ps qs : List PieceFacts} {count at : ℕ} {test : Bool} → ps ≡ qs → test ≡ true → BeginsPiece ps count at test
    → (count < length qs) × ((d : PieceFacts) → (get_or qs count d).at ≡ at)
begins_true {ps} {qs} {count} {at} {test} same is begins =
    subst (λ xs. BeginsPiece xs count at true) same (subst (λ t. BeginsPiece ps count at t) is begins)

-- it doesn't
pub begins_false : {ps qs : List PieceFacts} {count at : ℕ} {test : Bool} → ps ≡ qs → test ≡ false → BeginsPiece ps count at test
    → count < length qs → (d : PieceFacts) → (get_or qs count d).at ≢ at
begins_false {ps} {qs} {count} {at} {test} same is begins =
    subst (λ xs. BeginsPiece xs count at false) same (subst (λ t. BeginsPiece ps count at t) is begins)

-- bytes between two pieces, with those of the one behind, end with it
pub span_fits : (ps : List PieceFacts) (index : ℕ) (d q : PieceFacts) (bytes own both : List ℕ)
    → piece_end (get_or ps (index - 1) d) + length bytes ≡ (get_or ps index d).at → q ≡ get_or ps index q → index < length ps
    → own ≡ q.bytes → length both ≡ length (bytes ++ own) → piece_end q < 2 ^ 64
    → piece_end (get_or ps (index - 1) d) + length both < 2 ^ 64
span_fits ps index d q bytes own both touch is below all long fits =
    let place : (get_or ps index d).at ≡ q.at = ap (λ (r : PieceFacts). r.at) (get_or_default ps index d q below ∙ sym is) in
    let sum : length (bytes ++ own) ≡ length bytes + length own = length-append bytes own in
    let same : length own ≡ length q.bytes = ap length all in
    let end : piece_end (get_or ps (index - 1) d) + length both ≡ piece_end q = omega (arith, touch, place, long, sum, same) in
    subst (λ n. n < 2 ^ 64) (sym end) fits
