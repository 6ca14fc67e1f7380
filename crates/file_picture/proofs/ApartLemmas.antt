-- Pieces that are apart, in front of others and behind them.
use Rattle.std.proofs.Common.{ℕ, suc, zero, ◌+◌, ◌<◌, ◌≤◌, List, [], ◌∷◌, ◌++◌, length, get_or, arith}
use Rattle.file_picture.specs.Picture.{PieceFacts, ArePiecesApart, piece_end}

-- the first place from one on at which a piece may begin behind others
abbrev pub behind : ℕ → List PieceFacts → ℕ
behind from [] = from
behind from (p ∷ ps) = behind (piece_end p + 1) ps

-- pieces in front of others are apart
pub apart_front : (from : ℕ) (xs ys : List PieceFacts) → ArePiecesApart from (xs ++ ys) → ArePiecesApart from xs
apart_front from [] ys a = tt
apart_front from (x ∷ xs) ys a = (a.0, a.1, apart_front (piece_end x + 1) xs ys a.2)

-- so are those behind them
pub apart_back : (from : ℕ) (xs ys : List PieceFacts) → ArePiecesApart from (xs ++ ys) → ArePiecesApart (behind from xs) ys
apart_back from [] ys a = a
apart_back from (x ∷ xs) ys a = apart_back (piece_end x + 1) xs ys a.2

-- and the two together
pub apart_both : (from : ℕ) (xs ys : List PieceFacts) → ArePiecesApart from xs → ArePiecesApart (behind from xs) ys → ArePiecesApart from (xs ++ ys)
apart_both from [] ys a b = b
apart_both from (x ∷ xs) ys a b = (a.0, a.1, apart_both (piece_end x + 1) xs ys a.2 b)

-- pieces that all end before a place leave room for one there
pub behind_by : (from to : ℕ) (ps : List PieceFacts) → from ≤ to
    → ((i : ℕ) (d : PieceFacts) → i < length ps → piece_end (get_or ps i d) < to) → behind from ps ≤ to
behind_by from to [] low ends = low
behind_by from to (p ∷ ps) low ends =
    let first : piece_end p < to = ends zero p (omega arith) in
    behind_by (piece_end p + 1) to ps (omega (arith, first)) (λ i d below. ends (suc i) d (omega (arith, below)))

-- pieces that all begin at a place or behind it are apart from there on
pub apart_after : (from to : ℕ) (ps : List PieceFacts) → ArePiecesApart from ps
    → ((i : ℕ) (d : PieceFacts) → i < length ps → to ≤ (get_or ps i d).at) → ArePiecesApart to ps
apart_after from to [] a begin = tt
apart_after from to (p ∷ ps) a begin = (begin zero p (omega arith), a.1, a.2)
