-- Bytes that are cut from a part of other bytes.
use Rattle.std.proofs.Common.{◌≡◌, ℕ, ◌+◌, ◌-◌, ◌≤◌, List, take, drop, ap, sym, subst, ◌∙◌, arith}
use Rattle.std.proofs.lemmas.List.{drop-drop, drop-take, take-take}
use Rattle.file_formats.specs.Numbers.{bytes_at}

-- the n bytes from place i of what follows place p
pub bytes_at_rest : (b : List ℕ) (p i n : ℕ) → bytes_at (drop p b) i n ≡ bytes_at b (p + i) n
bytes_at_rest b p i n = ap (take n) (drop-drop i p b)

-- the n bytes from place i of the m bytes from place p on
pub bytes_at_part : (b : List ℕ) (p m i n : ℕ) → i + n ≤ m
    → bytes_at (bytes_at b p m) i n ≡ bytes_at b (p + i) n
bytes_at_part b p m i n h =
    let cut : m ≡ i + (m - i) = omega arith in
    let P : ℕ → Type 0 = λ k. take n (drop i (take k (drop p b))) ≡ take n (drop (p + i) b) in
    subst P (sym cut) (
    ap (take n) (drop-take i (m - i) (drop p b))
    ∙ take-take n (m - i) (drop i (drop p b)) (omega arith) ∙ bytes_at_rest b p i n
    )
