-- The text of a path is written from one pair of parts.
use Rattle.std.proofs.Common.{◌≡◌, ◌≢◌, ℕ, List, [], ◌∷◌, ◌++◌, All, drop, get_or, refl, sym, ap, ◌∙◌, arith, codes}
use Rattle.std.proofs.lemmas.List.{append_cancel_left}
use Rattle.std.proofs.lemmas.List.Elements.{All-head, All-tail}
use Rattle.row_types.specs.declared.limits.TheConstants.{SEPARATOR}
use Rattle.webapi_routes.specs.Written.{IsWritten, Wanted, debuginfo, executable, section, source, wanted_text}

-- bytes are cut at their first slash in one way
pub cut_one : (hex other behind after : List ℕ) → All (λ b. b ≢ SEPARATOR) hex → All (λ b. b ≢ SEPARATOR) other
    → hex ++ SEPARATOR ∷ behind ≡ other ++ SEPARATOR ∷ after → (hex ≡ other) × (behind ≡ after)
cut_one [] [] behind after h k e = (refl, ap (drop 1) e)
cut_one [] (y ∷ ys) behind after h k e =
    absurd (All-head (λ b. b ≢ SEPARATOR) y ys k (sym (ap (λ l. get_or l 0 0) e)))
cut_one (x ∷ xs) [] behind after h k e =
    absurd (All-head (λ b. b ≢ SEPARATOR) x xs h (ap (λ l. get_or l 0 0) e))
cut_one (x ∷ xs) (y ∷ ys) behind after h k e =
    let first : x ≡ y = ap (λ l. get_or l 0 0) e in
    let rest = cut_one xs ys behind after (All-tail (λ b. b ≢ SEPARATOR) x xs h) (All-tail (λ b. b ≢ SEPARATOR) y ys k) (ap (drop 1) e) in
    (ap (λ b. b ∷ xs) first ∙ ap (λ l. y ∷ l) rest.0, rest.1)

-- the first two letters of a text
first : {a b : List ℕ} → a ≡ b → get_or a 0 0 ≡ get_or b 0 0
first e = ap (λ l. get_or l 0 0) e

second : {a b : List ℕ} → a ≡ b → get_or a 1 0 ≡ get_or b 1 0
second e = ap (λ l. get_or l 1 0) e

-- what is asked is told by its text
pub wanted_one : (a b : Wanted) → wanted_text a ≡ wanted_text b → a ≡ b
wanted_one debuginfo debuginfo e = refl
wanted_one debuginfo executable e = absurd (omega (arith, first e))
wanted_one debuginfo (source path) e = absurd (omega (arith, first e))
wanted_one debuginfo (section name) e = absurd (omega (arith, first e))
wanted_one executable debuginfo e = absurd (omega (arith, first e))
wanted_one executable executable e = refl
wanted_one executable (source path) e = absurd (omega (arith, first e))
wanted_one executable (section name) e = absurd (omega (arith, first e))
wanted_one (source path) debuginfo e = absurd (omega (arith, first e))
wanted_one (source path) executable e = absurd (omega (arith, first e))
wanted_one (source path) (source other) e = ap source (append_cancel_left (codes "source") path other e)
wanted_one (source path) (section name) e = absurd (omega (arith, second e))
wanted_one (section name) debuginfo e = absurd (omega (arith, first e))
wanted_one (section name) executable e = absurd (omega (arith, first e))
wanted_one (section name) (source path) e = absurd (omega (arith, second e))
wanted_one (section name) (section other) e = ap section (append_cancel_left (codes "section/") name other e)

-- two pairs of parts of a text are one
pub written_one : {text hex other : List ℕ} {wanted another : Wanted} → IsWritten text hex wanted → IsWritten text other another
    → (hex ≡ other) × (wanted ≡ another)
written_one {text} {hex} {other} {wanted} {another} a b =
    let tails = append_cancel_left (codes "/buildid/") (hex ++ SEPARATOR ∷ wanted_text wanted) (other ++ SEPARATOR ∷ wanted_text another) (sym a.whole ∙ b.whole) in
    let cut = cut_one hex other (wanted_text wanted) (wanted_text another) a.one_piece b.one_piece tails in
    (cut.0, wanted_one wanted another cut.1)
