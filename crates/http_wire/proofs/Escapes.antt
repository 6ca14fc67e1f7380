-- The set that escapes the bytes of a path is that of the definition.
use Rattle.std.proofs.Common.{◌≡◌, ℕ, zero, suc, ◌<◌, List, [], ◌∷◌, ◌++◌, Bool, true, false, ◌&&◌, not, refl, ap, ◌∙◌, arith, All}
use Rattle.std.specs.Prelude.{if◌then◌else◌}
use Rattle.std.proofs.Common.{add-one}
use borrow.Author.Count.{below_more}
use Rattle.std.proofs.lemmas.List.Elements.{All-head, All-tail}
use Rattle.percent_encoding.specs.Percent.{percent_encode, percent_encode_byte, encode_byte}
use Rattle.percent_encoding.specs.AsciiSet.{should_percent_encode}
use Rattle.http_wire.specs.declared.reply_lines.TheConstants.{ESCAPED}
use Rattle.http_wire.specs.Reply.{escaped, is_plain}

-- whether a test passes at each number below a bound
abbrev all_below : ℕ → (ℕ → Bool) → Bool
all_below zero p = true
all_below (suc n) p = p n && all_below n p

-- both parts of a test pass
both_are : (a b : Bool) → (a && b) ≡ true → (a ≡ true) × (b ≡ true)
both_are true b both = (refl, both)
both_are false b both = absurd (cc)

-- so it passes at one
at_each : (n : ℕ) (p : ℕ → Bool) → all_below n p ≡ true → (b : ℕ) → b < n → p b ≡ true
at_each zero p all b small = absurd (omega arith)
at_each (suc n) p all b small =
    let both = both_are _ _ all in
    below_more (λ k. p k ≡ true) n (λ k below. at_each n p both.1 k below) both.0 b (rw add-one small)

-- whether two truths are one
abbrev same : Bool → Bool → Bool
same true b = b
same false b = not b

same_is : (a b : Bool) → same a b ≡ true → a ≡ b
same_is true true h = refl
same_is true false h = absurd (cc)
same_is false true h = absurd (cc)
same_is false false h = refl

-- a byte is escaped where it isn't plain
escapes : (b : ℕ) → b < 256 → should_percent_encode ESCAPED b ≡ not (is_plain b)
unfolding should_percent_encode
escapes b small = same_is _ _ (at_each 256 (λ n. same (should_percent_encode ESCAPED n) (not (is_plain n))) refl b small)

chosen : (plain : Bool) (a b : List ℕ) → if not plain then a else b ≡ if plain then b else a
chosen true a b = refl
chosen false a b = refl

pub escaped_is : (bytes : List ℕ) → All (λ b. b < 256) bytes → percent_encode ESCAPED bytes ≡ escaped bytes
unfolding percent_encode escaped
escaped_is [] small = refl
escaped_is (b ∷ bytes) small =
    let here = escapes b (All-head (λ n. n < 256) b bytes small) in
    let rest = escaped_is bytes (All-tail (λ n. n < 256) b bytes small) in
    let one : encode_byte ESCAPED b ≡ (if is_plain b then b ∷ [] else percent_encode_byte b) =
    rw here (chosen (is_plain b) (percent_encode_byte b) (b ∷ [])) in
    ap (λ tail. encode_byte ESCAPED b ++ tail) rest ∙ ap (λ front. front ++ escaped bytes) one
