-- How far the part of a pattern in front of its first star was compared.
use Rattle.std.proofs.Common.{◌≡◌, ◌≢◌, ◌∙◌, sym, ap, subst, ℕ, suc, ◌+◌, ◌≤◌, Bool, true, false, ◌==◌, ◌&&◌, List, [], ◌∷◌, ◌++◌, length, drop, refl, arith, append_assoc, length-append, length-drop}
use Rattle.std.proofs.lemmas.Bool.{ne_eqb}
use Rattle.std.proofs.lemmas.List.{drop-drop}
use Rattle.std.proofs.lemmas.List.Elements.{All-nil, All-push}
use Rattle.glob_match.specs.Front.{FitsUpTo}
use Rattle.glob_match.specs.Glob.{is_glob_match, stands_for}
use Rattle.glob_match.specs.Last.{HasNoStar}
use Rattle.glob_match.specs.declared.matching.TheConstants.{ANY_TEXT}
use Rattle.glob_match.proofs.JoinLemmas.{IsJoin, splits, takes_length}
use Rattle.glob_match.proofs.Steps.{PassesBehind, and_true, end_found, not_true, other_is, star_is}

-- a front fits before anything was compared
pub fits_nothing : (pattern text : List ℕ) → FitsUpTo pattern text pattern text
fits_nothing pattern text = record { part = []; whole = refl; no_star = All-nil (λ (c : ℕ). c ≢ ANY_TEXT); left = refl; same = refl }

-- one more character fits
fits_more : {pattern text rest behind : List ℕ} (w c : ℕ) → w ≢ ANY_TEXT → stands_for w c ≡ true
    → FitsUpTo pattern text (w ∷ rest) (c ∷ behind) → FitsUpTo pattern text rest behind
fits_more {pattern} {text} {rest} {behind} w c other takes h = record {
  part = h.part ++ w ∷ [];
  whole = h.whole ∙ sym (append_assoc h.part (w ∷ []) rest);
  no_star = All-push (λ (c : ℕ). c ≢ ANY_TEXT) h.part w h.no_star other;
  left = (ap (drop 1) h.left ∙ drop-drop 1 (length h.part) text) ∙ ap (λ (n : ℕ). drop n text) (sym (length-append h.part (w ∷ [])));
  same = h.same ∙ (other_is w rest (c ∷ behind) other ∙ and_true (stands_for w c) (is_glob_match rest behind) takes);
}

-- the same of a pattern and a text whose first characters were read
pub fits_on : (pattern text p t : List ℕ) (w : ℕ) (rest : List ℕ) (c : ℕ) (behind : List ℕ) → p ≡ w ∷ rest → t ≡ c ∷ behind
    → w ≢ ANY_TEXT → stands_for w c ≡ true → FitsUpTo pattern text p t → FitsUpTo pattern text rest behind
fits_on pattern text p t w rest c behind is text_is other takes h =
    fits_more w c other takes
    (subst (λ (x : List ℕ). FitsUpTo pattern text (w ∷ rest) x) text_is (subst (λ (x : List ℕ). FitsUpTo pattern text x t) is h))

-- a pattern that has ended matches an empty text alone
pub ended : (p t : List ℕ) → length p ≡ 0 → is_glob_match p t ≡ (length t == 0)
unfolding is_glob_match
ended [] [] none = refl
ended [] (c ∷ t) none = sym (ne_eqb (suc (length t)) 0 (λ (e : suc (length t) ≡ 0). omega arith))
ended (w ∷ p) t none = absurd (omega arith)

-- a character that doesn't stand for the one in its place
pub takes_none : (p : List ℕ) (w : ℕ) (rest t : List ℕ) (c : ℕ) (behind : List ℕ) → p ≡ w ∷ rest → t ≡ c ∷ behind → w ≢ ANY_TEXT
    → stands_for w c ≡ false → is_glob_match p t ≡ false
takes_none p w rest t c behind is text other fails =
    (ap (λ (x : List ℕ). is_glob_match x t) is ∙ ap (is_glob_match (w ∷ rest)) text)
    ∙ (other_is w rest (c ∷ behind) other ∙ ap (λ (b : Bool). b && is_glob_match rest behind) fails)

-- a text that is no longer than a part without a star has no end that the part and a further character match
no_room : (part : List ℕ) (w : ℕ) (rest text : List ℕ) → HasNoStar part → w ≢ ANY_TEXT → length text ≤ length part
    → is_glob_match (ANY_TEXT ∷ (part ++ w ∷ rest)) text ≡ true → ⊥
no_room part w rest text none other short matched =
    let found : PassesBehind (is_glob_match (part ++ w ∷ rest)) text =
    end_found (is_glob_match (part ++ w ∷ rest)) text (sym (star_is (part ++ w ∷ rest) text) ∙ matched) in
    let longer : HasNoStar (part ++ w ∷ []) = All-push (λ (c : ℕ). c ≢ ANY_TEXT) part w none other in
    let there : is_glob_match ((part ++ w ∷ []) ++ rest) found.end ≡ true =
    subst (λ (x : List ℕ). is_glob_match x found.end ≡ true) (sym (append_assoc part (w ∷ []) rest)) found.here in
    let join : IsJoin (part ++ w ∷ []) rest found.end = splits (part ++ w ∷ []) rest found.end there in
    let long : length join.front ≡ length (part ++ w ∷ []) = takes_length (part ++ w ∷ []) join.front longer join.first in
    let more : length (part ++ w ∷ []) ≡ length part + 1 = length-append part (w ∷ []) in
    let all : length text ≡ length found.front + length found.end = ap length found.whole ∙ length-append found.front found.end in
    let end : length found.end ≡ length join.front + length join.behind = ap length join.whole ∙ length-append join.front join.behind in
    omega arith

-- the text has ended where a character that is no star wants one
pub too_short : (pattern text p t : List ℕ) (w : ℕ) (rest : List ℕ) → p ≡ w ∷ rest → w ≢ ANY_TEXT → length t ≡ 0
    → FitsUpTo pattern text p t → is_glob_match (ANY_TEXT ∷ pattern) text ≡ false
too_short pattern text p t w rest is other none h =
    let short : length text ≤ length h.part = omega (arith, ap length h.left, length-drop (length h.part) text) in
    let whole : pattern ≡ h.part ++ w ∷ rest = h.whole ∙ ap (λ (x : List ℕ). h.part ++ x) is in
    not_true (is_glob_match (ANY_TEXT ∷ pattern) text)
    (λ (matched : is_glob_match (ANY_TEXT ∷ pattern) text ≡ true). no_room h.part w rest text h.no_star other short
    (subst (λ (x : List ℕ). is_glob_match (ANY_TEXT ∷ x) text ≡ true) whole matched))
