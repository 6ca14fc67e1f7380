-- How a pattern behind a star goes on from the first place at which its front fits.
use Rattle.std.proofs.Common.{◌≡◌, ◌∙◌, sym, ap, subst, ℕ, suc, ◌≤◌, Bool, true, false, ◌==◌, ◌||◌, List, [], ◌∷◌, ◌++◌, length, drop, arith, append_assoc, length-append}
use Rattle.std.proofs.lemmas.List.{drop-append-le}
use Rattle.std.proofs.lemmas.Bool.{ne_eqb}
use Rattle.glob_match.specs.Front.{FitsUpTo}
use Rattle.glob_match.specs.Glob.{is_glob_match, some_end}
use Rattle.glob_match.specs.declared.matching.TheConstants.{ANY_TEXT}
use Rattle.glob_match.proofs.JoinLemmas.{IsJoin, splits, takes_length}
use Rattle.glob_match.proofs.LawLemmas.{star_all}
use Rattle.glob_match.proofs.Steps.{PassesBehind, end_found, end_longer, end_whole, no_true, not_true, same_bool, star_is, true_and_false}

-- a star matches all the more in front of a longer text
star_longer : (p front t : List ℕ) → is_glob_match (ANY_TEXT ∷ p) t ≡ true → is_glob_match (ANY_TEXT ∷ p) (front ++ t) ≡ true
star_longer p front t h = star_is p (front ++ t) ∙ end_longer (is_glob_match p) front t (sym (star_is p t) ∙ h)

-- a pattern that some end of a text matches goes on behind its part in front of a star
goes_on : {p t rest behind : List ℕ} → FitsUpTo p t (ANY_TEXT ∷ rest) behind → PassesBehind (is_glob_match p) t
    → is_glob_match (ANY_TEXT ∷ rest) behind ≡ true
goes_on {p} {t} {rest} {behind} h found =
    let there : is_glob_match (h.part ++ ANY_TEXT ∷ rest) found.end ≡ true =
    subst (λ (x : List ℕ). is_glob_match x found.end ≡ true) h.whole found.here in
    let join : IsJoin h.part (ANY_TEXT ∷ rest) found.end = splits h.part (ANY_TEXT ∷ rest) found.end there in
    let long : length join.front ≡ length h.part = takes_length h.part join.front h.no_star join.first in
    let cut : t ≡ (found.front ++ join.front) ++ join.behind =
    found.whole ∙ (ap (λ (x : List ℕ). found.front ++ x) join.whole ∙ sym (append_assoc found.front join.front join.behind)) in
    let room : length h.part ≤ length (found.front ++ join.front) = omega (arith, length-append found.front join.front) in
    let left : behind ≡ drop (length h.part) (found.front ++ join.front) ++ join.behind =
    h.left ∙ (ap (drop (length h.part)) cut ∙ drop-append-le (length h.part) (found.front ++ join.front) join.behind room) in
    subst (λ (x : List ℕ). is_glob_match (ANY_TEXT ∷ rest) x ≡ true) (sym left)
    (star_longer rest (drop (length h.part) (found.front ++ join.front)) join.behind join.last)

-- the first place at which a front fits decides
pub first_decides : {p t rest behind : List ℕ} → FitsUpTo p t (ANY_TEXT ∷ rest) behind
    → is_glob_match (ANY_TEXT ∷ p) t ≡ is_glob_match (ANY_TEXT ∷ rest) behind
first_decides {p} {t} {rest} {behind} h =
    same_bool (is_glob_match (ANY_TEXT ∷ p) t) (is_glob_match (ANY_TEXT ∷ rest) behind)
    (λ (matched : is_glob_match (ANY_TEXT ∷ p) t ≡ true). goes_on h (end_found (is_glob_match p) t (sym (star_is p t) ∙ matched)))
    (λ (matched : is_glob_match (ANY_TEXT ∷ rest) behind ≡ true). star_is p t ∙ end_whole (is_glob_match p) t (h.same ∙ matched))

-- a front that fits the whole text
pub star_whole : (p t : List ℕ) → is_glob_match p t ≡ true → is_glob_match (ANY_TEXT ∷ p) t ≡ true
star_whole p t h = star_is p t ∙ end_whole (is_glob_match p) t h

-- where no end of a text matches, the whole doesn't
pub short_fails : (p t : List ℕ) → is_glob_match (ANY_TEXT ∷ p) t ≡ false → is_glob_match p t ≡ false
short_fails p t h = not_true (is_glob_match p t) (λ (matched : is_glob_match p t ≡ true). true_and_false (is_glob_match (ANY_TEXT ∷ p) t) (star_whole p t matched) h)

-- a front that doesn't fit at the end of a text
pub star_ends : (p t : List ℕ) → length t ≡ 0 → is_glob_match p t ≡ false → is_glob_match (ANY_TEXT ∷ p) t ≡ false
star_ends p [] none h = star_is p [] ∙ h
star_ends p (c ∷ t) none h = absurd (omega arith)

-- a front that doesn't fit here is looked for behind the next character
pub star_goes_on : (p t : List ℕ) (c : ℕ) (behind : List ℕ) → t ≡ c ∷ behind → is_glob_match p t ≡ false
    → is_glob_match (ANY_TEXT ∷ p) t ≡ is_glob_match (ANY_TEXT ∷ p) behind
star_goes_on p t c behind is h =
    let there : is_glob_match p (c ∷ behind) ≡ false = subst (λ (x : List ℕ). is_glob_match p x ≡ false) is h in
    ap (is_glob_match (ANY_TEXT ∷ p)) is
    ∙ ((star_is p (c ∷ behind) ∙ ap (λ (b : Bool). b || some_end (is_glob_match p) behind) there) ∙ sym (star_is p behind))

-- a star with nothing behind it matches each text
pub star_alone : (p t : List ℕ) → (length p == 0) ≡ true → is_glob_match (ANY_TEXT ∷ p) t ≡ true
star_alone [] t none = star_all t
star_alone (w ∷ p) t none = no_true (sym (ne_eqb (suc (length p)) 0 (λ (e : suc (length p) ≡ 0). omega arith)) ∙ none)
