-- The part of a pattern behind its last star stands at the text's end.
use Rattle.std.proofs.Common.{◌≡◌, ◌≢◌, ◌∙◌, sym, ap, subst, ℕ, ◌+◌, ◌<◌, true, false, List, [], ◌∷◌, ◌++◌, length, drop, take, get_or, refl, arith, length-append}
use Rattle.std.proofs.lemmas.List.{drop_at, drop_more, take_at}
use Rattle.std.proofs.lemmas.List.Elements.{All-cons, All-head, All-tail}
use Rattle.glob_match.specs.Front.{FitsUpTo, MatchesFront}
use Rattle.glob_match.specs.declared.front.Front.{Front}
use Rattle.glob_match.specs.declared.front.Front.TheVariants.{Fails, Short, Star, Whole}
use Rattle.glob_match.specs.Glob.{is_glob_match}
use Rattle.glob_match.specs.Last.{EndsIn, HasNoEnd, HasNoStar}
use Rattle.glob_match.specs.declared.matching.TheConstants.{ANY_TEXT}
use Rattle.glob_match.proofs.JoinLemmas.{IsJoin, joins, splits, takes_length}
use Rattle.glob_match.proofs.PartLemmas.{short_fails}
use Rattle.glob_match.proofs.Steps.{not_true, same_bool, true_and_false}

-- a text that is shorter than a part without a star has no end that it matches
pub no_room_for : (part text : List ℕ) → HasNoStar part → length text < length part → HasNoEnd part text
no_room_for part text none short = λ (front end : List ℕ) (whole : text ≡ front ++ end).
    not_true (is_glob_match part end) (λ (matched : is_glob_match part end ≡ true).
    let long : length end ≡ length part = takes_length part end none matched in
    let all : length text ≡ length front + length end = ap length whole ∙ length-append front end in
    omega arith)

-- a part without a star matches no end, where it doesn't match the one that is as long as it
pub one_place : (part text : List ℕ) (at : ℕ) → HasNoStar part → at + length part ≡ length text
    → is_glob_match part (drop at text) ≡ false → HasNoEnd part text
one_place part text at none room fails = λ (front end : List ℕ) (whole : text ≡ front ++ end).
    not_true (is_glob_match part end) (λ (matched : is_glob_match part end ≡ true).
    let long : length end ≡ length part = takes_length part end none matched in
    let all : length text ≡ length front + length end = ap length whole ∙ length-append front end in
    let place : length front ≡ at = omega arith in
    let same : drop at text ≡ end = ap (drop at) whole ∙ drop_at front end at place in
    true_and_false (is_glob_match part end) matched (subst (λ (x : List ℕ). is_glob_match part x ≡ false) same fails))

-- no star stands in a part without one
no_star_in : (p rest : List ℕ) → HasNoStar (p ++ ANY_TEXT ∷ rest) → ⊥
no_star_in [] rest none = All-head (λ (c : ℕ). c ≢ ANY_TEXT) ANY_TEXT rest none refl
no_star_in (w ∷ p) rest none = no_star_in p rest (All-tail (λ (c : ℕ). c ≢ ANY_TEXT) w (p ++ ANY_TEXT ∷ rest) none)

pub never_star : {X : Type 0} {part text rest behind : List ℕ} → HasNoStar part → FitsUpTo part text (ANY_TEXT ∷ rest) behind → X
never_star {X} {part} {text} {rest} {behind} none h = absurd (no_star_in h.part rest (subst (λ (x : List ℕ). HasNoStar x) h.whole none))

-- one more character in front of a part without a star
pub one_more : (xs : List ℕ) (i : ℕ) (d : ℕ) → i < length xs → get_or xs i d ≢ ANY_TEXT → HasNoStar (drop (i + 1) xs)
    → HasNoStar (drop i xs)
one_more xs i d room other none =
    subst (λ (x : List ℕ). HasNoStar x) (sym (drop_more xs i d room))
    (All-cons (λ (c : ℕ). c ≢ ANY_TEXT) (get_or xs i d) (drop (i + 1) xs) other none)

-- what a part without a star doesn't fit wholly, it doesn't match
pub last_none : (part end : List ℕ) (front : Front) → HasNoStar part → MatchesFront part end front → (front ≡ Whole → ⊥)
    → is_glob_match part end ≡ false
last_none part end (Star rest behind) none h other = never_star none h
last_none part end Whole none h other = absurd (other refl)
last_none part end Short none h other = short_fails part end h
last_none part end Fails none h other = h

-- with the part behind the last star taken from the text's end, the rest decides
last_decides : (parts last text front : List ℕ) → HasNoStar last → EndsIn last text front
    → is_glob_match (ANY_TEXT ∷ (parts ++ last)) text ≡ is_glob_match (ANY_TEXT ∷ parts) front
last_decides parts last text front none h =
    same_bool (is_glob_match (ANY_TEXT ∷ (parts ++ last)) text) (is_glob_match (ANY_TEXT ∷ parts) front)
    (λ (matched : is_glob_match (ANY_TEXT ∷ (parts ++ last)) text ≡ true).
    let join : IsJoin (ANY_TEXT ∷ parts) last text = splits (ANY_TEXT ∷ parts) last text matched in
    let long : length join.behind ≡ length h.end =
    takes_length last join.behind none join.last ∙ sym (takes_length last h.end none h.matches) in
    let one : length text ≡ length join.front + length join.behind = ap length join.whole ∙ length-append join.front join.behind in
    let other : length text ≡ length front + length h.end = ap length h.whole ∙ length-append front h.end in
    let place : length join.front ≡ length front = omega arith in
    let same : join.front ≡ front =
    sym (take_at join.front join.behind (length front) place)
    ∙ (ap (take (length front)) (sym join.whole ∙ h.whole) ∙ take_at front h.end (length front) refl) in
    subst (λ (x : List ℕ). is_glob_match (ANY_TEXT ∷ parts) x ≡ true) same join.first)
    (λ (matched : is_glob_match (ANY_TEXT ∷ parts) front ≡ true).
    subst (λ (x : List ℕ). is_glob_match (ANY_TEXT ∷ (parts ++ last)) x ≡ true) (sym h.whole)
    (joins (ANY_TEXT ∷ parts) last front h.end matched h.matches))

-- where it matches no end, nothing matches
last_fails : (parts last text : List ℕ) → HasNoEnd last text → is_glob_match (ANY_TEXT ∷ (parts ++ last)) text ≡ false
last_fails parts last text none =
    not_true (is_glob_match (ANY_TEXT ∷ (parts ++ last)) text) (λ (matched : is_glob_match (ANY_TEXT ∷ (parts ++ last)) text ≡ true).
    let join : IsJoin (ANY_TEXT ∷ parts) last text = splits (ANY_TEXT ∷ parts) last text matched in
    true_and_false (is_glob_match last join.behind) join.last (none join.front join.behind join.whole))

-- the same of a pattern that is split into them
pub cut_decides : (pattern parts last text front : List ℕ) → pattern ≡ parts ++ last → HasNoStar last → EndsIn last text front
    → is_glob_match (ANY_TEXT ∷ pattern) text ≡ is_glob_match (ANY_TEXT ∷ parts) front
cut_decides pattern parts last text front whole none h =
    ap (λ (x : List ℕ). is_glob_match (ANY_TEXT ∷ x) text) whole ∙ last_decides parts last text front none h

pub cut_fails : (pattern parts last text : List ℕ) → pattern ≡ parts ++ last → HasNoEnd last text
    → is_glob_match (ANY_TEXT ∷ pattern) text ≡ false
cut_fails pattern parts last text whole none =
    ap (λ (x : List ℕ). is_glob_match (ANY_TEXT ∷ x) text) whole ∙ last_fails parts last text none
