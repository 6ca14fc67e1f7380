-- Two patterns one behind the other match a text that is cut in two, and a part without a star takes its own length.
use Rattle.std.proofs.Common.{◌≡◌, ◌≢◌, ◌∙◌, sym, ap, subst, ℕ, suc, true, inl, inr, List, [], ◌∷◌, ◌++◌, length, refl, append_assoc}
use Rattle.std.proofs.lemmas.Bool.{cases_eq}
use Rattle.std.proofs.lemmas.List.Elements.{All-head, All-tail}
use Rattle.glob_match.specs.Glob.{first_and_rest, is_glob_match, stands_for}
use Rattle.glob_match.specs.Last.{HasNoStar}
use Rattle.glob_match.specs.declared.matching.TheConstants.{ANY_TEXT}
use Rattle.glob_match.proofs.Steps.{PassesBehind, and_left, and_right, and_true, end_at, end_found, no_true, nothing_fits, nothing_is, other_is, star_is}

-- a text is cut into one that the first pattern matches and one that the second matches
pub record IsJoin (p q text : List ℕ) : Type 0 where
  pub front : List ℕ
  pub behind : List ℕ
  pub whole : text ≡ front ++ behind
  pub first : is_glob_match p front ≡ true
  pub last : is_glob_match q behind ≡ true

-- one more character in front of both that the pattern's first one stands for
join_more : (w c : ℕ) (p q t : List ℕ) → w ≢ ANY_TEXT → stands_for w c ≡ true → IsJoin p q t → IsJoin (w ∷ p) q (c ∷ t)
join_more w c p q t other takes j = record {
  front = c ∷ j.front;
  behind = j.behind;
  whole = ap (λ (x : List ℕ). c ∷ x) j.whole;
  first = other_is w p (c ∷ j.front) other ∙ (and_true (stands_for w c) (is_glob_match p j.front) takes ∙ j.first);
  last = j.last;
}

-- any text in front of both that a star takes
join_star : (p q t : List ℕ) → (e : PassesBehind (is_glob_match (p ++ q)) t) → IsJoin p q e.end → IsJoin (ANY_TEXT ∷ p) q t
join_star p q t e j = record {
  front = e.front ++ j.front;
  behind = j.behind;
  whole = e.whole ∙ (ap (λ (x : List ℕ). e.front ++ x) j.whole ∙ sym (append_assoc e.front j.front j.behind));
  first = star_is p (e.front ++ j.front) ∙ end_at (is_glob_match p) e.front j.front j.first;
  last = j.last;
}

split_other : (w : ℕ) (p q t : List ℕ) → w ≢ ANY_TEXT → ((s : List ℕ) → is_glob_match (p ++ q) s ≡ true → IsJoin p q s)
    → first_and_rest (stands_for w) (is_glob_match (p ++ q)) t ≡ true → IsJoin (w ∷ p) q t
split_other w p q [] other rest h = no_true h
split_other w p q (c ∷ t) other rest h =
    join_more w c p q t other (and_left (stands_for w c) (is_glob_match (p ++ q) t) h)
    (rest t (and_right (stands_for w c) (is_glob_match (p ++ q) t) h))

-- what two patterns match that stand one behind the other is so cut
pub splits : (p q t : List ℕ) → is_glob_match (p ++ q) t ≡ true → IsJoin p q t
splits [] q t h = record { front = []; behind = t; whole = refl; first = nothing_fits; last = h }
splits (w ∷ p) q t h =
    elim (cases_eq w ANY_TEXT) [
      | inl star ↦
          let starred : is_glob_match (ANY_TEXT ∷ (p ++ q)) t ≡ true = subst (λ (x : ℕ). is_glob_match (x ∷ (p ++ q)) t ≡ true) star h in
          let found : PassesBehind (is_glob_match (p ++ q)) t = end_found (is_glob_match (p ++ q)) t (sym (star_is (p ++ q) t) ∙ starred) in
          subst (λ (x : ℕ). IsJoin (x ∷ p) q t) (sym star) (join_star p q t found (splits p q found.end found.here))
      | inr other ↦ split_other w p q t other (splits p q) (sym (other_is w (p ++ q) t other) ∙ h)
    ]

-- a star in front, before a text that is joined
joins_star : (p q a b : List ℕ) → ((s : List ℕ) → is_glob_match p s ≡ true → is_glob_match (p ++ q) (s ++ b) ≡ true)
    → PassesBehind (is_glob_match p) a → is_glob_match (ANY_TEXT ∷ (p ++ q)) (a ++ b) ≡ true
joins_star p q a b rest e =
    let same : a ++ b ≡ e.front ++ (e.end ++ b) = ap (λ (x : List ℕ). x ++ b) e.whole ∙ append_assoc e.front e.end b in
    subst (λ (x : List ℕ). is_glob_match (ANY_TEXT ∷ (p ++ q)) x ≡ true) (sym same)
    (star_is (p ++ q) (e.front ++ (e.end ++ b)) ∙ end_at (is_glob_match (p ++ q)) e.front (e.end ++ b) (rest e.end e.here))

joins_other : (w : ℕ) (p q a b : List ℕ) → w ≢ ANY_TEXT
    → ((s : List ℕ) → is_glob_match p s ≡ true → is_glob_match (p ++ q) (s ++ b) ≡ true)
    → first_and_rest (stands_for w) (is_glob_match p) a ≡ true → is_glob_match (w ∷ (p ++ q)) (a ++ b) ≡ true
joins_other w p q [] b other rest h = no_true h
joins_other w p q (c ∷ a) b other rest h =
    other_is w (p ++ q) (c ∷ (a ++ b)) other
    ∙ (and_true (stands_for w c) (is_glob_match (p ++ q) (a ++ b)) (and_left (stands_for w c) (is_glob_match p a) h)
    ∙ rest a (and_right (stands_for w c) (is_glob_match p a) h))

-- what is so cut, two patterns match that stand one behind the other
pub joins : (p q a b : List ℕ) → is_glob_match p a ≡ true → is_glob_match q b ≡ true → is_glob_match (p ++ q) (a ++ b) ≡ true
joins [] q a b first last = subst (λ (x : List ℕ). is_glob_match q (x ++ b) ≡ true) (sym (nothing_is a first)) last
joins (w ∷ p) q a b first last =
    elim (cases_eq w ANY_TEXT) [
      | inl star ↦
          let starred : is_glob_match (ANY_TEXT ∷ p) a ≡ true = subst (λ (x : ℕ). is_glob_match (x ∷ p) a ≡ true) star first in
          subst (λ (x : ℕ). is_glob_match (x ∷ (p ++ q)) (a ++ b) ≡ true) (sym star)
          (joins_star p q a b (λ (s : List ℕ) (h : is_glob_match p s ≡ true). joins p q s b h last)
          (end_found (is_glob_match p) a (sym (star_is p a) ∙ starred)))
      | inr other ↦
          joins_other w p q a b other (λ (s : List ℕ) (h : is_glob_match p s ≡ true). joins p q s b h last)
          (sym (other_is w p a other) ∙ first)
    ]

-- the text that a part without a star matches is as long as the part
pub takes_length : (part t : List ℕ) → HasNoStar part → is_glob_match part t ≡ true → length t ≡ length part
takes_length [] t none h = ap length (nothing_is t h)
takes_length (w ∷ part) [] none h =
    no_true (sym (other_is w part [] (All-head (λ (c : ℕ). c ≢ ANY_TEXT) w part none)) ∙ h)
takes_length (w ∷ part) (c ∷ t) none h =
    ap suc (takes_length part t (All-tail (λ (c : ℕ). c ≢ ANY_TEXT) w part none)
    (and_right (stands_for w c) (is_glob_match part t) (sym (other_is w part (c ∷ t) (All-head (λ (c : ℕ). c ≢ ANY_TEXT) w part none)) ∙ h)))
