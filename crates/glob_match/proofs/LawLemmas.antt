-- The laws of glob patterns.
use Rattle.std.proofs.Common.{◌≡◌, ◌≢◌, ◌∙◌, sym, ap, subst, ℕ, suc, ◌==◌, true, ◌&&◌, inl, inr, List, [], ◌∷◌, ◌++◌, length, codes, All, refl, arith}
use Rattle.std.proofs.lemmas.Bool.{cases_Bool, eqb-false, eqb-true, ne_eqb, or_cases, or_right}
use Rattle.std.proofs.lemmas.List.Elements.{All-head, All-tail}
use Rattle.glob_match.specs.Glob.{is_glob_match, some_end, stands_for}
use Rattle.glob_match.specs.Laws.{GlobLaws, IsCutBy}
use Rattle.glob_match.specs.declared.matching.TheConstants.{ANY_TEXT}
use Rattle.glob_match.proofs.JoinLemmas.{IsJoin, joins, splits}
use Rattle.glob_match.proofs.Steps.{PassesBehind, and_left, and_right, and_true, end_at, end_found, no_true, nothing_fits, nothing_is, other_is, star_is}

all_end : (t : List ℕ) → some_end (is_glob_match []) t ≡ true
unfolding is_glob_match
all_end [] = refl
all_end (c ∷ t) = all_end t

-- a star alone matches each text
pub star_all : (t : List ℕ) → is_glob_match (ANY_TEXT ∷ []) t ≡ true
star_all t = star_is [] t ∙ all_end t

one_character : (t : List ℕ) → is_glob_match (codes "?") t ≡ (length t == 1)
unfolding is_glob_match
one_character [] = refl
one_character (c ∷ []) = refl
one_character (c ∷ d ∷ t) = sym (ne_eqb (suc (suc (length t))) 1 (λ (e : suc (suc (length t)) ≡ 1). omega arith))

equal_itself : (n : ℕ) → (n == n) ≡ true
equal_itself n = elim (cases_Bool (n == n)) [ inl same ↦ same | inr other ↦ absurd (eqb-false n n other refl) ]

-- a character that is no wildcard stands for itself alone
stands_itself : (w c : ℕ) → w ≢ 63 → stands_for w c ≡ true → c ≡ w
stands_itself w c plain h =
    elim (or_cases (w == 63) (w == c) h) [
      | inl any ↦ no_true (sym (ne_eqb w 63 plain) ∙ any)
      | inr same ↦ sym (eqb-true w c same)
    ]

abbrev IsPlain : ℕ → Type 0
IsPlain c = (c ≢ 42) × (c ≢ 63)

matches_itself : (p : List ℕ) → All IsPlain p → is_glob_match p p ≡ true
matches_itself [] plain = nothing_fits
matches_itself (w ∷ p) plain =
    let first : IsPlain w = All-head IsPlain w p plain in
    other_is w p (w ∷ p) first.0 ∙ (and_true (stands_for w w) (is_glob_match p p) (or_right (w == 63) (w == w) (equal_itself w))
    ∙ matches_itself p (All-tail IsPlain w p plain))

matches_same : (p t : List ℕ) → All IsPlain p → t ≡ p → is_glob_match p t ≡ true
matches_same p t plain same = subst (λ (x : List ℕ). is_glob_match p x ≡ true) (sym same) (matches_itself p plain)

itself_alone : (p t : List ℕ) → All IsPlain p → is_glob_match p t ≡ true → t ≡ p
itself_alone [] t plain h = nothing_is t h
itself_alone (w ∷ p) [] plain h = let first : IsPlain w = All-head IsPlain w p plain in no_true (sym (other_is w p [] first.0) ∙ h)
itself_alone (w ∷ p) (c ∷ t) plain h =
    let first : IsPlain w = All-head IsPlain w p plain in
    let both : (stands_for w c && is_glob_match p t) ≡ true = sym (other_is w p (c ∷ t) first.0) ∙ h in
    let same : c ≡ w = stands_itself w c first.1 (and_left (stands_for w c) (is_glob_match p t) both) in
    let rest : t ≡ p = itself_alone p t (All-tail IsPlain w p plain) (and_right (stands_for w c) (is_glob_match p t) both) in
    cc

star_cuts : (p q t : List ℕ) → is_glob_match (p ++ (codes "*" ++ q)) t ≡ true → IsCutBy p q t
star_cuts p q t h =
    let join : IsJoin p (ANY_TEXT ∷ q) t = splits p (ANY_TEXT ∷ q) t h in
    let found : PassesBehind (is_glob_match q) join.behind = end_found (is_glob_match q) join.behind (sym (star_is q join.behind) ∙ join.last) in
    record {
      front = join.front;
      between = found.front;
      behind = found.end;
      whole = join.whole ∙ ap (λ (x : List ℕ). join.front ++ x) found.whole;
      first = join.first;
      last = found.here;
    }

cut_matches : (p q t : List ℕ) → IsCutBy p q t → is_glob_match (p ++ (codes "*" ++ q)) t ≡ true
cut_matches p q t cut =
    subst (λ (x : List ℕ). is_glob_match (p ++ (codes "*" ++ q)) x ≡ true) (sym cut.whole)
    (joins p (ANY_TEXT ∷ q) cut.front (cut.between ++ cut.behind) cut.first
    (star_is q (cut.between ++ cut.behind) ∙ end_at (is_glob_match q) cut.between cut.behind cut.last))

pub glob_laws : GlobLaws
glob_laws = record {
  any_text = star_all;
  any_character = one_character;
  itself = λ p t plain. (itself_alone p t plain, matches_same p t plain);
  star = λ p q t. (star_cuts p q t, cut_matches p q t);
}
