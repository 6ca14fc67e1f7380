-- Where bytes are cut, and that they are cut in one way.
use Rattle.std.proofs.Common.{◌≡◌, ◌≢◌, ◌∙◌, sym, ap, subst, ℕ, ◌+◌, ◌-◌, ◌<◌, ◌≤◌, Bool, true, false, ◌==◌, List, [], ◌∷◌, ◌++◌, length, take, drop, get_or, All, Option, Some, None, refl, arith, cond, nat_lt, nat_eq, Bor}
use Rattle.std.specs.Prelude.{MatchOption}
use Rattle.std.specs.List.{position, position_or_len}
use Rattle.std.specs.Cmp.Lexicographic.{other_text, pointwise, same_text}
use Rattle.std.proofs.lemmas.Bool.{eqb-false, eqb-true, ltb-false}
use Rattle.std.proofs.lemmas.List.{drop_more, get_or-take, length-take-le, take-append-drop, take_at, take_rest}
use Rattle.std.proofs.lemmas.List.Elements.{All-from_get_or, All-head, All-tail}
use Rattle.std.proofs.lemmas.List.Quantifiers.{position-Some}
use Rattle.std.proofs.lemmas.List.Sums.{fails_before_first}
use Rattle.metadata_query.specs.Written.{HasQuery, IsCutAt, IsHalved}

mark_in : (mark : ℕ) (front behind : List ℕ) → All (λ b. b ≢ mark) (front ++ mark ∷ behind) → ⊥
mark_in mark [] behind none = All-head (λ b. b ≢ mark) mark behind none refl
mark_in mark (c ∷ front) behind none = mark_in mark front behind (All-tail (λ b. b ≢ mark) c (front ++ mark ∷ behind) none)

-- bytes have a mark where they are cut
pub holds_mark : {mark : ℕ} {bytes front behind : List ℕ} → IsCutAt mark bytes front behind → All (λ b. b ≢ mark) bytes → ⊥
holds_mark {mark} {bytes} {front} {behind} cut none =
    mark_in mark front behind (subst (λ (x : List ℕ). All (λ b. b ≢ mark) x) cut.whole none)

-- they are cut at one place
one_cut : (mark : ℕ) (f g b c : List ℕ) → All (λ n. n ≢ mark) f → All (λ n. n ≢ mark) g → f ++ mark ∷ b ≡ g ++ mark ∷ c → (f ≡ g) × (b ≡ c)
one_cut mark [] [] b c none other same = (refl, cc)
one_cut mark [] (w ∷ g) b c none other same =
    let is : w ≡ mark = cc in absurd (All-head (λ n. n ≢ mark) w g other is)
one_cut mark (v ∷ f) [] b c none other same =
    let is : v ≡ mark = cc in absurd (All-head (λ n. n ≢ mark) v f none is)
one_cut mark (v ∷ f) (w ∷ g) b c none other same =
    let first : v ≡ w = cc in
    let rest : f ++ mark ∷ b ≡ g ++ mark ∷ c = cc in
    let both : (f ≡ g) × (b ≡ c) =
    one_cut mark f g b c (All-tail (λ n. n ≢ mark) v f none) (All-tail (λ n. n ≢ mark) w g other) rest in
    let fronts : f ≡ g = both.0 in
    (cc, both.1)

pub cut_one : {mark : ℕ} {bytes f g b c : List ℕ} → IsCutAt mark bytes f b → IsCutAt mark bytes g c → (f ≡ g) × (b ≡ c)
cut_one {mark} {bytes} {f} {g} {b} {c} h k = one_cut mark f g b c h.none k.none (sym h.whole ∙ k.whole)

-- the first place of a mark is where they are cut
pub cut_here : (mark : ℕ) (bytes front behind : List ℕ) (at : ℕ) → position (λ b. b == mark) bytes ≡ Some at
    → front ≡ take at bytes → behind ≡ drop (at + 1) bytes → IsCutAt mark bytes front behind
cut_here mark bytes front behind at found fronts rest =
    let place : (at < length bytes) × ((get_or bytes at 0 == mark) ≡ true) × ((k : ℕ) → k < at → (get_or bytes k 0 == mark) ≡ false) =
    position-Some (λ b. b == mark) bytes at 0 found in
    let there : get_or bytes at 0 ≡ mark = eqb-true (get_or bytes at 0) mark place.1 in
    let more : drop at bytes ≡ get_or bytes at 0 ∷ drop (at + 1) bytes = drop_more bytes at 0 place.0 in
    let long : length (take at bytes) ≡ at = length-take-le at bytes (omega arith) in
    record {
      whole = sym (take-append-drop at bytes) ∙ (ap (λ (x : List ℕ). take at bytes ++ x) (more ∙ ap (λ (x : ℕ). x ∷ drop (at + 1) bytes) there)
          ∙ (ap (λ (x : List ℕ). x ++ mark ∷ drop (at + 1) bytes) (sym fronts) ∙ ap (λ (x : List ℕ). front ++ mark ∷ x) (sym rest)));
      none = subst (λ (x : List ℕ). All (λ b. b ≢ mark) x) (sym fronts)
          (All-from_get_or (λ b. b ≢ mark) (take at bytes) 0 (λ (k : ℕ) (within : k < length (take at bytes)).
          let below : k < at = omega arith in
          subst (λ (x : ℕ). x ≢ mark) (sym (get_or-take at bytes k 0 below)) (eqb-false (get_or bytes k 0) mark (place.2 k below))));
    }

none_below : (b : Bool) (n : ℕ) → cond b (Some n) None ≡ None → b ≡ false
none_below true n same = cc
none_below false n same = refl

-- no place of a mark
pub no_mark : (mark : ℕ) (bytes : List ℕ) → position (λ b. b == mark) bytes ≡ None → All (λ b. b ≢ mark) bytes
no_mark mark bytes none =
    let first : ℕ = position_or_len (λ (b : ℕ). b == mark) bytes in
    let past : length bytes ≤ first = ltb-false first (length bytes) (none_below (nat_lt first (length bytes)) first none) in
    All-from_get_or (λ b. b ≢ mark) bytes 0 (λ (k : ℕ) (within : k < length bytes).
    let below : k < first = omega arith in
    eqb-false (get_or bytes k 0) mark (fails_before_first (λ (b : ℕ). b == mark) bytes k 0 below))

-- the parts of a query are one pair
pub halved_one : {query f g b c : List ℕ} → IsHalved query f b → IsHalved query g c → (f ≡ g) × (b ≡ c)
halved_one h k = cut_one h.cut k.cut

-- a query that is cut at a mark, behind which a further one stands, isn't halved
pub no_halves : {query front behind f b : List ℕ} → IsCutAt 38 query f b → IsCutAt 38 b front behind
    → (first second : List ℕ) → ¬ (IsHalved query first second)
no_halves {query} {front} {behind} {f} {b} cut more first second halved =
    holds_mark more (subst (λ (x : List ℕ). All (λ n. n ≢ 38) x) (sym (cut_one cut halved.cut).1) halved.no_other)

-- the bytes begin with a front, or they don't
pub strips : (bytes front : List ℕ) (result : Option (Bor (List ℕ)))
    → MatchOption result (pointwise nat_eq (take (length front) bytes) front ≡ false)
    (λ x. (pointwise nat_eq (take (length front) bytes) front ≡ true) × (x.now ≡ drop (length front) bytes) × (length x.now + length front ≡ length bytes))
    → MatchOption result ((rest : List ℕ) → ¬ (bytes ≡ front ++ rest)) (λ rest. bytes ≡ front ++ rest.now)
strips bytes front None told =
    λ (rest : List ℕ) (whole : bytes ≡ front ++ rest).
    other_text (take (length front) bytes) front (sym told)
    (ap (take (length front)) whole ∙ take_at front rest (length front) refl)
strips bytes front (Some x) told =
    sym (take-append-drop (length front) bytes)
    ∙ (ap (λ (t : List ℕ). t ++ drop (length front) bytes) (same_text (take (length front) bytes) front (sym told.0))
    ∙ ap (λ (t : List ℕ). front ++ t) (sym told.1))

-- bytes are cut at the place that was found
pub cut_there : (mark : ℕ) (bytes : List ℕ) (at : ℕ) → position (λ b. b == mark) bytes ≡ Some at
    → IsCutAt mark bytes (take at bytes) (take (length bytes - (at + 1)) (drop (at + 1) bytes))
cut_there mark bytes at found =
    cut_here mark bytes (take at bytes) (take (length bytes - (at + 1)) (drop (at + 1) bytes)) at found refl (take_rest bytes (at + 1))

-- a query with no mark is not halved, and a target with none has no query
pub not_halved : (query : List ℕ) → All (λ b. b ≢ 38) query → (first second : List ℕ) → ¬ (IsHalved query first second)
not_halved query none first second halved = holds_mark halved.cut none

pub not_there : (target : List ℕ) → All (λ b. b ≢ 63) target → (query : List ℕ) → ¬ (HasQuery target query)
not_there target none query has = holds_mark has.cut none
