-- Counting what is known or lies in one of some ranges, run by run.
use Rattle.std.proofs.Common.{◌≡◌, sym, ◌∙◌, ap, refl, ℕ, ◌+◌, ◌-◌, ◌<◌, ◌≤◌, ◌⊎◌, inl, inr, ◌&&◌, ◌||◌, not, Bool, true, false, List, [], ◌∷◌, length, get_or, take, All, arith, Option, Some, None}
use Rattle.std.proofs.lemmas.Bool.{cases_lt}
use Rattle.std.proofs.lemmas.List.Elements.{All-head, All-tail}
use Rattle.std.proofs.lemmas.List.Folds.{list_any_more}
use Rattle.file_picture.specs.Counts.{count_in, is_known, is_unknown, is_inside, is_among, is_known_or_among, IsRun, IsFirstRun}
use Rattle.file_picture.specs.Picture.{PictureFacts, IsPicture, sum_of}
use Rattle.file_picture.specs.declared.view.Need.{Need}
use Rattle.file_picture.proofs.CountLemmas.{count-split, count-same, count-none, count-most, count-either, count-pieces, below_not}

-- such places that are such places of another kind too
same_run : (is other : ℕ → Bool) (place : ℕ) → ((q : ℕ) → is q ≡ other q) → (run : Option (ℕ × ℕ)) → IsFirstRun is place run → IsFirstRun other place run
same_run is other place same None none = λ q above. sym (same q) ∙ none q above
same_run is other place same (Some run) r = record {
  above = r.above;
  some = r.some;
  before = λ q from to. sym (same q) ∙ r.before q from to;
  inside = λ q from to. sym (same q) ∙ r.inside q from to;
}

neither_or : (a b : Bool) → a ≡ false → b ≡ false → (a || b) ≡ false
neither_or true b e f = absurd (cc)
neither_or false b e f = f

left_or : (a b : Bool) → a ≡ true → (a || b) ≡ true
left_or true b e = refl
left_or false b e = absurd (cc)

right_or : (a b : Bool) → b ≡ true → (a || b) ≡ true
right_or true b e = refl
right_or false b e = e

-- the run of so many ranges and the next one is that of one more
pub run_more : (ranges : List Need) (k : ℕ) (d : Need) (place : ℕ) (run : Option (ℕ × ℕ)) → k < length ranges
    → IsFirstRun (λ q. is_among (take k ranges) q || is_inside (get_or ranges k d).at (get_or ranges k d).len q) place run
    → IsFirstRun (is_among (take (k + 1) ranges)) place run
run_more ranges k d place run within first =
    same_run (λ q. is_among (take k ranges) q || is_inside (get_or ranges k d).at (get_or ranges k d).len q) (is_among (take (k + 1) ranges)) place
    (λ q. sym (list_any_more (λ (r : Need). is_inside r.at r.len q) ranges k d within)) run first

-- the place lies in one of the ranges, and its byte isn't known
abbrev pub is_missed : PictureFacts → List Need → ℕ → Bool
is_missed p ranges q = is_among ranges q && not (is_known p q)

false_and : (a b : Bool) → a ≡ false → (a && b) ≡ false
false_and true b e = absurd (cc)
false_and false b e = refl

true_and : (a b : Bool) → a ≡ true → (a && b) ≡ b
true_and true b e = refl
true_and false b e = absurd (cc)

-- behind a run those up to its end are counted
pub run_counts : (p : PictureFacts) (ranges : List Need) (place from end : ℕ) → IsRun (is_among ranges) place from end
    → count_in (is_missed p ranges) 0 place + count_in (is_unknown p) from (end - from) ≡ count_in (is_missed p ranges) 0 end
run_counts p ranges place from end run =
    let above = run.above in
    let some = run.some in
    let miss : ℕ → Bool = is_missed p ranges in
    let whole : count_in miss 0 end ≡ count_in miss 0 (place + ((from - place) + (end - from))) =
    ap (count_in miss 0) (let e : end ≡ place + ((from - place) + (end - from)) = omega (arith, above, some) in e) in
    let one = count-split miss 0 place ((from - place) + (end - from)) in
    let moved : count_in miss (0 + place) ((from - place) + (end - from)) ≡ count_in miss place ((from - place) + (end - from)) =
    ap (λ k. count_in miss k ((from - place) + (end - from))) (let e : 0 + place ≡ place = omega arith in e) in
    let two = count-split miss place (from - place) (end - from) in
    let there : count_in miss (place + (from - place)) (end - from) ≡ count_in miss from (end - from) =
    ap (λ k. count_in miss k (end - from)) (let e : place + (from - place) ≡ from = omega (arith, above) in e) in
    let before : count_in miss place (from - place) ≡ 0 =
    count-none miss place (from - place) (λ q a b. false_and (is_among ranges q) (not (is_known p q)) (run.before q a (omega (arith, b, above)))) in
    let mid : count_in miss from (end - from) ≡ count_in (is_unknown p) from (end - from) =
    count-same miss (is_unknown p) from (end - from)
    (λ q a b. true_and (is_among ranges q) (not (is_known p q)) (run.inside q a (omega (arith, b, some)))) in
    omega (arith, whole, one, moved, two, there, before, mid)

-- a place of a range that lies in the file lies in it
pub among_under : (ranges : List Need) (size q : ℕ) → All (λ r. r.at + r.len ≤ size) ranges → is_among ranges q ≡ true → q < size
among_under [] size q within e = absurd (cc)
among_under (r ∷ rs) size q within e =
    of (cases_lt q size) (λ rest. among_under rs size q (All-tail (λ (n : Need). n.at + n.len ≤ size) r rs within) rest)
  where
    of : (q < size) ⊎ (size ≤ q) → (is_among rs q ≡ true → q < size) → q < size
    of (inl h) more = h
    of (inr h) more =
        let first : r.at + r.len ≤ size = All-head (λ (n : Need). n.at + n.len ≤ size) r rs within in
        let not_here : is_inside r.at r.len q ≡ false = below_not r.at r.len q (omega (arith, first, h)) in
        more (ap (λ b. b || is_among rs q) (sym not_here) ∙ e)

-- a run lies in the file
pub run_fits : (ranges : List Need) (size place from end : ℕ) → All (λ r. r.at + r.len ≤ size) ranges → IsRun (is_among ranges) place from end
    → end ≤ size
run_fits ranges size place from end within run =
    let some = run.some in
    let last = among_under ranges size (end - 1) within (run.inside (end - 1) (omega (arith, some)) (omega (arith, some))) in
    omega (arith, last, some)

-- all that is known and all that is missed are what is known or lies in one of the ranges
pub all_counted : (p : PictureFacts) (ranges : List Need) → IsPicture p
    → sum_of p.pieces + count_in (is_missed p ranges) 0 p.size ≡ count_in (is_known_or_among p ranges) 0 p.size
all_counted p ranges is =
    let known : count_in (is_known p) 0 p.size ≡ sum_of p.pieces =
    count-pieces p.pieces 0 p.size is.apart (λ i d below. let e = is.within i d below in omega (arith, e)) in
    let both = count-either (is_known p) (is_among ranges) 0 p.size in
    omega (arith, known, both)

-- up to any place they are no more than the file has
pub some_counted : (p : PictureFacts) (ranges : List Need) (place : ℕ) → IsPicture p → place ≤ p.size
    → sum_of p.pieces + count_in (is_missed p ranges) 0 place ≤ p.size
some_counted p ranges place is within =
    let all = all_counted p ranges is in
    let most = count-most (is_known_or_among p ranges) 0 p.size in
    let whole : count_in (is_missed p ranges) 0 p.size ≡ count_in (is_missed p ranges) 0 (place + (p.size - place)) =
    ap (count_in (is_missed p ranges) 0) (let e : p.size ≡ place + (p.size - place) = omega (arith, within) in e) in
    let split = count-split (is_missed p ranges) 0 place (p.size - place) in
    omega (arith, all, most, whole, split)

-- behind the last run none is missed
pub none_counted : (p : PictureFacts) (ranges : List Need) (place : ℕ) → IsPicture p → place ≤ p.size
    → ((q : ℕ) → place ≤ q → is_among ranges q ≡ false)
    → sum_of p.pieces + count_in (is_missed p ranges) 0 place ≡ count_in (is_known_or_among p ranges) 0 p.size
none_counted p ranges place is within none =
    let all = all_counted p ranges is in
    let whole : count_in (is_missed p ranges) 0 p.size ≡ count_in (is_missed p ranges) 0 (place + (p.size - place)) =
    ap (count_in (is_missed p ranges) 0) (let e : p.size ≡ place + (p.size - place) = omega (arith, within) in e) in
    let split = count-split (is_missed p ranges) 0 place (p.size - place) in
    let rest : count_in (is_missed p ranges) (0 + place) (p.size - place) ≡ 0 =
    count-none (is_missed p ranges) (0 + place) (p.size - place)
    (λ q a b. false_and (is_among ranges q) (not (is_known p q)) (none q (omega (arith, a)))) in
    omega (arith, all, whole, split, rest)

pub ruleset among = (run_counts, run_fits, some_counted, none_counted)

-- nothing is counted of no places
pub none_yet : (p : PictureFacts) (ranges : List Need) → sum_of p.pieces ≡ sum_of p.pieces + count_in (is_missed p ranges) 0 0
unfolding count_in
none_yet p ranges = omega arith
