-- Candidates that are tried one after the other.
use Rattle.std.proofs.Common.{◌≡◌, ℕ, ◌+◌, ◌<◌, ◌||◌, inl, inr, Bool, true, false, List, [], ◌∷◌, ◌++◌, length, take}
use Rattle.std.proofs.Common.{get_or, IsTrue, refl, sym, ◌∙◌, ap}
use Rattle.std.proofs.lemmas.Bool.{false≢true, or_right}
use Rattle.std.proofs.lemmas.List.{append-nil, take_more}
use Rattle.std.proofs.lemmas.List.Concat.{flat_map-append}
use Rattle.std.proofs.lemmas.List.Folds.{list_any-append}
use Rattle.std.specs.List.{AllZip, list_any}
use Rattle.row_types.specs.Name.{NameFacts}
use Rattle.tree_trait.specs.Heard.{Heard, call_failed}
use Rattle.tree_trait.specs.Shown.{ShownTree}
use Rattle.webapi_routes.specs.declared.route.Route.{Route}
use Rattle.answer_core.specs.Given.{given_facts}
use Rattle.answer_core.specs.Loads.{DoesNotPass, Hand, HasCandidatePassed, HasStopped, HasTried, NonePasses, TriesOne, joined_parts}
use Rattle.answer_core.specs.declared.candidate.Candidate.{Candidate}
use Rattle.answer_core.specs.declared.given.Given.{Given}
use Rattle.answer_core.specs.declared.given.Tried.TheVariants as tried
use Rattle.answer_core.proofs.HearLemmas.{hears_as, hears_none, hears_then}
use Rattle.answer_core.proofs.SinceLemmas.{left_before, none_before, passes_before, since}

zip_more : {A B : Type 0} (R : A → B → Type 0) (xs : List A) (ys : List B) (x : A) (y : B)
    → AllZip R xs ys → R x y → AllZip R (xs ++ x ∷ []) (ys ++ y ∷ [])
zip_more R [] [] x y h r = (r, tt)
zip_more R [] (b ∷ ys) x y h r = absurd h
zip_more R (a ∷ xs) [] x y h r = absurd h
zip_more R (a ∷ xs) (b ∷ ys) x y h r = (h.0, zip_more R xs ys x y h.1 r)

-- one more part of what was heard
parts_more : (answers : List Heard) (parts : List (List Heard)) (part : List Heard) → answers ≡ joined_parts parts
    → answers ++ part ≡ joined_parts (parts ++ part ∷ [])
parts_more answers parts part are =
    ap (λ (before : List Heard). before ++ part) are
    ∙ ap (λ (last : List Heard). joined_parts parts ++ last) (sym (append-nil part))
    ∙ sym (flat_map-append (λ (part : List Heard). part) parts (part ∷ []))

or_same : (b c : Bool) → c ≡ false → (b || c) ≡ b
or_same true c e = refl
or_same false c e = e

-- one more of a list is taken
pub take_one : {X : Type 0} (xs : List X) (i : ℕ) {x : X} → i < length xs → x ≡ get_or xs i x
    → take i xs ++ x ∷ [] ≡ take (i + 1) xs
take_one xs i {x} within here = ap (λ z. take i xs ++ z ∷ []) here ∙ sym (take_more xs i x within)

-- before the first candidate
pub tried_none : (hand : Hand) (route : Route) → HasTried hand route [] false hand.start
tried_none hand route = record {
  answers = [];
  none = record { parts = []; are = refl; none = tt; failed = refl };
  hears = hears_as (λ (f : IsTrue false). absurd (false≢true f)) (hears_none hand);
}

-- one part more, of a candidate that doesn't pass
none_more : {hand : Hand} {route : Route} {done : List Candidate} {answers : List Heard} {fails : Bool} (one : Candidate)
    (part : List Heard) (failed : Bool) → NonePasses hand route done answers fails → DoesNotPass hand route one part
    → list_any call_failed (answers ++ part) ≡ failed → NonePasses hand route (done ++ one ∷ []) (answers ++ part) failed
none_more {hand} {route} {done} {answers} one part failed none missed is = record {
  parts = none.parts ++ part ∷ [];
  are = parts_more answers none.parts part none.are;
  none = zip_more (DoesNotPass hand route) done none.parts one part none.none missed;
  failed = is;
}

module _ {F : Type 0} {name_of : F → NameFacts} {hand : Hand} {route : Route} {fails : Bool} {now after : ShownTree} where
  -- one more doesn't pass
  pub tried_refused : {done : List Candidate} (one : Candidate) → HasTried hand route done fails now
      → TriesOne {F = F} name_of (since hand now) route one tried.Refused after
      → HasTried hand route (done ++ one ∷ []) fails after
  tried_refused one h t = record {
    answers = h.answers ++ t.part;
    none = none_more one t.part fails h.none
        (none_before hand now h.hears.hands.still route one t.part t.comes.0)
        (list_any-append call_failed h.answers t.part
        ∙ or_same (list_any call_failed h.answers) (list_any call_failed t.part) t.comes.1 ∙ h.none.failed);
    hears = hears_then h.hears t.hears (λ f. inl f);
  }

  -- a call for one more failed
  pub tried_failed : {done : List Candidate} (one : Candidate) → HasTried hand route done fails now
      → TriesOne {F = F} name_of (since hand now) route one tried.Failed after
      → HasTried hand route (done ++ one ∷ []) true after
  tried_failed one h t = record {
    answers = h.answers ++ t.part;
    none = none_more one t.part true h.none
        (none_before hand now h.hears.hands.still route one t.part t.comes.0)
        (list_any-append call_failed h.answers t.part
        ∙ or_right (list_any call_failed h.answers) (list_any call_failed t.part) t.comes.1);
    hears = hears_then h.hears t.hears (λ f. inr refl);
  }

  -- one more passed, the first
  pub tried_passed : {all : List Candidate} (place : ℕ) (one : Candidate) (given : Given F) → place < length all
      → one ≡ get_or all place one → HasTried hand route (take place all) fails now
      → TriesOne name_of (since hand now) route one (tried.Passed given) after
      → HasCandidatePassed hand route all place (given_facts name_of given) after
  tried_passed place one given within there h t = record {
    answers = h.answers ++ t.part;
    first = record {
      within = within;
      one = one;
      there = there;
      before = h.none.parts;
      none = h.none.none;
      last = t.part;
      heard = ap (λ (before : List Heard). before ++ t.part) h.none.are;
      passes = passes_before hand now h.hears.hands.still route one (given_facts name_of given) t.part t.comes;
    };
    hears = hears_then h.hears t.hears (λ f. absurd f);
  }

  -- memory was refused for one more
  pub tried_memory : {all : List Candidate} (place : ℕ) (one : Candidate) → place < length all → one ≡ get_or all place one
      → HasTried hand route (take place all) fails now
      → TriesOne {F = F} name_of (since hand now) route one tried.OutOfMemory after → HasStopped hand route all after
  tried_memory place one within there h t = record {
    answers = h.answers ++ t.part;
    stops = record {
      place = place;
      within = within;
      one = one;
      there = there;
      before = h.none.parts;
      none = h.none.none;
      last = t.part;
      heard = ap (λ (before : List Heard). before ++ t.part) h.none.are;
      left = left_before hand now h.hears.hands.still route one t.part t.comes;
    };
    hears = hears_then h.hears t.hears (λ f. absurd f);
  }
