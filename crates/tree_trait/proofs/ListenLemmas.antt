-- What a hand heard: from nothing, of one question, and one after the other.
use Rattle.std.proofs.Common.{◌≡◌, ◌+◌, cond, Bool, true, false, List, [], ◌∷◌, ◌++◌, Option, None, Some, refl, sym, ◌∙◌, ap, subst, arith, append_assoc}
use Rattle.std.specs.Prelude.{IsSome, if◌then◌else◌}
use Rattle.std.specs.List.{All, Contains}
use Rattle.std.proofs.lemmas.Bool.{false≢true}
use Rattle.std.proofs.lemmas.List.{append-nil}
use Rattle.std.proofs.lemmas.List.Elements.{All-nil, All-cons, All-head, All-tail, All-append, Contains-push}
use Rattle.std.proofs.lemmas.List.Sums.{sum_by-append}
use Rattle.row_types.specs.Name.{NameFacts}
use Rattle.tree_trait.specs.Asks.{AsksTree, FitsAny, IsAnswerTold}
use Rattle.tree_trait.specs.Found.{Versions}
use Rattle.tree_trait.specs.Heard.{Heard, IsNoRead, list_after, wants_memory, with_answers}
use Rattle.tree_trait.specs.Listens.{Listens, ListsAnswers, heard_or_none, is_load, loads}
use Rattle.tree_trait.specs.Shown.{ShownTree, StaysStill}

-- nothing was heard
pub heard_none : (told : Option (List Heard)) → told ≡ with_answers told []
heard_none None = refl
heard_none (Some heard) = ap Some (sym (append-nil heard))

pub heard_both : (told mid new : Option (List Heard)) (xs ys : List Heard)
    → mid ≡ with_answers told xs → new ≡ with_answers mid ys → new ≡ with_answers told (xs ++ ys)
heard_both None mid new xs ys m n = n ∙ ap (λ t. with_answers t ys) m
heard_both (Some heard) mid new xs ys m n = n ∙ ap (λ t. with_answers t ys) m ∙ ap Some (append_assoc heard xs ys)

-- the same where the list may be lost on the way
pub told_both : (told mid new : Option (List Heard)) (xs ys : List Heard)
    → (IsSome mid → mid ≡ with_answers told xs) → (IsSome new → new ≡ with_answers mid ys)
    → IsSome new → new ≡ with_answers told (xs ++ ys)
told_both told None new xs ys p q =
    λ some. absurd (false≢true (subst (λ (t : Option (List Heard)). IsSome t) (q some) some))
told_both told (Some mid) new xs ys p q = λ some. heard_both told (Some mid) new xs ys (p refl) (q some)

pub lists_all : {told new : Option (List Heard)} {answers : List Heard} → new ≡ with_answers told answers
    → ListsAnswers told answers new
lists_all same = record { told = λ _. same; unread = λ _. same }

-- the front of a list, and the rest of it
pub heard_front : (P : Heard → Type 0) (xs ys : List Heard) → All P (xs ++ ys) → All P xs
heard_front P [] ys all = All-nil P
heard_front P (x ∷ xs) ys all = All-cons P x xs (All-head P x (xs ++ ys) all) (heard_front P xs ys (All-tail P x (xs ++ ys) all))

pub rest_all : (P : Heard → Type 0) (xs ys : List Heard) → All P (xs ++ ys) → All P ys
rest_all P [] ys all = all
rest_all P (x ∷ xs) ys all = rest_all P xs ys (All-tail P x (xs ++ ys) all)

pub lists_both : (told mid new : Option (List Heard)) (xs ys : List Heard) → ListsAnswers told xs mid
    → ListsAnswers mid ys new → ListsAnswers told (xs ++ ys) new
lists_both told mid new xs ys p q = record {
  told = told_both told mid new xs ys p.told q.told;
  unread = λ none.
      heard_both told mid new xs ys (p.unread (heard_front IsNoRead xs ys none)) (q.unread (rest_all IsNoRead xs ys none));
}

heard_one : (told : Option (List Heard)) {new : Option (List Heard)} (asked : Heard)
    → new ≡ list_after told asked → new ≡ with_answers told (heard_or_none asked)
heard_one told {new} asked h =
    elim (wants_memory asked) as (λ b. new ≡ (if b then told else with_answers told (asked ∷ []))
    → new ≡ with_answers told (if b then [] else asked ∷ [])) [
      | true ↦ λ same. same ∙ heard_none told
      | false ↦ λ more. more
    ] h

-- what holds of the question holds of what was heard of it
pub all_heard : (P : Heard → Type 0) (asked : Heard) → P asked → All P (heard_or_none asked)
all_heard P asked h =
    elim (wants_memory asked) as (λ b. All P (if b then [] else asked ∷ [])) [
      | true ↦ All-nil P
      | false ↦ All-cons P asked [] h (All-nil P)
    ]

-- and it was heard, where memory wasn't refused
pub is_heard : (asked : Heard) → wants_memory asked ≡ false → Contains (heard_or_none asked) asked
is_heard asked e =
    subst (λ b. Contains (if b then [] else asked ∷ []) asked) (sym e) (Contains-push [] asked)

pub stays_on : {before mid after : ShownTree} → (before.Still → StaysStill before mid)
    → (mid.Still → StaysStill mid after) → before.Still → StaysStill before after
stays_on p q still = record { still = (q (p still).still).still; same = (q (p still).still).same ∙ (p still).same }

module _ {told : Bool} {version : Versions} where
  -- nothing was heard
  pub listens_none : {hand : ShownTree} → Listens told version hand hand []
  listens_none {hand} = record {
    heard = lists_all (heard_none hand.heard);
    fits = All-nil (FitsAny version);
    tells = λ _ _. All-nil (IsAnswerTold hand.present);
    hand = record {
      cause = record { later = omega arith; rose = λ never. absurd never };
      known = λ _ never. absurd never;
      keeps = λ _ known. known;
      still = λ still. record { still = still; same = refl };
    };
  }

  -- what was heard of one question
  pub listens_one : {before after : ShownTree} (asked : Heard) → AsksTree told version before after asked
      → Listens told version before after (heard_or_none asked)
  listens_one {before} {after} asked asks = record {
    heard = lists_all (heard_one before.heard asked asks.listed);
    fits = all_heard (FitsAny version) asked asks.fits;
    tells = λ t still.
        all_heard (IsAnswerTold before.present) asked
        (subst (λ (names : List NameFacts). IsAnswerTold names asked) (asks.hands.still still).same (asks.tells t));
    hand = record {
      cause = record { later = asks.hands.cause.later; rose = λ never. absurd never };
      known = λ _ never. absurd never;
      keeps = asks.hands.keeps;
      still = asks.hands.still;
    };
  }

  -- one after the other
  pub listens_then : {before mid after : ShownTree} {xs ys : List Heard} → Listens told version before mid xs
      → Listens told version mid after ys → Listens told version before after (xs ++ ys)
  listens_then {before} {mid} {after} {xs} {ys} p q = record {
    heard = lists_both before.heard mid.heard after.heard xs ys p.heard q.heard;
    fits = All-append (FitsAny version) xs ys p.fits q.fits;
    tells = λ t still.
        All-append (IsAnswerTold before.present) xs ys (p.tells t still)
        (subst (λ (names : List NameFacts). All (IsAnswerTold names) ys) (p.hand.still still).same
        (q.tells t (p.hand.still still).still));
    hand = record {
      cause = record { later = omega (arith, p.hand.cause.later, q.hand.cause.later); rose = λ never. absurd never };
      known = λ _ never. absurd never;
      keeps = λ t known. q.hand.keeps t (p.hand.keeps t known);
      still = stays_on p.hand.still q.hand.still;
    };
  }

-- how many loads were heard, one after the other
pub loads_both : (xs ys : List Heard) → loads (xs ++ ys) ≡ loads xs + loads ys
loads_both xs ys = sum_by-append (λ asked. cond (is_load asked) 1 0) xs ys
