-- What a hand heard, one part after the other.
use Rattle.std.proofs.Common.{◌≡◌, ℕ, ◌<◌, ◌⊎◌, inl, inr, Bool, List, [], ◌∷◌, ◌++◌, length, IsTrue, refl, ◌∙◌, subst, arith}
use Rattle.std.proofs.lemmas.List.{append-nil}
use Rattle.file_formats.specs.Windows.{Range}
use Rattle.file_parts.specs.AtPath.{AsksFile, FileAnswer, file_failed}
use Rattle.row_types.specs.declared.limits.TheConstants.{FILE_LIMIT}
use Rattle.tree_trait.specs.Asks.{AsksTree}
use Rattle.tree_trait.specs.Found.{Versions}
use Rattle.tree_trait.specs.Heard.{Heard, open_file, call_failed}
use Rattle.tree_trait.specs.Listens.{heard_or_none}
use Rattle.tree_trait.specs.Shown.{HandsOn, IsPresence, ShownTree}
use Rattle.tree_trait.proofs.ListenLemmas.{heard_none, lists_all, lists_both, listens_one}
use Rattle.answer_core.specs.Loads.{Hand, Hears}
use Rattle.answer_core.proofs.SinceLemmas.{since}

-- nothing was asked
pub hears_none : (hand : Hand) → Hears hand hand.start [] ⊥
hears_none hand = record {
  heard = lists_all (heard_none hand.start.heard);
  hands = record {
    cause = record { later = omega arith; rose = λ f. absurd f };
    known = λ told asked. absurd (omega (arith, asked));
    keeps = λ told known. known;
    still = λ still. record { still = still; same = refl };
  };
}

-- the same answers, where the reason for a fault is another
pub hears_as : {hand : Hand} {now : ShownTree} {answers : List Heard} {Before After : Type 0}
    → (After → Before) → Hears hand now answers Before → Hears hand now answers After
hears_as f hears = record {
  heard = hears.heard;
  hands = record {
    cause = record { later = hears.hands.cause.later; rose = λ a. hears.hands.cause.rose (f a) };
    known = hears.hands.known;
    keeps = hears.hands.keeps;
    still = hears.hands.still;
  };
}

-- what is known of the names behind two parts
known_then : {hand : Hand} {now after : ShownTree} {A B : Type 0} (xs ys : List Heard)
    → HandsOn hand.told hand.version hand.start now (0 < length xs) A
    → HandsOn hand.told hand.version now after (0 < length ys) B
    → IsTrue hand.told → 0 < length (xs ++ ys) → IsPresence hand.version after
known_then xs [] first second told asked =
    second.keeps told (first.known told (subst (λ (es : List Heard). 0 < length es) (append-nil xs) asked))
known_then xs (y ∷ ys) first second told asked = second.known told (omega arith)

-- one part after the other
pub hears_then : {hand : Hand} {now after : ShownTree} {xs ys : List Heard} {A B C : Type 0} → Hears hand now xs A
    → Hears (since hand now) after ys B → (C → A ⊎ B) → Hears hand after (xs ++ ys) C
hears_then {hand} {now} {after} {xs} {ys} first second fails =
    let earlier = first.hands.cause.later in
    let later = second.hands.cause.later in
    record {
      heard = lists_both hand.start.heard now.heard after.heard xs ys first.heard second.heard;
      hands = record {
        cause = record {
          later = omega (arith, earlier, later);
          rose = λ f. elim (fails f) [
            | inl a ↦ let risen = first.hands.cause.rose a in omega (arith, risen, later)
            | inr b ↦ let risen = second.hands.cause.rose b in omega (arith, risen, earlier)
          ];
        };
        known = known_then {hand = hand} {now = now} {after = after} xs ys first.hands second.hands;
        keeps = λ told known. second.hands.keeps told (first.hands.keeps told known);
        still = λ still.
            let a = first.hands.still still in
            let b = second.hands.still a.still in
            record { still = b.still; same = b.same ∙ a.same };
      };
    }

module _ {told : Bool} {version : Versions} {before after : ShownTree} where
  -- one call, as a part of what was heard
  pub hears_asked : {Fails : Type 0} (asked : Heard) → AsksTree told version before after asked
      → (Fails → IsTrue (call_failed asked))
      → Hears (record { told = told; version = version; start = before }) after (heard_or_none asked) Fails
  hears_asked asked asks fails = record {
    heard = (listens_one asked asks).heard;
    hands = record {
      cause = record { later = asks.hands.cause.later; rose = λ f. asks.hands.cause.rose (fails f) };
      known = λ is _. asks.hands.known is tt;
      keeps = asks.hands.keeps;
      still = asks.hands.still;
    };
  }

  -- an opening with the reads behind it
  pub hears_file : {Fails : Type 0} {Of : List ℕ → Range → Type 0} {path : List ℕ} {answer : FileAnswer}
      (asks : AsksFile Of told version path before after answer) → (Fails → answer ≡ file_failed)
      → Hears (record { told = told; version = version; start = before }) after
      (heard_or_none (open_file path FILE_LIMIT asks.opening) ++ asks.reads) Fails
  hears_file asks fails = record {
    heard = asks.listens.heard;
    hands = record {
      cause = record { later = asks.hands.cause.later; rose = λ f. asks.hands.cause.rose (fails f) };
      known = λ is _. asks.hands.known is tt;
      keeps = asks.hands.keeps;
      still = asks.hands.still;
    };
  }
