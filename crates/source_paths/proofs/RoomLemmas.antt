-- A path takes its room in a set once.
use Rattle.std.proofs.Common.{◌≡◌, ℕ, ◌+◌, ◌≤◌, Bool, true, false, List, [], ◌∷◌, arith}
use Rattle.std.specs.Prelude.{not}
use Rattle.std.specs.BTreeSet.{insert_key}
use Rattle.std.specs.Ordering.{match_ordering}
use Rattle.std.specs.declared.cmp.Ordering.{Ordering}
use Rattle.std.specs.declared.cmp.Ordering.TheVariants.{Less, Equal, Greater}
use Rattle.source_paths.specs.Room.{text_room, texts_room}

-- one more text takes its room at most
pub room-insert : (cmp : List ℕ → List ℕ → Ordering) (text : List ℕ) (texts : List (List ℕ))
    → texts_room (insert_key cmp texts text) ≤ texts_room texts + text_room text
room-insert cmp text [] = omega arith
room-insert cmp text (first ∷ rest) = by (cmp text first) (room-insert cmp text rest)
  where
    by : (o : Ordering) → texts_room (insert_key cmp rest text) ≤ texts_room rest + text_room text
        → texts_room (match_ordering o (text ∷ first ∷ rest) (first ∷ rest) (first ∷ insert_key cmp rest text))
        ≤ texts_room (first ∷ rest) + text_room text
    by Less h = omega arith
    by Equal h = omega arith
    by Greater h = omega (arith, h)

-- a path that is added wasn't there
pub no_room : (added had : Bool) → added ≡ not had → added ≡ true → had ≡ true → ⊥
no_room true true e is was = cc
no_room true false e is was = cc
no_room false had e is was = cc
