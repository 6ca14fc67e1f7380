-- The first hand over several passes: its count never falls, and what stands still stays so.
use Rattle.std.proofs.Common.{ℕ, zero, suc, ◌<◌, ◌≤◌, Bool, List, [], ◌∷◌, take, refl, sym, ◌∙◌, subst, arith}
use Rattle.path_scope.specs.Scope.{Scope}
use Rattle.row_types.specs.Name.{NameFacts}
use Rattle.tree_trait.specs.Shown.{ShownTree, StaysStill}
use Rattle.tree_walk.specs.Files.{HasManyEntries, HasManyFiles}
use Rattle.dbgd_commands.specs.CommandCauses.{HasRootGone, IsFreeHand}
use Rattle.dbgd_commands.specs.Stage.{OfFirst, Setting}

-- a hand later: its count never fell, and what stood still does
pub record HandLater (before after : ShownTree) : Type 0 where
  pub later : before.faults ≤ after.faults
  pub still : before.Still → StaysStill before after

later_both : (a b c : ShownTree) → HandLater a b → HandLater b c → HandLater a c
later_both a b c one two = record {
  later = let x = one.later in let y = two.later in omega (arith, x, y);
  still = λ stands.
      let first = one.still stands in
      let next = two.still first.still in record { still = next.still; same = next.same ∙ first.same };
}

-- nothing stands against a part of what nothing stands against
free_both : (told : Bool) (scope : Scope) (a b c : ShownTree) → HandLater a b → HandLater b c → IsFreeHand told scope a c
    → IsFreeHand told scope a b × IsFreeHand told scope b c
free_both told scope a b c one two free =
    let low = one.later in
    let high = two.later in
    let stays = one.still free.still.1 in (
      record {
        still = free.still;
        there = free.there;
        files = free.files;
        entries = free.entries;
        faultless = λ rose. free.faultless (omega (arith, rose, high));
      },
      record {
        still = (free.still.0, stays.still);
        there = subst (λ (present : List NameFacts). ¬ HasRootGone present scope) (sym stays.same) free.there;
        files = subst (λ (present : List NameFacts). ¬ HasManyFiles present scope) (sym stays.same) free.files;
        entries = subst (λ (present : List NameFacts). ¬ HasManyEntries present scope) (sym stays.same) free.entries;
        faultless = λ rose. free.faultless (omega (arith, rose, low));
      },
    )

module _ {T : Type 0} (s : Setting T) where
  pub same_later : (start hands : List T) → OfFirst s HandLater start hands → OfFirst s HandLater hands hands
  same_later [] hands is = absurd is
  same_later (x ∷ xs) [] is = absurd is
  same_later (x ∷ xs) (y ∷ ys) is = record { later = omega arith; still = λ stands. record { still = stands; same = refl } }

  pub hands_both : (a b c : List T) → OfFirst s HandLater a b → OfFirst s HandLater b c → OfFirst s HandLater a c
  hands_both [] b c one two = absurd one
  hands_both (x ∷ xs) [] c one two = absurd one
  hands_both (x ∷ xs) (y ∷ ys) [] one two = absurd two
  hands_both (x ∷ xs) (y ∷ ys) (z ∷ zs) one two = later_both (s.sees x) (s.sees y) (s.sees z) one two

  pub free_split : (scope : Scope) (a b c : List T) → OfFirst s HandLater a b → OfFirst s HandLater b c
      → OfFirst s (IsFreeHand s.tells_files scope) a c
      → OfFirst s (IsFreeHand s.tells_files scope) a b × OfFirst s (IsFreeHand s.tells_files scope) b c
  free_split scope [] b c one two free = absurd one
  free_split scope (x ∷ xs) [] c one two free = absurd one
  free_split scope (x ∷ xs) (y ∷ ys) [] one two free = absurd two
  free_split scope (x ∷ xs) (y ∷ ys) (z ∷ zs) one two free =
      free_both s.tells_files scope (s.sees x) (s.sees y) (s.sees z) one two free

  -- of the first of so many hands
  pub front_first : (Holds : ShownTree → ShownTree → Type 0) (n : ℕ) → 0 < n → (hands left : List T) → OfFirst s Holds hands left
      → OfFirst s Holds (take n hands) (take n left)
  front_first Holds zero some hands left is = absurd (omega (arith, some))
  front_first Holds (suc n) some [] left is = absurd is
  front_first Holds (suc n) some (x ∷ xs) [] is = absurd is
  front_first Holds (suc n) some (x ∷ xs) (y ∷ ys) is = is
