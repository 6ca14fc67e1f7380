-- The one slot that a token has taken, before and after a plain exchange.
use Rattle.std.proofs.Common.{◌≡◌, ℕ, List, [], ◌∷◌, sym, ap, ◌∙◌}
use Rattle.atomic_table.specs.Table.{Me, rest}

-- what the slot in hand has
abbrev in_hand : {T : Type 0} → T → List (ℕ × T) → T
in_hand other [] = other
in_hand other (x ∷ xs) = x.1

module _ {T V : Type 0} where
  -- the only slot is the first
  pub one_slot : {me : Me T V} {view : V} {x : T} → me ≡ (view, (0, x) ∷ [])
      → me.1 ≡ (0, x) ∷ rest me.1
  one_slot {x = x} is =
      ap (λ (m : Me T V). m.1) is ∙ ap (λ (m : Me T V). (0, x) ∷ rest m.1) (sym is)

  -- the exchange leaves what was put in
  pub put_in : {me after : Me T V} {view : V} {x y : T} → me ≡ (view, (0, x) ∷ [])
      → after ≡ (me.0, (0, y) ∷ rest me.1) → after ≡ (view, (0, y) ∷ [])
  put_in {y = y} is e = e ∙ ap (λ (m : Me T V). (m.0, (0, y) ∷ rest m.1)) is

  -- the exchange gives what was there
  pub taken_out : {me : Me T V} {view : V} {x y : T} → me ≡ (view, (0, x) ∷ [])
      → me.1 ≡ (0, y) ∷ rest me.1 → y ≡ x
  taken_out {y = y} is e = ap (in_hand y) (sym e ∙ ap (λ (m : Me T V). m.1) is)
