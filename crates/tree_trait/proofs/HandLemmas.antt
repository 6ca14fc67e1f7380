-- A tree that is handed on by some calls, and then by some more.
use Rattle.std.proofs.Common.{◌⊎◌, Bool, inl, inr, ◌∙◌, arith}
use Rattle.tree_trait.specs.Found.{Versions}
use Rattle.tree_trait.specs.Shown.{ShownTree, HandsOn}

-- one after the other: a call was made where one of the two made one, and they fail where the second does
pub hands_then : {told : Bool} {version : Versions} {before mid after : ShownTree}
    {FirstAsked FirstFails ThenAsked ThenFails Asked Fails : Type 0}
    → HandsOn told version before mid FirstAsked FirstFails
    → HandsOn told version mid after ThenAsked ThenFails
    → (Asked → FirstAsked ⊎ ThenAsked) → (Fails → ThenFails) → HandsOn told version before after Asked Fails
hands_then first then asked fails =
    let earlier = first.cause.later in
    let later = then.cause.later in
    record {
      cause = record {
        later = omega (arith, earlier, later);
        rose = λ f. let risen = then.cause.rose (fails f) in omega (arith, earlier, risen);
      };
      known = λ t a. elim (asked a) [ inl x ↦ then.keeps t (first.known t x) | inr y ↦ then.known t y ];
      keeps = λ t known. then.keeps t (first.keeps t known);
      still = λ s.
          let a = first.still s in
          let b = then.still a.still in
          record { still = b.still; same = b.same ∙ a.same };
    }
