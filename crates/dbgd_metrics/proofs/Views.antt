-- The views of a table after one of them changed, and rows that are or aren't the same.
use Rattle.std.proofs.Common.{◌≡◌, ◌≢◌, ℕ, zero, suc, List, [], ◌∷◌, refl, sym, ap, ◌∙◌, subst, ⊎_elim, set, Option, Some, None}
use Rattle.std.specs.Prelude.{unwrap_or}
use mathlib.Core.Option.{some, some-injective, some-ne-none}
use mathlib.Core.Logic.{dite}
use native.Mathlib.Decide.{ℕ_discrete}
use lib.ListN.{get_elem?}
use Rattle.atomic_table.proofs.Lists.{at_set, set_else}
use Rattle.dbgd_metrics.specs.declared.view.Known.{Known}

-- a row is there
abbrev IsRow : Option ℕ → Type 0
IsRow None = ⊥
IsRow (Some row) = Unit {0}

pub row_or_none : {row : ℕ} {o : Option ℕ} → o ≡ Some row → o ≡ None → ⊥
row_or_none {row} {o} is none = subst IsRow (sym is ∙ none) tt

pub one_row : {a b : ℕ} {o : Option ℕ} → o ≡ Some a → o ≡ Some b → a ≡ b
one_row {a} {b} {o} e f = ap (λ (x : Option ℕ). unwrap_or x 0) (sym e ∙ f)

-- a place that is there, after a write
pub set_there : {A : Type 0} (l : List A) (i : ℕ) (new old : A) → get_elem? l i ≡ some old → get_elem? (set l i new) i ≡ some new
set_there [] i new old e = absurd (some-ne-none old (sym e))
set_there (x ∷ xs) zero new old e = refl
set_there (x ∷ xs) (suc i) new old e = set_there xs i new old e

-- each view after a change of one was there before, or is the new one
pub by_view : (P : ℕ → Known → Type 0) (views : List Known) (id : ℕ) (new : Known) → P id new
    → ((j : ℕ) (known : Known) → j ≢ id → get_elem? views j ≡ some known → P j known)
    → (j : ℕ) (known : Known) → get_elem? (set views id new) j ≡ some known → P j known
by_view P views id new here there j known at = ⊎_elim (λ (t : (j ≡ id) × (new ≡ known)). subst (λ (k : Known). P j k) t.1 (subst (λ (n : ℕ). P n new) (sym t.0) here))
    (λ (t : (j ≢ id) × (get_elem? views j ≡ some known)). there j known t.0 t.1) (at_set views id j new known at)

-- a seat that has a row has it after a change that leaves the row
pub still_owned : (views : List Known) (id j row : ℕ) (old new known : Known) → get_elem? views id ≡ some old → (old.row ≡ Some row → new.row ≡ Some row)
    → get_elem? views j ≡ some known → known.row ≡ Some row → (other : Known) × (get_elem? (set views id new) j ≡ some other) × (other.row ≡ Some row)
still_owned views id j row old new known at keeps there is = dite (ℕ_discrete j id)
    (λ (e : j ≡ id). let same : known ≡ old = some-injective known old (sym there ∙ (ap (get_elem? views) e ∙ at)) in
    (new, ap (get_elem? (set views id new)) e ∙ set_there views id new old at, keeps (ap (λ (k : Known). k.row) (sym same) ∙ is)))
    (λ (n : j ≢ id). (known, set_else views id j new n ∙ there, is))
