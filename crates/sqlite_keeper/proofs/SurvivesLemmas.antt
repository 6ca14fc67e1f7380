-- What a crash leaves after calls in a row.
use Rattle.std.proofs.Common.{◌≡◌, inl, ℕ, List, None, refl, subst, arith}
use Rattle.std.specs.Prelude.{IfOk}
use Rattle.sqlite.specs.Order.{Row}
use Rattle.sqlite.specs.Tree.{Trees}
use Rattle.sqlite.specs.Listing.{understood}
use Rattle.sqlite.specs.State.{State, CommitsShowing, Survives}
use Rattle.sqlite.proofs.StateLemmas.{survives_then, survives_weaker}

-- a query without RETURNING commits nothing
pub commits_nothing : (sql : List ℕ) (params : Row) (s : State) (db : Trees) → IfOk (understood s.now.schema sql) (λ c. c.returning ≡ None) → CommitsShowing sql params s db → ⊥
unfolding CommitsShowing
commits_nothing sql params s db none h =
    let e : h.0.returning ≡ None = subst (λ r. IfOk r (λ c. c.returning ≡ None)) h.1.is none in
    absurd (let some = rw e at h.2 in cc)

-- and so a crash after it leaves what it could leave before
pub survives_reading : (sql : List ℕ) (params : Row) (old new : State) → IfOk (understood old.now.schema sql) (λ c. c.returning ≡ None)
    → Survives old new (CommitsShowing sql params old) → Survives old new (λ _. ⊥)
survives_reading sql params old new none = survives_weaker old new _ _ (λ _ db h. commits_nothing sql params old db none h)

-- nothing has happened
pub survives_same : (now : State) → Survives now now (λ _. ⊥)
survives_same now =
    record { clean = omega arith; shield = λ is. is; counts = omega arith; limit = refl; closes = λ clean opened. inl opened; crash = λ clean db may. inl may }

-- one call after another, neither of which commits
pub survives_both : (a b c : State) → Survives a b (λ _. ⊥) → Survives b c (λ _. ⊥) → Survives a c (λ _. ⊥)
survives_both a b c p q = survives_then a b c (λ _. ⊥) (λ _. ⊥) (λ _. ⊥) (λ _ db none. none) (λ _ db none. none) p q
